-- Stretches of vector code, word after word.
use Rattle.std.proofs.Common.{◌≡◌, ℕ, ◌%◌, ◌<◌, ◌≤◌, ℤ, List, [], ◌∷◌, refl, sym, ap, ◌∙◌, subst, arith, get_or-set_same, get_or-set_other}
use Rattle.std.specs.Prelude.{slice_index_or}
use Rattle.std.proofs.lemmas.List.Elements.{All-get_or}
use Rattle.guest_types.specs.declared.length.Width.{Width}
use Rattle.guest_types.specs.declared.length.Width.TheVariants.{B}
use Rattle.guest_types.specs.Length.{IsLength, width_bytes, modulus, lanes}
use Rattle.guest_types.specs.Elements.{register, at, active}
use Rattle.guest_types.specs.LaneMemory.{width_of_size}
use Rattle.guest_types.proofs.AtWidths.{at-register, width_bytes-lanes}
use Rattle.machine_model.specs.Machine.{State, z_at, with_z, next}
use Rattle.machine_model.specs.VectorEffects.{do_vector, put_lanes}
use Rattle.machine_model.specs.States.{IsVector, IsState}
use Rattle.machine_model.proofs.StateSteps.{vector_made, lanes_put}
use Rattle.lane_emit.specs.Right.{ZRight}
use Rattle.lane_emit.specs.Stretch.{VectorInstruction, do_all, and_then, OnlyZ, Ready, MakesZ}
use Rattle.lane_emit.specs.LaneCode.{size_of}
use Rattle.lane_emit.proofs.Residues.{held, held-whole}
use Rattle.lane_emit.proofs.BitwiseLanes.{Small, small_all}

pub width-size : (w : Width) → width_of_size (size_of w) ≡ w
width-size B = refl
width-size other = refl

-- ---- what is left alone

pub only_same : (d : ℕ) (s : State) → OnlyZ d s s
only_same d s = record { memory = refl; x = refl; sp = refl; flags = refl; z = λ n ne. refl; p = refl; ffr = refl; vl = refl; stops = refl }

pub only_then : {d : ℕ} {s t u : State} → OnlyZ d s t → OnlyZ d t u → OnlyZ d s u
only_then a b = record {
  memory = b.memory ∙ a.memory;
  x = b.x ∙ a.x;
  sp = b.sp ∙ a.sp;
  flags = b.flags ∙ a.flags;
  z = λ n ne. b.z n ne ∙ a.z n ne;
  p = b.p ∙ a.p;
  ffr = b.ffr ∙ a.ffr;
  vl = b.vl ∙ a.vl;
  stops = b.stops ∙ a.stops;
}

pub only_wrote : (d : ℕ) (s : State) (bytes : List ℕ) → OnlyZ d s (next (with_z s d bytes))
only_wrote d s bytes = record { memory = refl; x = refl; sp = refl; flags = refl; z = λ n ne. get_or-set_other s.z d n bytes [] ne; p = refl; ffr = refl; vl = refl; stops = refl }

pub ready_then : {w : Width} {n d : ℕ} {s t : State} → Ready w n s → IsState t → OnlyZ d s t → Ready w n t
ready_then {w = w} {n = n} r is only = record {
  is = is;
  few = subst (λ v. n ≤ lanes v w) (sym only.vl) r.few;
  all = λ e lt. ap (λ p. active w (slice_index_or p 1 []) e) only.p ∙ r.all e lt;
}

-- ---- registers

pub vector_at : (s : State) (a : ℕ) → IsState s → a < 32 → IsVector s.vl (z_at s a)
vector_at s a h lt = All-get_or (IsVector s.vl) s.z a [] (omega (arith, h.z_count, lt)) h.z_each

pub small_at : (s : State) (a : ℕ) → IsState s → a < 32 → Small (z_at s a)
small_at s a h lt = small_all (z_at s a) (vector_at s a h lt).small

pub small_made : (vl : ℕ) (w : Width) (f : ℕ → ℕ) → IsLength vl → Small (register (width_bytes w) f (lanes vl w))
small_made vl w f h = small_all _ (vector_made vl (width_bytes w) f (lanes vl w) h (omega (arith, width_bytes-lanes vl w h))).small

-- ---- words

pub done_z : {s : State} {d : ℕ} {w : Width} {n : ℕ} {v : ℕ → ℤ} → IsState s → ZRight w n (z_at s d) v → MakesZ [] s d w n v
done_z {s = s} {d = d} h right = record { end = s; runs = refl; is = h; only = only_same d s; right = right }

-- the same value by another name
pub renamed_z : {c : List VectorInstruction} {s : State} {d : ℕ} {w : Width} {n : ℕ} {u v : ℕ → ℤ} → ((e : ℕ) → e < n → held w (u e) ≡ held w (v e)) → MakesZ c s d w n u → MakesZ c s d w n v
renamed_z same m = record { end = m.end; runs = m.runs; is = m.is; only = m.only; right = λ e lt. m.right e lt ∙ same e lt }

-- a word that writes elements, and the rest of the code
pub first_z : {i : VectorInstruction} {rest : List VectorInstruction} {s : State} {d : ℕ} (w : Width) {n : ℕ} (k : Width) (f : ℕ → ℕ) (u : ℕ → ℤ) {v : ℕ → ℤ} → IsState s → d < 32 → do_vector i s ≡ put_lanes s d k f → ZRight w n (register (width_bytes k) f (lanes s.vl k)) u
    → ((t : State) → IsState t → OnlyZ d s t → ZRight w n (z_at t d) u → MakesZ rest t d w n v) → MakesZ (i ∷ rest) s d w n v
first_z {i = i} {rest = rest} {s = s} {d = d} w {n = n} k f u h lt does right more =
    let bytes = register (width_bytes k) f (lanes s.vl k) in
    let t = next (with_z s d bytes) in
    let is : IsState t = lanes_put s t d k f h refl in
    let written : z_at t d ≡ bytes = get_or-set_same s.z d bytes [] (omega (arith, h.z_count, lt)) in
    let m = more t is (only_wrote d s bytes) (λ e el. ap (λ z. at w z e) written ∙ right e el) in
    record {
      end = m.end;
      runs = ap (λ o. and_then o (do_all rest)) does ∙ m.runs;
      is = m.is;
      only = only_then (only_wrote d s bytes) m.only;
      right = m.right;
    }

-- elements that hold values
pub held_lanes : (w : Width) (n count : ℕ) (f : ℕ → ℕ) (u : ℕ → ℤ) → n ≤ count → ((e : ℕ) → e < n → f e ≡ held w (u e)) → ZRight w n (register (width_bytes w) f count) u
held_lanes w n count f u le same e lt = at-register w f count e (omega (arith, lt, le)) ∙ ap (λ m. m % modulus w) (same e lt) ∙ held-whole w (u e)

pub lanes_z : {i : VectorInstruction} {rest : List VectorInstruction} {s : State} {d : ℕ} (w : Width) {n : ℕ} (f : ℕ → ℕ) (u : ℕ → ℤ) {v : ℕ → ℤ} → Ready w n s → d < 32 → do_vector i s ≡ put_lanes s d w f → ((e : ℕ) → e < n → f e ≡ held w (u e))
    → ((t : State) → IsState t → OnlyZ d s t → ZRight w n (z_at t d) u → MakesZ rest t d w n v) → MakesZ (i ∷ rest) s d w n v
lanes_z {s = s} w {n = n} f u r lt does same more = first_z w w f u r.is lt does (held_lanes w n (lanes s.vl w) f u r.few same) more

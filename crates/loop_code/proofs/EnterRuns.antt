-- What the words before the first iteration do: arrays stand ahead, and the loop variable behind.
use Rattle.std.proofs.Common.{◌≡◌, ◌≢◌, ℕ, ◌*◌, ◌%◌, ◌^◌, ◌<◌, ◌≤◌, true, false, List, [], ◌∷◌, ◌++◌, length, Some, refl, sym, ap, ap₂, ◌∙◌, subst, arith, append-nil, append_assoc}
use Rattle.std.specs.Prelude.{ℤ, pos, ◌+ℤ◌, ◌-ℤ◌, bytes_eq}
use Rattle.std.proofs.Math.Nat.{mod-eq_of_lt}
use Rattle.machine_model.specs.InstructionTable.{Listed}
use Rattle.machine_model.specs.Machine.{State, Went, x_at}
use Rattle.machine_model.specs.Arithmetic.{sum, difference, shifted_word}
use Rattle.a64_code.specs.Table.{add, sub}
use Rattle.kernel_tree.specs.declared.ops.Ty.{Ty}
use Rattle.kernel_tree.specs.declared.ops.Ty.TheVariants as ty
use Rattle.kernel_tree.specs.Typing.{Scope}
use Rattle.kernel_tree.specs.Wrap.{bits_of, byte_count, log_bytes}
use Rattle.kernel_tree.proofs.Names.{bytes_swap}
use Rattle.kernel_meaning.specs.Operators.{word}
use Rattle.kernel_meaning.specs.Eval.{Names, value_at}
use Rattle.kernel_meaning.specs.Iterate.{assigned}
use Rattle.kernel_meaning.proofs.Residues.{word-below}
use Rattle.label_fix.specs.DraftRun.{DraftEntry, Put, Laid, effect, word_of}
use Rattle.label_fix.proofs.StretchSteps.{Goes, Resolves, stay, chain, put_goes}
use Rattle.scalar_words.specs.Layout.{Form, LowBits, Ahead, Behind, Loose, loose_in, Layout, Homes, register_at, NameLasts}
use Rattle.scalar_words.specs.Words.{word_code}
use Rattle.scalar_words.specs.Safe.{Only}
use Rattle.scalar_words.proofs.LayoutStates.{Assigned, AreSafe, AreInRegisters, Tells, Told, name_held, name_found, wrote, wrote_same, wrote_shaped, changes_own}
use Rattle.scalar_words.proofs.Told.{tells_itself, told_at}
use Rattle.scalar_words.proofs.Binary.{word-difference}
use Rattle.scalar_words.proofs.WordsRuns.{Sets}
use Rattle.scalar_words.proofs.Constants.{word_back}
use Rattle.value_code.proofs.Loads.{word-sum}
use Rattle.loop_code.specs.Loop.{enter_word, enter_code, AreHeldLoosely}
use Rattle.loop_code.proofs.StmtRuns.{held_assigned}
use Rattle.loop_code.proofs.LooseNames.{AreOnce, first_in, before_none, loose_in_past, loose_in_of_push, told_changed, only_apart, entering_words, all_entering}

-- no name of these is this one
abbrev pub AreUnlike : List ℕ → List Loose → Type 0
AreUnlike y [] = Unit {0}
AreUnlike y (l ∷ ls) = (bytes_eq l.name y ≡ false) × AreUnlike y ls

-- a word that writes an integer into a register
pub wrote_sets : (D : Laid) {i : Listed} {rest : List DraftEntry} {s : State} (d v : ℕ) (u : ℤ) → length s.x ≡ 31 → d ≤ 25 → effect i s ≡ Went (wrote s d v) → v ≡ word u → Sets D (Put i ∷ rest) s rest d u 1
wrote_sets D {s = s} d v u sized hi does is = record {
  end = wrote s d v;
  goes = put_goes does;
  changes = changes_own s d v;
  value = wrote_same s d v (omega (arith, sized, hi)) ∙ is;
  shaped = λ h. wrote_shaped s d v (let w = word-below u in omega (arith, is, w)) h;
}

shifted_bytes : (t : Ty) (n : ℕ) → shifted_word 0 n (log_bytes t) ≡ word (pos (byte_count t * n))
shifted_bytes ty.I8 n = omega arith
shifted_bytes other n = omega arith

-- what is to stand in a register that has a value
abbrev entered : Form → (count : ℕ) → ℤ → ℤ
entered (LowBits t) n z = z
entered (Ahead t) n z = z +ℤ pos (byte_count t * n)
entered Behind n z = z -ℤ pos n

entered_tells : (f : Form) (n : ℕ) (z v : ℤ) → z ≡ v → Tells n (Some f) (entered f n z) v
entered_tells (LowBits t) n z v e = ap (λ y. word y % 2 ^ bits_of t) e
entered_tells (Ahead t) n z v e = ap (λ y. y +ℤ pos (byte_count t * n)) e
entered_tells Behind n z v e = ap (λ y. y -ℤ pos n) e

module _ (D : Laid) where
  enter_sets : (f : Form) (q r n : ℕ) (z : ℤ) {rest : List DraftEntry} {s : State} → length s.x ≡ 31 → q ≤ 25 → n < 2 ^ 64 → x_at s q ≡ word z → x_at s r ≡ n → Sets D (word_code (enter_word r q f) rest) s rest q (entered f n z) (entering_words f)
  enter_sets (LowBits t) q r n z {s = s} sized hi small ez en = record { end = s; goes = stay 0; changes = record { memory = refl; sized = refl; frame = refl; others = λ r le ne. refl }; value = ez; shaped = λ h. h }
  enter_sets (Ahead t) q r n z {s = s} sized hi small ez en =
      wrote_sets D {i = word_of add (q ∷ q ∷ log_bytes t ∷ r ∷ 0 ∷ [])} q (sum (x_at s q) (shifted_word 0 (x_at s r) (log_bytes t))) (z +ℤ pos (byte_count t * n)) sized hi refl
      (ap₂ (λ a b. sum a (shifted_word 0 b (log_bytes t))) ez en ∙ ap (sum (word z)) (shifted_bytes t n) ∙ sym (word-sum z (pos (byte_count t * n))))
  enter_sets Behind q r n z {s = s} sized hi small ez en =
      let low : word (pos n) ≡ n = mod-eq_of_lt small in
      let plain : shifted_word 0 n 0 ≡ n = omega (arith, small) in
      wrote_sets D {i = word_of sub (q ∷ q ∷ 0 ∷ r ∷ 0 ∷ [])} q (difference (x_at s q) (shifted_word 0 (x_at s r) 0)) (z -ℤ pos n) sized hi refl
      (ap₂ (λ a b. difference a (shifted_word 0 b 0)) ez en ∙ ap (difference (word z)) (plain ∙ sym low) ∙ sym (word-difference z (pos n)))

  pub enter_back : (r : ℕ) (hs : Homes) (ls : List Loose) (rest : List DraftEntry) → Resolves D (enter_code r hs ls rest) → Resolves D rest
  enter_back r hs [] rest h = h
  enter_back r hs (l ∷ ls) rest h = enter_back r hs ls rest (word_back D (enter_word r (register_at hs l.name) l.form) _ h)

-- what stands in the registers while iterations last
pub record Enters (D : Laid) (c : List DraftEntry) (s : State) (rest : List DraftEntry) (hs : Homes) (ls : List Loose) (ns : Names) (p r n most : ℕ) : Type 0 where
  pub end : State
  pub goes : Goes D c s rest end most
  pub memory : end.memory ≡ s.memory
  pub sized : length end.x ≡ length s.x
  pub bound : x_at end r ≡ n
  pub stand : Names
  pub told : Told ls n stand ns
  pub held : AreInRegisters hs stand p end

module _ (D : Laid) (L : Layout) (fit : Assigned L) (hs : Homes) (sc : Scope) (p : ℕ) (safe : AreSafe L p hs) (y : List ℕ) (r n : ℕ) (lasts : NameLasts hs y p) (same : register_at hs y ≡ r) (small : n < 2 ^ 64) where
  bound_high : r ≤ 25
  bound_high = let f = (name_found L hs y p p (omega arith) safe lasts).high in omega (arith, f, same)

  -- the bound's register is that of no name that is held loosely
  pub bound_apart : (x : List ℕ) → bytes_eq x y ≡ false → Only hs x (register_at hs x) p → r ≢ register_at hs x
  bound_apart x ne only = λ e. only_apart hs x y (register_at hs x) p (bytes_swap x y ne) only lasts (same ∙ e)

  pub enter_runs : (ls done : List Loose) (rest : List DraftEntry) (zs ns : Names) (s : State) → length s.x ≡ 31 → AreHeldLoosely hs sc p ls → AreUnlike y ls → AreOnce (done ++ ls) → x_at s r ≡ n → Told done n zs ns → AreInRegisters hs zs p s → Enters D (enter_code r hs ls rest) s rest hs (done ++ ls) ns p r n (all_entering ls)
  enter_runs [] done rest zs ns s sized are unlike once bound told held = record { end = s; goes = stay 0; memory = refl; sized = refl; bound = bound; stand = zs; told = subst (λ ds. Told ds n zs ns) (sym (append-nil done)) told; held = held }
  enter_runs (l ∷ ls) done rest zs ns s sized are unlike once bound told held =
      let one = are.0 in
      let x = l.name in
      let q = register_at hs x in
      let only = one.1.1 in
      let found = name_found L hs x p p (omega arith) safe one.1.0 in
      let z = value_at zs x in
      let v = value_at ns x in
      let u = entered l.form n z in
      let none = before_none done l ls once in
      let itself : tells_itself (loose_in done x) ≡ true = ap tells_itself none in
      let is : z ≡ v = subst (λ o. Tells n o z v) none (told_at done n zs ns x itself told) in
      let k = enter_sets D l.form q r n z {rest = enter_code r hs ls rest} {s = s} sized found.high small (name_held hs zs x p s sized held one.1.0) bound in
      let more = done ++ l ∷ [] in
      let tells : Tells n (loose_in more x) u v = subst (λ o. Tells n o u v) (sym (loose_in_past done (l ∷ []) x none ∙ first_in l [])) (entered_tells l.form n z v is) in
      let told1 = told_changed done more n x u hs zs ns p s (λ w e. loose_in_of_push done l w e) one.2 held told tells in
      let f = enter_runs ls more rest (assigned x u zs) ns k.end (k.changes.sized ∙ sized) are.1 unlike.1 (subst AreOnce (sym (append_assoc done (l ∷ []) ls)) once) (k.changes.others r bound_high (bound_apart x unlike.0 only) ∙ bound) told1 (held_assigned D L fit hs zs x u q p s k.end safe held k.changes k.value only) in
      record {
        end = f.end;
        goes = chain (all_entering (l ∷ ls)) (omega arith) k.goes f.goes;
        memory = f.memory ∙ k.changes.memory;
        sized = f.sized ∙ k.changes.sized;
        bound = f.bound;
        stand = f.stand;
        told = subst (λ ds. Told ds n f.stand ns) (append_assoc done (l ∷ []) ls) f.told;
        held = f.held;
      }

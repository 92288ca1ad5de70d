-- What the code does that joins the elements of one accumulator with its general register.
use Rattle.std.proofs.Common.{◌≡◌, ◌≢◌, ℕ, ◌%◌, ◌^◌, ◌<◌, ◌≤◌, ℤ, pos, true, List, [], ◌∷◌, refl, sym, ap, ◌∙◌, subst, arith, lit<}
use Rattle.std.specs.Prelude.{slice_index, slice_index_or}
use Rattle.std.proofs.lemmas.List.Elements.{All-get_or}
use Rattle.std.proofs.Math.Nat.{mod-eq_of_lt}
use Rattle.guest_types.specs.declared.length.Width.{Width}
use Rattle.guest_types.specs.Length.{width_bits, lanes}
use Rattle.guest_types.specs.Elements.{element}
use Rattle.kernel_tree.specs.declared.ops.Ty.{Ty}
use Rattle.kernel_tree.specs.declared.ops.UpdateOp.{UpdateOp}
use Rattle.kernel_tree.specs.Wrap.{wrap, residue, bits_of}
use Rattle.kernel_meaning.specs.Operators.{word, operator_of}
use Rattle.machine_model.specs.Machine.{State, x_at, z_at}
use Rattle.machine_model.specs.States.{IsState}
use Rattle.machine_model.proofs.ScalarStates.{scalar_keeps}
use Rattle.a64_code.specs.Table.{umov}
use Rattle.label_fix.specs.DraftRun.{DraftEntry, Laid, ins, word_of}
use Rattle.label_fix.specs.Stretches.{Goes}
use Rattle.label_fix.proofs.StretchSteps.{put_goes, chain}
use Rattle.lane_emit.specs.Right.{IsOf}
use Rattle.lane_emit.specs.Stretch.{Ready}
use Rattle.lane_emit.proofs.Ranges.{wrap-of}
use Rattle.lane_emit.specs.Joins.{joined}
use Rattle.lane_emit.specs.Folds.{together}
use Rattle.lane_emit.specs.AccumulatorLanes.{LanesHold}
use Rattle.reductions.specs.Reductions.{reduce_code}
use Rattle.lane_emit.proofs.JoinLaws.{own, wrap_by_held}
use Rattle.lane_emit.proofs.FoldOrders.{together_of}
use Rattle.reductions.proofs.Reduce.{reduction_together}
use Rattle.scalar_words.specs.Layout.{Layout}
use Rattle.scalar_words.specs.Words as scalar
use Rattle.scalar_words.specs.Words.{word_code, settle_word}
use Rattle.scalar_words.specs.Safe.{Assigned}
use Rattle.scalar_words.specs.Iterations.{Frame}
use Rattle.scalar_words.proofs.LayoutStates.{wrote, wrote_same, wrote_other}
use Rattle.scalar_words.proofs.WordsRuns.{extended_sets}
use Rattle.scalar_words.proofs.Binary.{binary_sets}
use Rattle.chunk_emit.proofs.DraftVectors.{do_goes}
use Rattle.loop_form.specs.Lanes.{type_width}
use Rattle.reductions.specs.EdgeCode.{join_code}

-- a word whose low bits are those of a value is that value at the type
low_wrap : (t : Ty) (n : ℕ) (v : ℤ) → n % 2 ^ bits_of t ≡ residue (bits_of t) v → IsOf t v → wrap t (pos n) ≡ v
low_wrap t n v low h =
    let same : residue (width_bits (type_width t)) (pos n) ≡ residue (width_bits (type_width t)) v = subst (λ k. residue k (pos n) ≡ residue k v) (own t) low in
    wrap_by_held t (pos n) v same ∙ wrap-of t v h

-- no values of items
abbrev bare : Layout
bare = record { regs = []; last_uses = []; constants = []; loose = [] }

bare_assigned : Assigned bare
bare_assigned = record {
  low = λ p made. absurd (omega (arith, made));
  high = λ p made. absurd (omega (arith, made));
  apart = λ p q lt live made. absurd (omega (arith, made));
  constants = λ z r e. absurd cc;
}

-- One general register has the value now; besides it, those from X26 on and Z31 alone may differ.
pub record Joined (D : Laid) (c : List DraftEntry) (s : State) (rest : List DraftEntry) (x : ℕ) (v : ℤ) (most : ℕ) : Type 0 where
  pub end : State
  pub goes : Goes D c s rest end most
  pub is : IsState end
  pub value : x_at end x ≡ word v
  pub others : (r : ℕ) → r ≤ 25 → r ≢ x → x_at end r ≡ x_at s r
  pub memory : end.memory ≡ s.memory
  pub z : (n : ℕ) → n ≢ 31 → z_at end n ≡ z_at s n
  pub p : end.p ≡ s.p
  pub vl : end.vl ≡ s.vl

module _ (D : Laid) (w : Width) (op : UpdateOp) (t : Ty) where
  -- after the reduction: into X27, extended, and joined with the register x
  joined_from : (x : ℕ) (acc v : ℤ) (s : State) (rest : List DraftEntry) → IsState s → element 8 (z_at s 31) 0 % 2 ^ bits_of t ≡ residue (bits_of t) v → IsOf t v → IsOf t acc → x ≤ 25 → x_at s x ≡ word acc
      → Joined D (ins umov (27 ∷ 31 ∷ []) ∷ word_code (settle_word true t 27) (scalar.binary_code (operator_of op) t x x 27 rest)) s rest x (joined op t acc v) 5
  joined_from x acc v s rest is low of_v of_acc le has =
      let d = element 8 (z_at s 31) 0 in
      let s1 = wrote s 27 d in
      let is1 : IsState s1 = scalar_keeps umov (27 ∷ 31 ∷ []) s s1 (lit< tt, (lit< tt, tt)) is refl in
      let sized = is.x_count in
      let one : x_at s1 27 ≡ d = wrote_same s 27 d (omega (arith, sized)) in
      let small : x_at s1 27 < 2 ^ 64 = All-get_or (λ v. v < 2 ^ 64) s1.x 27 0 (let z = is1.x_count in omega (arith, z)) is1.x_small in
      let below : d < 2 ^ 64 = subst (λ n. n < 2 ^ 64) one small in
      let e = extended_sets D bare bare_assigned {rest = scalar.binary_code (operator_of op) t x x 27 rest} {s = s1} t 27 (pos d) is1.x_count (omega arith) (one ∙ sym (mod-eq_of_lt below)) in
      let two : x_at e.end 27 ≡ word v = e.value ∙ ap word (low_wrap t d v low of_v) in
      let is2 : IsState e.end = e.shaped is1 in
      let kept = λ (r : ℕ) (hi : r ≤ 25). e.changes.others r hi (λ q. absurd (omega (arith, hi, q))) ∙ wrote_other s 27 d r (λ q. absurd (omega (arith, hi, q))) in
      let k = binary_sets D bare bare_assigned {rest = rest} {s = e.end} (operator_of op) t acc v x 27 x is2.x_count le of_acc of_v (kept x le ∙ has) two in
      let frame = k.changes.frame ∙ e.changes.frame in
      record {
        end = k.end;
        goes = chain 5 (omega arith) (put_goes {i = word_of umov (27 ∷ 31 ∷ [])} {t = s1} refl) (chain 4 (omega arith) e.goes k.goes);
        is = k.shaped is2;
        value = k.value;
        others = λ r hi ne. k.changes.others r hi ne ∙ kept r hi;
        memory = k.changes.memory ∙ e.changes.memory;
        z = λ n ne. ap (λ (f : Frame). slice_index_or f.z n []) frame;
        p = ap (λ (f : Frame). f.p) frame;
        vl = ap (λ (f : Frame). f.vl) frame;
      }

  -- the whole
  pub join_runs : (z x : ℕ) (acc : ℤ) (taken : ℕ → ℤ) (s : State) (rest : List DraftEntry) → Ready w (lanes s.vl w) s → bits_of t ≤ width_bits w → LanesHold op t w (lanes s.vl w) (z_at s z) taken → ((e : ℕ) → e < lanes s.vl w → IsOf t (taken e)) → IsOf t acc → x ≤ 25 → x_at s x ≡ word acc
      → Joined D (join_code w op t z x rest) s rest x (joined op t acc (together op t (lanes s.vl w) taken)) 6
  join_runs z x acc taken s rest ready wide holds of of_acc le has =
      let n = lanes s.vl w in
      let r = reduction_together op t w s 31 z taken ready (omega arith) wide holds of in
      let k = joined_from x acc (together op t n taken) r.end rest r.is r.low (together_of op t n taken) of_acc le (ap (λ xs. slice_index xs x) r.only.x ∙ has) in
      record {
        end = k.end;
        goes = chain 6 (omega arith) (do_goes {rest = ins umov (27 ∷ 31 ∷ []) ∷ word_code (settle_word true t 27) (scalar.binary_code (operator_of op) t x x 27 rest)} (reduce_code w op t 31 z) s r.end r.runs) k.goes;
        is = k.is;
        value = k.value;
        others = λ q hi ne. k.others q hi ne ∙ ap (λ xs. slice_index xs q) r.only.x;
        memory = k.memory ∙ r.only.memory;
        z = λ q ne. k.z q ne ∙ r.only.z q ne;
        p = k.p ∙ r.only.p;
        vl = k.vl ∙ r.only.vl;
      }

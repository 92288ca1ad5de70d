use Rattle.std.proofs.Common.{◌≡◌, ℕ, suc, ◌+◌, ◌<◌, List, ◌++◌, length, get_or, drop, sym, ap, ◌∙◌, arith}
use Rattle.std.specs.Prelude.{slice_index}
use Rattle.std.proofs.Math.Seq.{drop-cons}
use Rattle.kernel_tree.specs.Plain.{Program}
use Rattle.label_fix.specs.DraftRun.{DraftEntry}
use Rattle.reg_assign.specs.Registers.{Assignment}
use Rattle.loop_form.specs.declared.held_throughout.Held.{Held}
use Rattle.loop_form.specs.HeldView.{view_of, view}
use Rattle.loop_form.specs.View.{program}
use Rattle.scalar_words.specs.KernelRegisters.{register_in}
use Rattle.reductions.specs.EdgeCode.{fold_one, folds_code}
use Rattle.reductions.proofs.fold.emit_values.Goals as goal

-- one value more
value_more : (R : ℕ → ℕ) (k : Program) (a : Assignment) (vs : List Held) (i p n : ℕ) (d : Held) (old new : List DraftEntry) → i < length vs → n ≡ slice_index a.registers p
    → ((rest : List DraftEntry) → new ++ rest ≡ old ++ fold_one R k n (view_of (get_or vs i d)) rest) → (rest : List DraftEntry) → new ++ folds_code R k a (p + 1) (view (drop (i + 1) vs)) rest ≡ old ++ folds_code R k a p (view (drop i vs)) rest
value_more R k a vs i p n d old new lt e code rest =
    let v = view_of (get_or vs i d) in
    let place : p + 1 ≡ suc p = omega arith in
    let index : i + 1 ≡ suc i = omega arith in
    code (folds_code R k a (p + 1) (view (drop (i + 1) vs)) rest)
    ∙ ap (λ m. old ++ fold_one R k m v (folds_code R k a (p + 1) (view (drop (i + 1) vs)) rest)) e
    ∙ ap (λ m. old ++ fold_one R k (slice_index a.registers p) v (folds_code R k a m (view (drop (i + 1) vs)) rest)) place
    ∙ ap (λ m. old ++ fold_one R k (slice_index a.registers p) v (folds_code R k a (suc p) (view (drop m vs)) rest)) index
    ∙ ap (λ us. old ++ folds_code R k a p (view us) rest) (sym (drop-cons vs i d lt))

pub loop-value-preserved : goal.loop-value-preserved
loop-value-preserved c = record {
  place = ap (λ n. n + 1) c.loop-value.invariant.place;
  labels = c.in_ok-emit_one.ensures.labels ∙ c.loop-value.invariant.labels;
  code = λ rest.
      value_more (register_in c.args.regs.now.x) (program c.args.facts.now.kernel.now) c.args.regs.now.z c.args.values.now c.loop-value.value-index c.loop-value.place c.counted_vector-z.result.number _ c.loop-value.draft.entries c.emit_one.new.draft.entries
      c.loop-value-test.true c.counted_vector-z.ensures c.in_ok-emit_one.ensures.code rest
      ∙ c.loop-value.invariant.code rest;
}

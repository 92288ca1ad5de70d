use Rattle.std.proofs.Common.{◌≡◌, [], ◌∷◌, ap, sym, ◌∙◌, arith}
use Rattle.label_fix.specs.DraftRun.{Place}
use Rattle.label_fix.specs.Finished.{size}
use Rattle.label_fix.proofs.PlacedRuns.{size-append}
use Rattle.kernel_tree.specs.declared.checked.Checked.{Checked}
use Rattle.loop_form.specs.View.{program}
use Rattle.dependence.specs.Classes.{class_of}
use Rattle.compiler_tests.proofs.vector_emit_calls.vector_words.Goals as goal

pub emit_vector-requires-clause-class : goal.emit_vector-requires-clause-class
unfolding program
emit_vector-requires-clause-class c = ap (λ (kernel : Checked). class_of (program kernel)) c.in_ok-facts-in-Vector.ensures ∙ sym c.class.ensures ∙ c.in-Vector.is

pub finish-requires : goal.finish-requires
finish-requires c = record {
  few =
      let same = ap size (c.in_ok-place-in-Vector.ensures.code []) in
      let whole = size-append c.place.new.self.entries [] in
      let both = size-append c.emit_vector.new.draft.entries (Place c.in_ok-scalar.scalar ∷ []) in
      let words = c.in_ok-emit_vector-in-Vector.ensures.words in
      let none : size c.label.new.self.entries ≡ 0 = ap size (c.in_ok-scalar.ensures.entries ∙ c.new-draft.ensures.entries) in
      let few = c.few_items.ensures.size in
      omega (arith, same, whole, both, words, none, few);
}

use Rattle.std.proofs.Common.{◌≡◌, List, ◌++◌, drop}
use Rattle.label_fix.specs.DraftRun.{DraftEntry}
use Rattle.loop_form.specs.HeldView.{view}
use Rattle.loop_form.specs.View.{program}
use Rattle.scalar_words.specs.KernelRegisters.{register_in}
use Rattle.reductions.specs.EdgeCode.{folds_code}
use Rattle.reductions.proofs.fold.emit_values.Given as goal

abbrev pub invariant-loop-value : goal.invariant-loop-value
invariant-loop-value l = record {
  place : l.place ≡ l.value-index;
  labels : l.draft.labels ≡ l.fn.draft.labels;
  code : (rest : List DraftEntry) → l.draft.entries ++ folds_code (register_in l.regs.x) (program l.facts.kernel.now) l.regs.z l.place (view (drop l.value-index l.values)) rest ≡ l.fn.draft.entries ++ folds_code (register_in l.regs.x) (program l.facts.kernel.now) l.regs.z 0 (view l.values) rest;
}

use Rattle.std.proofs.Common.{◌≡◌, List, ◌++◌, drop}
use Rattle.label_fix.specs.DraftRun.{DraftEntry}
use Rattle.loop_form.specs.HeldView.{view}
use Rattle.loop_form.specs.View.{program}
use Rattle.reductions.specs.EdgeCode.{holds_code}
use Rattle.reductions.proofs.start.emit_values.Given as goal

abbrev pub invariant-loop-value : goal.invariant-loop-value
invariant-loop-value l = record {
  place : l.place ≡ l.value-index;
  labels : l.draft.labels ≡ l.fn.draft.labels;
  code : (rest : List DraftEntry) → l.draft.entries ++ holds_code (program l.facts.kernel.now) l.regs l.place (view (drop l.value-index l.values)) rest ≡ l.fn.draft.entries ++ holds_code (program l.facts.kernel.now) l.regs 0 (view l.values) rest;
}

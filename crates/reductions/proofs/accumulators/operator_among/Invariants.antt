use Rattle.std.proofs.Common.{◌≡◌, drop}
use Rattle.std.specs.List.{find}
use Rattle.loop_form.specs.Needs.{updates}
use Rattle.loop_form.specs.View.{entries_view}
use Rattle.chunk_emit.specs.KernelLayout.{operator_of}
use Rattle.reductions.proofs.accumulators.operator_among.Given as goal

abbrev pub invariant-loop-entry : goal.invariant-loop-entry
invariant-loop-entry l = operator_of (find (updates l.name) (entries_view (drop l.entry-index l.entries))) ≡ operator_of (find (updates l.name) (entries_view l.entries))

use Rattle.std.proofs.Common.{◌≡◌, drop}
use Rattle.loop_form.specs.LoopView.{view}
use Rattle.chunk_emit.specs.KernelLayout.{tests_in}
use Rattle.chunk_emit.proofs.layout.tests.Given as goal

abbrev pub invariant-loop-item : goal.invariant-loop-item
invariant-loop-item l = tests_in (view (drop l.item-index l.items)) l.number ≡ tests_in (view l.items) l.number

use Rattle.guest_types.specs.Lanes.{dup_at}
use Rattle.lane_blocks.proofs.BlockSteps.{Begins}
use Rattle.lane_arith.proofs.fill.dup_into.Given as goal

abbrev pub invariant-loop-i : goal.invariant-loop-i
invariant-loop-i l = Begins l.fn.width (dup_at l.fn.value) l.i l.out.bytes

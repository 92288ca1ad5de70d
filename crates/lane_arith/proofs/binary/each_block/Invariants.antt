use Rattle.guest_types.specs.Lanes.{binary_at}
use Rattle.lane_blocks.proofs.BlockSteps.{Holds}
use Rattle.lane_arith.proofs.binary.each_block.Given as goal

abbrev pub invariant-loop-i : goal.invariant-loop-i
invariant-loop-i l = Holds l.width (binary_at l.op l.width l.left.bytes l.right.bytes) l.i l.out.bytes

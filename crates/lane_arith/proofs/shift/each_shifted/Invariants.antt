use Rattle.guest_types.specs.Lanes.{shift_at}
use Rattle.lane_blocks.proofs.BlockSteps.{Holds}
use Rattle.lane_arith.proofs.shift.each_shifted.Given as goal

abbrev pub invariant-loop-i : goal.invariant-loop-i
invariant-loop-i l = Holds l.width (shift_at l.op l.width l.z.bytes l.count) l.i l.out.bytes

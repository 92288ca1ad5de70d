use Rattle.guest_types.specs.Lanes.{merge_one_at}
use Rattle.lane_blocks.proofs.BlockSteps.{Holds}
use Rattle.lane_arith.proofs.unary.each_merged.Given as goal

abbrev pub invariant-loop-i : goal.invariant-loop-i
invariant-loop-i l = Holds l.width (merge_one_at l.op l.width l.pg.bits l.old.bytes l.z.bytes) l.i l.out.bytes

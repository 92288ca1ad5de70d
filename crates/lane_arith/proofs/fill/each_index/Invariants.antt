use Rattle.guest_types.specs.Lanes.{index_at}
use Rattle.lane_blocks.proofs.BlockSteps.{Begins}
use Rattle.lane_arith.proofs.fill.each_index.Given as goal

abbrev pub invariant-loop-i : goal.invariant-loop-i
invariant-loop-i l = Begins l.width (index_at l.from l.by) l.i l.out.bytes

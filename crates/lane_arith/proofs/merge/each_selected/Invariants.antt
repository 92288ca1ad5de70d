use Rattle.guest_types.specs.Lanes.{select_at}
use Rattle.lane_blocks.proofs.BlockSteps.{Holds}
use Rattle.lane_arith.proofs.merge.each_selected.Given as goal

abbrev pub invariant-loop-i : goal.invariant-loop-i
invariant-loop-i l = Holds l.width (select_at l.width l.pg.bits l.yes.bytes l.no.bytes) l.i l.out.bytes

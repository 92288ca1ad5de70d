use Rattle.guest_types.specs.Lanes.{select_at}
use Rattle.lane_blocks.specs.Banks.{bytes_at}
use Rattle.lane_blocks.proofs.Banks.{InBank}
use Rattle.lane_arith.proofs.bank.each_selected.Given as goal

abbrev pub invariant-loop-i : goal.invariant-loop-i
invariant-loop-i l = InBank l.width (select_at l.width l.pg.bits (bytes_at l.fn.zs l.yes) (bytes_at l.fn.zs l.no)) l.out l.i l.fn.zs l.zs

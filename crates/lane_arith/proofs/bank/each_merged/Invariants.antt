use Rattle.guest_types.specs.Lanes.{merge_at}
use Rattle.lane_blocks.specs.Banks.{bytes_at}
use Rattle.lane_blocks.proofs.Banks.{InBank}
use Rattle.lane_arith.proofs.bank.each_merged.Given as goal

abbrev pub invariant-loop-i : goal.invariant-loop-i
invariant-loop-i l = InBank l.width (merge_at l.op l.width l.pg.bits (bytes_at l.fn.zs l.out) (bytes_at l.fn.zs l.right)) l.out l.i l.fn.zs l.zs

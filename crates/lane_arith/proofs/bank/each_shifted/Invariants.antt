use Rattle.guest_types.specs.Lanes.{shift_at}
use Rattle.lane_blocks.specs.Banks.{bytes_at}
use Rattle.lane_blocks.proofs.Banks.{InBank}
use Rattle.lane_arith.proofs.bank.each_shifted.Given as goal

abbrev pub invariant-loop-i : goal.invariant-loop-i
invariant-loop-i l = InBank l.width (shift_at l.op l.width (bytes_at l.fn.zs l.z) l.count) l.out l.i l.fn.zs l.zs

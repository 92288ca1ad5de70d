use Rattle.guest_types.specs.Lanes.{binary_at}
use Rattle.lane_blocks.specs.Banks.{bytes_at}
use Rattle.lane_blocks.proofs.Banks.{InBank}
use Rattle.lane_arith.proofs.bank.each_binary.Given as goal

abbrev pub invariant-loop-i : goal.invariant-loop-i
invariant-loop-i l = InBank l.width (binary_at l.op l.width (bytes_at l.fn.zs l.left) (bytes_at l.fn.zs l.right)) l.out l.i l.fn.zs l.zs

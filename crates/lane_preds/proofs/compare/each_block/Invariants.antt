use Rattle.std.proofs.Common.{◌≡◌, ◌*◌}
use Rattle.guest_types.specs.Length.{width_bytes, lanes}
use Rattle.guest_types.specs.Elements.{bits_of, element_bit}
use Rattle.guest_types.specs.Lanes.{compare_at}
use Rattle.lane_preds.proofs.Compares.{up_to}
use Rattle.lane_preds.proofs.compare.each_block.Given as goal

abbrev pub invariant-loop-i : goal.invariant-loop-i
invariant-loop-i l =
    l.out.bits ≡ bits_of (up_to (element_bit (width_bytes l.width) (compare_at l.op l.width l.pg.bits l.left.bytes l.right.bytes) (lanes l.fn.shape.vl l.width)) (32 * l.i)) 32

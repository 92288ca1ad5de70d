use Rattle.std.proofs.Common.{◌≡◌, ◌+◌, ◌*◌, ◌/◌}
use Rattle.guest_types.specs.Length.{width_bytes, modulus}
use Rattle.guest_types.specs.Elements.{elements}
use Rattle.guest_types.specs.Lanes.{folded, joined, identity, reduce_at}
use Rattle.lane_blocks.specs.Blocks.{block_lanes, below_of}
use Rattle.lane_arith.proofs.reduce.fold.Given as goal

abbrev pub invariant-loop-i : goal.invariant-loop-i
invariant-loop-i l =
    l.partial ≡ elements (width_bytes l.width) (λ e. folded (joined l.op (modulus l.width)) (identity l.op (modulus l.width)) (λ j. reduce_at l.op l.width (below_of l.fn.pg.bits (l.fn.vl / 8)) l.z.bytes (block_lanes l.width * j + e)) l.i) (block_lanes l.width)

use Rattle.std.proofs.Common.{◌≡◌, ◌*◌, ◌/◌}
use Rattle.guest_types.specs.declared.operation.ReduceOp.TheVariants.{UAdd}
use Rattle.guest_types.specs.Length.{modulus}
use Rattle.guest_types.specs.Lanes.{folded, joined, identity, reduce_at}
use Rattle.lane_blocks.specs.Blocks.{block_lanes, below_of}
use Rattle.lane_arith.proofs.reduce.sum.Given as goal

abbrev pub invariant-loop-i : goal.invariant-loop-i
invariant-loop-i l =
    l.total ≡ folded (joined UAdd (modulus l.width)) (identity UAdd (modulus l.width)) (reduce_at UAdd l.width (below_of l.fn.pg.bits (l.fn.vl / 8)) l.z.bytes) (block_lanes l.width * l.i)

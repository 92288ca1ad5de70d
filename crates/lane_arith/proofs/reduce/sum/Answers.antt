use Rattle.std.proofs.Common.{◌≤◌, ◌+◌, ◌/◌, ◌∙◌, ap, sym, arith}
use Rattle.std.proofs.Math.Nat.{mul-zero}
use Rattle.guest_types.specs.declared.operation.ReduceOp.TheVariants.{UAdd}
use Rattle.guest_types.specs.Length.{modulus}
use Rattle.guest_types.specs.Lanes.{folded, joined, reduce_at}
use Rattle.guest_types.proofs.Folds.{folded-none}
use Rattle.lane_blocks.specs.Blocks.{block_lanes, below_of, mask_of}
use Rattle.lane_arith.proofs.Reduced.{sum-step, whole-fold}
use Rattle.lane_arith.proofs.reduce.sum.Goals as goal

pub loop-i-init : goal.loop-i-init
loop-i-init c =
    let w = c.args.width in
    let f = reduce_at UAdd w (below_of c.args.pg.now.bits (c.args.vl / 8)) c.args.z.now.bytes in
    sym (ap (folded (joined UAdd (modulus w)) 0 f) (mul-zero (block_lanes w)) ∙ folded-none (joined UAdd (modulus w)) 0 f)

pub loop-i-preserved : goal.loop-i-preserved
loop-i-preserved c =
    let pg = c.args.pg.now.bits in
    let used = c.bits_below-used.ensures ∙ ap (below_of pg) c.register_bytes.ensures.value in
    sum-step UAdd c.args.width c.args.vl pg c.args.z.now.bytes c.dup_block-zero.result c.register_bytes.ensures.valid c.used_blocks_of-i-end.ensures.bytes c.dup_block-zero.ensures
    c.loop-i.i c.loop-i.total c.sum_step-total.result _ _ c.loop-i.invariant (c.mask_at-p.ensures ∙ ap (λ u. mask_of u c.loop-i.i) used) c.block_at.ensures c.sum_step-total.ensures

pub returns : goal.returns
returns c =
    let few : c.loop-i.i ≤ 8 = omega (arith, c.used_blocks_of-i-end.ensures.fits) in
    let all : (c.args.vl / 8 + 31) / 32 ≤ c.loop-i.i = omega (arith, c.used_blocks_of-i-end.ensures.value) in
    c.loop-i.invariant
    ∙ whole-fold UAdd c.args.width c.args.vl c.args.pg.now.bits c.args.z.now.bytes c.dup_block-zero.result c.register_bytes.ensures.valid c.used_blocks_of-i-end.ensures.bytes c.dup_block-zero.ensures
    c.loop-i.i few all

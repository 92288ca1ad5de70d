use Rattle.std.proofs.Common.{◌≤◌, ◌/◌, ◌+◌, ◌<◌, ◌∙◌, ap, arith}
use Rattle.guest_types.specs.Length.{width_bytes, lanes}
use Rattle.guest_types.specs.Elements.{element_bit}
use Rattle.guest_types.specs.Lanes.{compare_at}
use Rattle.lane_blocks.specs.Blocks.{below_of}
use Rattle.lane_preds.proofs.Compares.{none-yet, compare-step, compare-end}
use Rattle.lane_preds.proofs.compare.each_block.Goals as goal

pub loop-i-init : goal.loop-i-init
loop-i-init c =
    let h = element_bit (width_bytes c.args.shape.width) (compare_at c.args.op c.args.shape.width c.args.pg.now.bits c.args.left.now.bytes c.args.right.now.bytes) (lanes c.args.shape.vl c.args.shape.width) in
    none-yet h c.none.result.bits (c.none.ensures.elements 1 h)

pub loop-i-preserved : goal.loop-i-preserved
loop-i-preserved c =
    let pg = c.args.pg.now.bits in
    let inside : c.loop-i.i < 8 = omega (arith, c.used_blocks-i-end.ensures.fits) in
    compare-step c.args.op c.args.shape.width c.args.shape.vl pg c.args.left.now.bytes c.args.right.now.bytes c.register_bytes.ensures.valid c.loop-i.i _ _ _ _ _ _ _ inside c.loop-i.invariant
    (c.bits_below-used.ensures ∙ ap (below_of pg) c.register_bytes.ensures.value) c.mask_at-p.ensures c.block_at.ensures c.block_at-in-loop-i.ensures c.compare_block-bits.ensures c.put_mask.ensures

pub returns : goal.returns
returns c =
    let all : (c.args.shape.vl / 8 + 31) / 32 ≤ c.loop-i.i = omega (arith, c.used_blocks-i-end.ensures.value) in
    compare-end c.args.op c.args.shape.width c.args.shape.vl c.args.pg.now.bits c.args.left.now.bytes c.args.right.now.bytes c.register_bytes.ensures.valid c.loop-i.i c.loop-i.out.bits c.loop-i.invariant all

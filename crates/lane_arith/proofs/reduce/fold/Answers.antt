use Rattle.std.proofs.Common.{◌≤◌, ◌+◌, ◌/◌, ◌∙◌, ap, arith}
use Rattle.guest_types.specs.Length.{modulus}
use Rattle.lane_blocks.specs.Blocks.{below_of, mask_of}
use Rattle.lane_arith.specs.Blocks.{dup_block_of}
use Rattle.lane_arith.proofs.Reduced.{partial-none, partial-step, partial-end}
use Rattle.lane_arith.proofs.reduce.fold.Goals as goal

pub loop-i-init : goal.loop-i-init
loop-i-init c =
    partial-none c.args.op c.args.width c.args.vl c.args.pg.now.bits c.args.z.now.bytes c.dup_block-start.result c.register_bytes.ensures.valid c.used_blocks_of-i-end.ensures.bytes
    (c.dup_block-start.ensures ∙ ap (dup_block_of c.args.width) c.identity.ensures.value)

pub loop-i-preserved : goal.loop-i-preserved
loop-i-preserved c =
    let pg = c.args.pg.now.bits in
    let used = c.bits_below-used.ensures ∙ ap (below_of pg) c.register_bytes.ensures.value in
    partial-step c.args.op c.args.width c.args.vl pg c.args.z.now.bytes c.dup_block-start.result c.register_bytes.ensures.valid c.used_blocks_of-i-end.ensures.bytes
    (c.dup_block-start.ensures ∙ ap (dup_block_of c.args.width) c.identity.ensures.value) (c.requires.element (modulus c.args.width))
    c.args.join c.loop-i.i c.loop-i.partial _ _ _ (c.requires.lanes (modulus c.args.width)) c.loop-i.invariant
    (c.mask_at-p.ensures ∙ ap (λ u. mask_of u c.loop-i.i) used) c.block_at.ensures c.fold_step-partial.ensures

pub returns : goal.returns
returns c =
    let few : c.loop-i.i ≤ 8 = omega (arith, c.used_blocks_of-i-end.ensures.fits) in
    let all : (c.args.vl / 8 + 31) / 32 ≤ c.loop-i.i = omega (arith, c.used_blocks_of-i-end.ensures.value) in
    partial-end c.args.op c.args.width c.args.vl c.args.pg.now.bits c.args.z.now.bytes c.dup_block-start.result c.register_bytes.ensures.valid c.used_blocks_of-i-end.ensures.bytes
    (c.dup_block-start.ensures ∙ ap (dup_block_of c.args.width) c.identity.ensures.value) (c.requires.element (modulus c.args.width))
    c.loop-i.i c.fold_block.result c.loop-i.partial c.loop-i.invariant c.fold_block.ensures few all

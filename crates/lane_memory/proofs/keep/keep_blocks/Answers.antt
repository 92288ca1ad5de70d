use Rattle.std.proofs.Common.{◌≡◌, refl, subst, arith}
use Rattle.lane_blocks.proofs.BlockSteps.{begins-none}
use Rattle.lane_memory.specs.Readings.{masked_at}
use Rattle.lane_memory.proofs.KeepLaws.{Built, kept-more, kept-whole}
use Rattle.lane_memory.proofs.keep.keep_blocks.Goals as goal

pub loop-i-init : goal.loop-i-init
loop-i-init c =
    let z = c.args.z.now.bytes in
    record { long = c.is_whole.ensures; done = begins-none c.args.width (masked_at c.args.width c.args.kept.now.bits z) z; rest = refl }

pub loop-i-preserved : goal.loop-i-preserved
loop-i-preserved c =
    kept-more c.args.width c.args.kept.now.bits c.args.z.now.bytes c.loop-i.i c.loop-i.z.bytes c.put_block.new.z.bytes c.mask_at.result c.block_at.result c.choose_block-block.result c.loop-i.invariant (omega (arith, c.loop-i-test.true, c.requires)) c.mask_at.ensures c.block_at.ensures c.choose_block-block.ensures c.put_block.ensures

pub returns : goal.returns
returns c =
    let w = c.args.width in
    let pg = c.args.kept.now.bits in
    let old = c.args.z.now.bytes in
    let all : c.loop-i.i ≡ c.args.blocks = omega (arith, c.loop-i-test.false, c.loop-i.auto.i-end) in
    kept-whole w pg old c.args.blocks c.loop-i.z.bytes c.clear_above.new.z.bytes (subst (λ i. Built w (masked_at w pg old) old i c.loop-i.z.bytes) all c.loop-i.invariant) c.clear_above.ensures

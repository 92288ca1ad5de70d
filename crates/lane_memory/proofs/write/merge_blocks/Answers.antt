use Rattle.std.proofs.Common.{◌≡◌, refl, subst, arith}
use Rattle.lane_blocks.proofs.BlockSteps.{begins-none}
use Rattle.guest_types.specs.Lanes.{select_at}
use Rattle.lane_memory.proofs.KeepLaws.{Built, merged-more, built-chunk}
use Rattle.lane_memory.proofs.write.merge_blocks.Goals as goal

pub loop-i-init : goal.loop-i-init
loop-i-init c =
    let w = c.args.width in
    let old = c.args.out.now.bytes in
    record { long = c.is_whole.ensures; done = begins-none w (select_at w c.args.pg.now.bits c.args.z.now.bytes old) old; rest = refl }

pub loop-i-preserved : goal.loop-i-preserved
loop-i-preserved c =
    merged-more c.args.width c.args.pg.now.bits c.args.z.now.bytes c.args.out.now.bytes c.loop-i.i c.loop-i.out.bytes c.put_block.new.z.bytes c.mask_at.result c.block_at.result c.block_at-in-loop-i.result c.choose_block-block.result c.loop-i.invariant (omega (arith, c.loop-i-test.true, c.requires)) c.mask_at.ensures c.block_at.ensures c.block_at-in-loop-i.ensures c.choose_block-block.ensures c.put_block.ensures

pub returns : goal.returns
returns c =
    let w = c.args.width in
    let old = c.args.out.now.bytes in
    let f = select_at w c.args.pg.now.bits c.args.z.now.bytes old in
    let all : c.loop-i.i ≡ c.args.blocks = omega (arith, c.loop-i-test.false, c.loop-i.auto.i-end) in
    let built = subst (λ i. Built w f old i c.loop-i.out.bytes) all c.loop-i.invariant in
    record { long = built.long; chosen = λ e l. built-chunk w f old c.args.blocks c.loop-i.out.bytes e built l }

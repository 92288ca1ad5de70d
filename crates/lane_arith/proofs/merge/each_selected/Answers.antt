use Rattle.std.proofs.Common.{arith}
use Rattle.guest_types.specs.Lanes.{select_at}
use Rattle.lane_blocks.proofs.BlockSteps.{holds-none, holds-end}
use Rattle.lane_arith.proofs.Blocks.{select-step}
use Rattle.lane_arith.proofs.merge.each_selected.Goals as goal

pub loop-i-init : goal.loop-i-init
loop-i-init c =
    holds-none c.args.width (select_at c.args.width c.args.pg.now.bits c.args.yes.now.bytes c.args.no.now.bytes) _ c.blocks_of-i-end.ensures.len

pub loop-i-preserved : goal.loop-i-preserved
loop-i-preserved c =
    select-step c.args.width c.args.pg.now.bits c.args.yes.now.bytes c.args.no.now.bytes c.loop-i.i _ _ _ _ _ _ (omega arith) c.loop-i.invariant
    c.mask_at-p.ensures c.block_at.ensures c.block_at-in-loop-i.ensures c.choose_block-block.ensures c.put_block.ensures

pub returns : goal.returns
returns c =
    holds-end c.args.width (select_at c.args.width c.args.pg.now.bits c.args.yes.now.bytes c.args.no.now.bytes) c.loop-i.i c.loop-i.out.bytes c.loop-i.invariant (omega arith) (omega arith)

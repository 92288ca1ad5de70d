use Rattle.std.proofs.Common.{arith}
use Rattle.guest_types.specs.Lanes.{binary_at}
use Rattle.lane_blocks.proofs.BlockSteps.{holds-none, holds-end}
use Rattle.lane_arith.proofs.Blocks.{binary-step}
use Rattle.lane_arith.proofs.binary.each_block.Goals as goal

pub loop-i-init : goal.loop-i-init
loop-i-init c =
    holds-none c.args.width (binary_at c.args.op c.args.width c.args.left.now.bytes c.args.right.now.bytes) _ c.blocks_of-i-end.ensures.len

pub loop-i-preserved : goal.loop-i-preserved
loop-i-preserved c =
    binary-step c.args.op c.args.width c.args.left.now.bytes c.args.right.now.bytes c.loop-i.i _ _ _ _ _ (omega arith) c.loop-i.invariant
    c.block_at.ensures c.block_at-in-loop-i.ensures c.binary_block-block.ensures c.put_block.ensures

pub returns : goal.returns
returns c =
    holds-end c.args.width (binary_at c.args.op c.args.width c.args.left.now.bytes c.args.right.now.bytes) c.loop-i.i c.loop-i.out.bytes c.loop-i.invariant (omega arith) (omega arith)

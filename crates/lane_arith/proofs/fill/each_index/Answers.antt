use Rattle.std.proofs.Common.{◌≤◌, ◌+◌, ◌*◌, ◌/◌, ◌∙◌, ap, refl, arith}
use Rattle.guest_types.specs.Lanes.{index_at}
use Rattle.lane_blocks.specs.Blocks.{block_lanes, cleared_above}
use Rattle.lane_blocks.proofs.BlockSteps.{begins-none, begins-more, begins-cleared}
use Rattle.lane_arith.proofs.Filled.{block-index}
use Rattle.lane_arith.proofs.fill.each_index.Goals as goal

pub loop-i-init : goal.loop-i-init
loop-i-init c = begins-none c.args.width (index_at c.args.from c.args.by) c.args.out.now.bytes

pub loop-i-preserved : goal.loop-i-preserved
loop-i-preserved c =
    let w = c.args.width in
    let i = c.loop-i.i in
    begins-more w (index_at c.args.from c.args.by) (λ e. index_at c.args.from c.args.by (block_lanes w * i + e)) i _ _ _ c.loop-i.invariant c.put_block.ensures
    (c.index_block.ensures ∙ block-index w c.args.from c.args.by i c.block_start-start.result c.block_start-start.ensures) (λ e l. refl)

pub returns : goal.returns
returns c =
    let all : (c.args.vl / 8 + 31) / 32 ≤ c.loop-i.i = omega (arith, c.used_blocks-i-end.ensures.value) in
    begins-cleared c.args.width (index_at c.args.from c.args.by) c.args.vl c.loop-i.i c.loop-i.out.bytes _ c.register_bytes.ensures.valid c.loop-i.invariant all
    (c.clear_above.ensures ∙ ap (cleared_above c.loop-i.out.bytes) c.register_bytes.ensures.value)

use Rattle.std.proofs.Common.{◌≤◌, ◌+◌, ◌/◌, ◌∙◌, ap, refl, arith}
use Rattle.guest_types.specs.Lanes.{dup_at}
use Rattle.lane_blocks.specs.Blocks.{cleared_above}
use Rattle.lane_blocks.proofs.BlockSteps.{begins-none, begins-more, begins-cleared}
use Rattle.lane_arith.proofs.fill.dup_into.Goals as goal

pub loop-i-init : goal.loop-i-init
loop-i-init c = begins-none c.args.width (dup_at c.args.value) c.args.out.now.bytes

pub loop-i-preserved : goal.loop-i-preserved
loop-i-preserved c =
    begins-more c.args.width (dup_at c.args.value) (dup_at c.args.value) c.loop-i.i _ _ _ c.loop-i.invariant c.put_block.ensures c.dup_block-block.ensures (λ e l. refl)

pub returns : goal.returns
returns c =
    let all : (c.args.vl / 8 + 31) / 32 ≤ c.loop-i.i = omega (arith, c.used_blocks-i-end.ensures.value) in
    begins-cleared c.args.width (dup_at c.args.value) c.args.vl c.loop-i.i c.loop-i.out.bytes _ c.register_bytes.ensures.valid c.loop-i.invariant all
    (c.clear_above.ensures ∙ ap (cleared_above c.loop-i.out.bytes) c.register_bytes.ensures.value)

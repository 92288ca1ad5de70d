use Rattle.std.proofs.Common.{◌≡◌, ◌+◌, ◌/◌, ◌∙◌, length, ap, arith, rules}
use Rattle.std.specs.Prelude.{slice_set}
use Rattle.guest_types.specs.Lanes.{merge_at}
use Rattle.lane_blocks.specs.Blocks.{cleared_half}
use Rattle.lane_blocks.specs.Banks.{bytes_at}
use Rattle.lane_blocks.proofs.Banks.{bank-none, bank-end}
use Rattle.lane_arith.proofs.Banks.{merge-bank}
use Rattle.lane_arith.proofs.bank.each_merged.Goals as goal

pub loop-i-init : goal.loop-i-init
loop-i-init c =
    let zs = c.args.zs.now in
    bank-none c.args.shape.width (merge_at c.args.op c.args.shape.width c.args.pg.now.bits (bytes_at zs c.args.out) (bytes_at zs c.args.right)) c.args.out zs

pub loop-i-preserved : goal.loop-i-preserved
loop-i-preserved c =
    let zs = c.args.zs.now in
    let was = c.loop-i.zs in
    let long : length zs ≡ 32 = search rules in
    merge-bank c.args.op c.args.shape.width c.args.pg.now.bits c.args.out c.args.right c.args.out c.loop-i.i zs was _ _ _ _ _ (omega (arith, c.requires.out)) c.loop-i.invariant
    c.mask_at-p.ensures c.block_at.ensures c.block_at-in-loop-i.ensures c.merge_block-block.ensures
    (ap (λ b. slice_set was c.args.out (record { bytes = b })) c.put_block.ensures)

pub returns : goal.returns
returns c =
    let zs = c.args.zs.now in
    let was = c.loop-i.zs in
    let last : c.loop-i.i ≡ (c.args.shape.vl / 8 + 31) / 32 = omega (arith, c.used_blocks-i-end.ensures.value) in
    bank-end c.args.shape.width (merge_at c.args.op c.args.shape.width c.args.pg.now.bits (bytes_at zs c.args.out) (bytes_at zs c.args.right)) c.args.shape.vl c.args.out c.loop-i.i zs was _ c.register_bytes.ensures.valid c.loop-i.invariant last c.requires.ends
    (ap (λ b. slice_set was c.args.out (record { bytes = b })) (c.clear_half.ensures ∙ ap (cleared_half (bytes_at was c.args.out)) c.register_bytes.ensures.value))

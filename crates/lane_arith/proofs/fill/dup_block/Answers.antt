use Rattle.std.proofs.Common.{◌-◌, ◌%◌, ◌∙◌, ap, sym, bit_and, refl, arith}
use Rattle.std.proofs.lemmas.Nat.{and_mask}
use Rattle.std.proofs.Math.Nat.{mod-lt, mod-eq_of_lt}
use Rattle.guest_types.specs.declared.length.Width.TheVariants.{B, H, S, D}
use Rattle.guest_types.specs.Lanes.{dup_at}
use Rattle.lane_blocks.proofs.Lanes.{lanes-ext, lanes-splat, lanes-small, lanes-elements, lanes-to_bytes}
use Rattle.lane_arith.specs.Blocks.{dup_block_of}
use Rattle.lane_arith.proofs.Filled.{elements-mod}
use Rattle.lane_arith.proofs.fill.dup_block.Goals as goal
use Rattle.lane_arith.proofs.fill.dup_block.Goals.{in-B, in-H, in-S, in-D}

pub returns : goal.returns
returns c =
    let value = c.args.value in
    let splat_B = lanes-ext (λ e. value % 256) (lanes-splat 32 (bit_and value (256 - 1))) (λ e l. and_mask value 8) in
    let splat_H = lanes-ext (λ e. value % 65536) (lanes-splat 16 (bit_and value (65536 - 1))) (λ e l. and_mask value 16) in
    let splat_S = lanes-ext (λ e. value % 4294967296) (lanes-splat 8 (bit_and value (4294967296 - 1))) (λ e l. and_mask value 32) in
    let splat_D = lanes-ext (λ e. value % 18446744073709551616) (lanes-splat 4 (value)) (λ e l. sym (mod-eq_of_lt c.ranges.value.fits)) in
    elim c.match-width.branch [
      | in-B w ↦ w.result-is ∙ lanes-elements splat_B (lanes-small 256 splat_B (λ e l. mod-lt value (omega arith))) ∙ elements-mod B (dup_at value) 32 ∙ ap (λ w. dup_block_of w value) (sym w.in-B.is)
      | in-H w ↦ w.result-is ∙ lanes-to_bytes 2 65536 refl splat_H (lanes-small 65536 splat_H (λ e l. mod-lt value (omega arith))) ∙ elements-mod H (dup_at value) 16 ∙ ap (λ w. dup_block_of w value) (sym w.in-H.is)
      | in-S w ↦ w.result-is ∙ lanes-to_bytes 4 4294967296 refl splat_S (lanes-small 4294967296 splat_S (λ e l. mod-lt value (omega arith))) ∙ elements-mod S (dup_at value) 8 ∙ ap (λ w. dup_block_of w value) (sym w.in-S.is)
      | in-D w ↦ w.result-is ∙ lanes-to_bytes 8 18446744073709551616 refl splat_D (lanes-small 18446744073709551616 splat_D (λ e l. mod-lt value (omega arith))) ∙ elements-mod D (dup_at value) 4 ∙ ap (λ w. dup_block_of w value) (sym w.in-D.is)
    ]

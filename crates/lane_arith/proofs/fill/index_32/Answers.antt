use Rattle.std.proofs.Common.{ℕ, ◌+◌, ◌-◌, ◌*◌, ◌%◌, ◌∙◌, ap₂, bit_and, refl, arith}
use Rattle.std.proofs.lemmas.Nat.{and_mask}
use Rattle.std.proofs.Math.Nat.{mod-lt}
use Rattle.guest_types.specs.declared.length.Width.TheVariants.{S}
use Rattle.guest_types.specs.Lanes.{index_at}
use Rattle.lane_blocks.proofs.Lanes.{lanes-ext, lanes-zip, lanes-splat, lanes-small, lanes-to_bytes}
use Rattle.lane_blocks.proofs.Masks.{lanes-places}
use Rattle.lane_arith.proofs.Filled.{elements-mod, ramp_residue}
use Rattle.lane_arith.proofs.fill.index_32.Goals as goal

pub returns : goal.returns
returns c =
    let from = c.args.from in
    let by = c.args.by in
    let m : ℕ = 4294967296 in
    let low_by : ℕ = bit_and by (m - 1) in
    let low_from : ℕ = bit_and from (m - 1) in
    let lanes =
    lanes-ext (λ e. index_at from by e % m)
    (lanes-zip (λ x y. (x + y) % m) (lanes-zip (λ x y. x * y % m) (lanes-places 8) (lanes-splat 8 low_by)) (lanes-splat 8 low_from))
    (λ e l. ap₂ (λ b f. (e * b % m + f) % m) (and_mask by 32) (and_mask from 32) ∙ ramp_residue m from by e) in
    lanes-to_bytes 4 m refl lanes (lanes-small m lanes (λ e l. mod-lt (from + e * by) (omega arith))) ∙ elements-mod S (index_at from by) 8

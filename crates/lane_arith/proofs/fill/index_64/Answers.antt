use Rattle.std.proofs.Common.{ℕ, ◌+◌, ◌*◌, ◌%◌, ◌∙◌, refl, arith}
use Rattle.std.proofs.Math.Nat.{mod-lt}
use Rattle.guest_types.specs.declared.length.Width.TheVariants.{D}
use Rattle.guest_types.specs.Lanes.{index_at}
use Rattle.lane_blocks.proofs.Lanes.{lanes-ext, lanes-zip, lanes-splat, lanes-small, lanes-to_bytes}
use Rattle.lane_blocks.proofs.Masks.{lanes-places}
use Rattle.lane_arith.proofs.Filled.{elements-mod, counted_whole}
use Rattle.lane_arith.proofs.fill.index_64.Goals as goal

pub returns : goal.returns
returns c =
    let from = c.args.from in
    let by = c.args.by in
    let m : ℕ = 18446744073709551616 in
    let lanes =
    lanes-ext (λ e. index_at from by e % m)
    (lanes-zip (λ x y. (x + y) % m) (lanes-zip (λ x y. x * y % m) (lanes-places 4) (lanes-splat 4 by)) (lanes-splat 4 from))
    (λ e l. counted_whole m from by e) in
    lanes-to_bytes 8 m refl lanes (lanes-small m lanes (λ e l. mod-lt (from + e * by) (omega arith))) ∙ elements-mod D (index_at from by) 4

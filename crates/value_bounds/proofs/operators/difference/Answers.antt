use Rattle.std.proofs.Common.{◌∙◌, rules}
use Rattle.std.specs.Prelude.{◌-ℤ◌}
use Rattle.value_bounds.proofs.SaturatedBounds.{in_type_of, cut_of}
use Rattle.value_bounds.proofs.operators.difference.Goals as goal

pub returns : goal.returns
returns c =
    let left = c.args.left in
    let right = c.args.right in
    let low = cut_of (λ a b. a -ℤ b) c.saturating_sub.result left.low right.high (search rules) (search rules) (search rules) c.saturating_sub.ensures in
    let high = cut_of (λ a b. a -ℤ b) c.saturating_sub-2.result left.high right.low (search rules) (search rules) (search rules) c.saturating_sub-2.ensures in
    c.in_type.ensures ∙ in_type_of c.args.want _ _ (left.low -ℤ right.high) (left.high -ℤ right.low) low high

use Rattle.std.proofs.Common.{◌∙◌, ap, rules, pos}
use Rattle.std.specs.Prelude.{◌-ℤ◌, neg_ℤ}
use Rattle.value_bounds.proofs.SaturatedBounds.{in_type_of, cut, cut_of, negative}
use Rattle.value_bounds.proofs.operators.negated.Goals as goal

pub returns : goal.returns
returns c =
    let arg = c.args.arg in
    let low = cut_of (λ a b. pos 0 -ℤ b) c.saturating_sub.result arg.high arg.high (search rules) (search rules) (search rules) c.saturating_sub.ensures ∙ ap cut (negative arg.high) in
    let high = cut_of (λ a b. pos 0 -ℤ b) c.saturating_sub-2.result arg.low arg.low (search rules) (search rules) (search rules) c.saturating_sub-2.ensures ∙ ap cut (negative arg.low) in
    c.in_type.ensures ∙ in_type_of c.args.want _ _ (neg_ℤ arg.high) (neg_ℤ arg.low) low high

use Rattle.std.proofs.Common.{◌∙◌, ap, ap₂, refl, rules, pos}
use Rattle.std.specs.Prelude.{◌-ℤ◌, neg_ℤ, FitsSigned}
use Rattle.std.specs.Int.{int_max, w128}
use Rattle.std.proofs.lemmas.Int.{to_z-of_z}
use Rattle.value_bounds.proofs.SaturatedBounds.{in_type_of, cut, cut_of, negative, max_cut_one}
use Rattle.value_bounds.proofs.operators.absolute.Goals as goal

pub returns : goal.returns
returns c =
    let arg = c.args.arg in
    let f : FitsSigned w128 arg.high = search rules in
    let down = cut_of (λ a b. pos 0 -ℤ b) c.saturating_sub.result arg.low arg.low (search rules) (search rules) (search rules) c.saturating_sub.ensures ∙ ap cut (negative arg.low) in
    let high = to_z-of_z w128 c.max.result (search rules) ∙ c.max.ensures.value ∙ ap₂ int_max (to_z-of_z w128 arg.high f) down ∙ max_cut_one arg.high (neg_ℤ arg.low) f in
    c.in_type.ensures ∙ in_type_of c.args.want (pos 0) _ (pos 0) (int_max arg.high (neg_ℤ arg.low)) refl high

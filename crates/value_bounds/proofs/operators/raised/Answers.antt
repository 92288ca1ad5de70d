use Rattle.std.proofs.Common.{◌∙◌, ap, rules, pos, ◌^◌}
use Rattle.std.specs.Prelude.{◌*ℤ◌}
use Rattle.value_bounds.proofs.SaturatedBounds.{in_type_of, cut, cut_of}
use Rattle.value_bounds.proofs.operators.raised.Goals as goal

pub returns : goal.returns
returns c =
    let arg = c.args.arg in
    let unit = c.power-unit.result in
    let is = c.power-unit.ensures in
    let low = cut_of (λ a b. a *ℤ b) c.saturating_mul.result arg.low unit (search rules) (search rules) (search rules) c.saturating_mul.ensures ∙ ap (λ b. cut (arg.low *ℤ b)) is in
    let high = cut_of (λ a b. a *ℤ b) c.saturating_mul-2.result arg.high unit (search rules) (search rules) (search rules) c.saturating_mul-2.ensures ∙ ap (λ b. cut (arg.high *ℤ b)) is in
    c.in_type.ensures ∙ in_type_of c.args.want _ _ (arg.low *ℤ pos (2 ^ c.args.count)) (arg.high *ℤ pos (2 ^ c.args.count)) low high

use Rattle.std.proofs.Common.{◌∙◌, rules}
use Rattle.std.specs.Prelude.{◌*ℤ◌}
use Rattle.std.specs.Int.{int_min, int_max}
use Rattle.value_bounds.proofs.SaturatedBounds.{in_type_of, cut_of, least_cut, greatest_cut}
use Rattle.value_bounds.proofs.operators.product.Goals as goal

pub returns : goal.returns
returns c =
    let left = c.args.left in
    let right = c.args.right in
    let p = cut_of (λ a b. a *ℤ b) c.saturating_mul-p.result left.low right.low (search rules) (search rules) (search rules) c.saturating_mul-p.ensures in
    let q = cut_of (λ a b. a *ℤ b) c.saturating_mul-q.result left.low right.high (search rules) (search rules) (search rules) c.saturating_mul-q.ensures in
    let r = cut_of (λ a b. a *ℤ b) c.saturating_mul-r.result left.high right.low (search rules) (search rules) (search rules) c.saturating_mul-r.ensures in
    let s = cut_of (λ a b. a *ℤ b) c.saturating_mul-s.result left.high right.high (search rules) (search rules) (search rules) c.saturating_mul-s.ensures in
    let low = least_cut c.least_of.result c.saturating_mul-p.result c.saturating_mul-q.result c.saturating_mul-r.result c.saturating_mul-s.result (left.low *ℤ right.low) (left.low *ℤ right.high) (left.high *ℤ right.low) (left.high *ℤ right.high) (search rules) c.least_of.ensures p q r s in
    let high = greatest_cut c.greatest_of.result c.saturating_mul-p.result c.saturating_mul-q.result c.saturating_mul-r.result c.saturating_mul-s.result (left.low *ℤ right.low) (left.low *ℤ right.high) (left.high *ℤ right.low) (left.high *ℤ right.high) (search rules) c.greatest_of.ensures p q r s in
    c.in_type.ensures ∙ in_type_of c.args.want _ _ (int_min (int_min (left.low *ℤ right.low) (left.low *ℤ right.high)) (int_min (left.high *ℤ right.low) (left.high *ℤ right.high))) (int_max (int_max (left.low *ℤ right.low) (left.low *ℤ right.high)) (int_max (left.high *ℤ right.low) (left.high *ℤ right.high))) low high

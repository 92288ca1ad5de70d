use Rattle.std.proofs.Common.{Some}
use Rattle.value_bounds.proofs.InBounds.{are_typed, within_bounds}
use Rattle.value_bounds.proofs.laws.values_within_bounds.Goals as goal

pub returns : goal.returns
returns c s from t e m names v none ranged is = within_bounds s m names ranged e t v (are_typed e s from (Some t) tt none) is

use Rattle.std.proofs.Common.{Some}
use Rattle.kernel_meaning.specs.Operators.{unary_on, binary_on, shift_on}
use Rattle.value_bounds.specs.ValueBounds.{unary_bounds, binary_bounds, shift_bounds}
use Rattle.value_bounds.proofs.InBounds.{stays_unwrapped, unary_known, binary_known, shift_known}
use Rattle.value_bounds.proofs.laws.in_type_unwrapped.Goals as goal

pub returns-clause-unary : goal.returns-clause-unary
returns-clause-unary c t op a x e h = stays_unwrapped t (unary_bounds op a) (unary_on op x) e (unary_known op a x h)

pub returns-clause-binary : goal.returns-clause-binary
returns-clause-binary c t op a b x y e h k = stays_unwrapped t (binary_bounds op a b) (binary_on op x y) e (binary_known op a b x y h k)

pub returns-clause-shift : goal.returns-clause-shift
returns-clause-shift c t left n a x e h = stays_unwrapped t (Some (shift_bounds left n a)) (shift_on left n x) e (shift_known left n a x h)

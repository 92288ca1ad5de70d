-- The operators of updates, as operations on the values of a type that may be applied in any order.
use Rattle.std.specs.Prelude.{◌≡◌, ℤ, pos, negsuc}
use Rattle.kernel_tree.specs.declared.ops.Ty.{Ty}
use Rattle.kernel_tree.specs.declared.ops.UpdateOp.{UpdateOp}
use Rattle.kernel_tree.specs.declared.ops.UpdateOp.TheVariants as update
use Rattle.kernel_tree.specs.Wrap.{wrap}
use Rattle.kernel_meaning.specs.Operators.{operator_of, binary_on}
use Rattle.lane_emit.specs.Right.{IsOf, least, greatest}

-- an accumulator of a type after an update
abbrev pub joined : UpdateOp → Ty → ℤ → ℤ → ℤ
joined op t x y = wrap t (binary_on (operator_of op) x y)

-- what changes nothing, and what a lane holds that no update touched
abbrev pub identity : UpdateOp → Ty → ℤ
identity update.Add t = pos 0
identity update.And t = wrap t (negsuc 0)
identity update.Or t = pos 0
identity update.Xor t = pos 0
identity update.Min t = greatest t
identity update.Max t = least t

-- the values of the type with the operator are a commutative monoid
pub record Joins (op : UpdateOp) (t : Ty) : Type 0 where
  pub closed : (x y : ℤ) → IsOf t (joined op t x y)
  pub neutral : IsOf t (identity op t)
  pub keeps : (x : ℤ) → IsOf t x → joined op t (identity op t) x ≡ x
  pub commutes : (x y : ℤ) → joined op t x y ≡ joined op t y x
  pub associates : (x y z : ℤ) → IsOf t x → IsOf t y → IsOf t z → joined op t (joined op t x y) z ≡ joined op t x (joined op t y z)

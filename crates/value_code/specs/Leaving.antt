-- Whether the result of an operator may lie outside the extended form of its type: its integer may be no value of the type,
-- by what is known of the operands.
use Rattle.std.specs.Prelude.{ℤ, Bool, false, not, ◌&&◌, Option, Some, None}
use Rattle.kernel_tree.specs.declared.ops.Ty.{Ty}
use Rattle.kernel_tree.specs.declared.ops.UnaryOp.{UnaryOp}
use Rattle.kernel_tree.specs.declared.ops.BinaryOp.{BinaryOp}
use Rattle.kernel_tree.specs.Plain.{Term}
use Rattle.kernel_tree.specs.Typing.{Scope}
use Rattle.kernel_meaning.specs.TypeValues.{unary_leaves, binary_leaves}
use Rattle.scalar_words.specs.Operands.{binary_joins}
use Rattle.value_code.specs.declared.extent.Extent.{Extent}
use Rattle.value_code.specs.Extents.{within, unary_joins, asked_extent, settles}
use Rattle.value_bounds.specs.ValueBounds.{unary_stays, binary_stays, shift_stays}

abbrev pub leaves_at : UnaryOp → Option Ty → Bool
leaves_at op None = false
leaves_at op (Some t) = unary_leaves op t

abbrev pub unary_may_leave : Scope → Option Ty → UnaryOp → Term → Bool
unary_may_leave s want op e = leaves_at op want && not (unary_stays s want op e)

abbrev pub binary_may_leave : Scope → Option Ty → BinaryOp → Term → Term → Bool
binary_may_leave s want op x y = binary_leaves op && not (binary_stays s want op x y)

-- a shift to the left may, one to the right does not
abbrev pub shift_may_leave : Scope → Option Ty → Bool → Term → ℤ → Bool
shift_may_leave s want left e n = left && not (shift_stays s want left e n)

-- ---- what is asked of the operands of an expression of which so much is asked for, and whether its result is extended

abbrev pub unary_asks : Scope → Option Ty → UnaryOp → Term → Extent → Extent
unary_asks s want op e w = asked_extent (unary_joins op) (unary_may_leave s want op e) w want

abbrev pub binary_asks : Scope → Option Ty → BinaryOp → Term → Term → Extent → Extent
binary_asks s want op x y w = asked_extent (binary_joins op) (binary_may_leave s want op x y) w want

abbrev pub shift_asks : Scope → Option Ty → Bool → Term → ℤ → Extent → Extent
shift_asks s want left e n w = asked_extent left (shift_may_leave s want left e n) w want

abbrev pub unary_settles : Scope → Option Ty → UnaryOp → Term → Extent → Bool
unary_settles s want op e w = settles (within w want) (unary_joins op) (unary_may_leave s want op e)

abbrev pub binary_settles : Scope → Option Ty → BinaryOp → Term → Term → Extent → Bool
binary_settles s want op x y w = settles (within w want) (binary_joins op) (binary_may_leave s want op x y)

abbrev pub shift_settles : Scope → Option Ty → Bool → Term → ℤ → Extent → Bool
shift_settles s want left e n w = settles (within w want) left (shift_may_leave s want left e n)

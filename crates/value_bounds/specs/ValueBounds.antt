-- Bounds of the value of an expression, from its tree alone.
use Rattle.std.specs.Prelude.{ℕ, ◌^◌, ℤ, pos, neg_ℤ, ◌+ℤ◌, ◌-ℤ◌, ◌*ℤ◌, int_le, ◌≤ℤ◌, Bool, true, false, ◌&&◌, Option, Some, None, option_and_then, is_some, unwrap_or, if◌then◌else◌}
use Rattle.std.specs.Int.{int_min, int_max, int_shr}
use Rattle.kernel_tree.specs.declared.ops.Ty.{Ty}
use Rattle.kernel_tree.specs.declared.ops.UnaryOp.{UnaryOp}
use Rattle.kernel_tree.specs.declared.ops.UnaryOp.TheVariants as unary
use Rattle.kernel_tree.specs.declared.ops.BinaryOp.{BinaryOp}
use Rattle.kernel_tree.specs.declared.ops.BinaryOp.TheVariants as binary
use Rattle.kernel_tree.specs.Plain.{Term, Literal, Variable, Element, Unary, Operation, Shift, Conversion, Choice, Comparison, Both, Either, Not}
use Rattle.kernel_tree.specs.Typing.{Scope, own}
use Rattle.kernel_meaning.specs.Operators.{shift_count}
use Rattle.kernel_meaning.specs.TypeValues.{least, greatest}
use Rattle.value_bounds.specs.declared.bounds.Bounds.{Bounds}

abbrev pub between : ℤ → ℤ → Bounds
between low high = record { low = low; high = high }

-- an integer lies within bounds
abbrev pub IsWithin : Bounds → ℤ → Type 0
IsWithin b v = (b.low ≤ℤ v) × (v ≤ℤ b.high)

-- the least and the greatest value of a type; a type is wanted of every value of a checked kernel
abbrev pub ends : Option Ty → Bounds
ends None = between (pos 0) (pos 0)
ends (Some t) = between (least t) (greatest t)

-- an integer is a value of a type
abbrev pub is_value : Ty → ℤ → Bool
is_value t z = int_le (least t) z && int_le z (greatest t)

-- bounds, where they lie in the type
abbrev pub lying_in : Ty → Bounds → Option Bounds
lying_in t b = if is_value t b.low && is_value t b.high then Some b else None

abbrev pub in_type : Option Ty → Option Bounds → Option Bounds
in_type None o = None
in_type (Some t) o = option_and_then (lying_in t) o

-- what is known of a value of the type
abbrev pub kept : Option Ty → Option Bounds → Bounds
kept want o = unwrap_or (in_type want o) (ends want)

-- ---- the integer that an operator gives of operands within bounds, before it is wrapped to a type

abbrev pub unary_bounds : UnaryOp → Bounds → Option Bounds
unary_bounds unary.Neg b = Some (between (neg_ℤ b.high) (neg_ℤ b.low))
unary_bounds unary.Abs b = Some (between (pos 0) (int_max b.high (neg_ℤ b.low)))
unary_bounds unary.Flip b = None

-- the products of the ends
abbrev pub corners : (p q r s : ℤ) → Bounds
corners p q r s = between (int_min (int_min p q) (int_min r s)) (int_max (int_max p q) (int_max r s))

abbrev pub product : Bounds → Bounds → Bounds
product a b = corners (a.low *ℤ b.low) (a.low *ℤ b.high) (a.high *ℤ b.low) (a.high *ℤ b.high)

-- the common bits of two numbers, by which of them are not negative
abbrev pub common : (left right : Bool) → Bounds → Bounds → Option Bounds
common true true a b = Some (between (pos 0) (int_min a.high b.high))
common true false a b = Some (between (pos 0) a.high)
common false true a b = Some (between (pos 0) b.high)
common false false a b = None

abbrev pub binary_bounds : BinaryOp → Bounds → Bounds → Option Bounds
binary_bounds binary.Add a b = Some (between (a.low +ℤ b.low) (a.high +ℤ b.high))
binary_bounds binary.Sub a b = Some (between (a.low -ℤ b.high) (a.high -ℤ b.low))
binary_bounds binary.Mul a b = Some (product a b)
binary_bounds binary.Min a b = Some (between (int_min a.low b.low) (int_min a.high b.high))
binary_bounds binary.Max a b = Some (between (int_max a.low b.low) (int_max a.high b.high))
binary_bounds binary.And a b = common (int_le (pos 0) a.low) (int_le (pos 0) b.low) a b
binary_bounds binary.Or a b = None
binary_bounds binary.Xor a b = None

-- to the left where true
abbrev pub shift_bounds : Bool → ℕ → Bounds → Bounds
shift_bounds true n b = between (b.low *ℤ pos (2 ^ n)) (b.high *ℤ pos (2 ^ n))
shift_bounds false n b = between (int_shr b.low n) (int_shr b.high n)

-- one of two values
abbrev pub joined : Bounds → Bounds → Bounds
joined a b = between (int_min a.low b.low) (int_max a.high b.high)

-- ---- expressions

-- the bounds of an expression of which a type is wanted: a name and an element may be any value of their type
abbrev pub bounds_of : Scope → Option Ty → Term → Bounds
bounds_of s want (Literal n) = kept want (Some (between n n))
bounds_of s want (Variable x) = ends want
bounds_of s want (Element a i) = ends want
bounds_of s want (Unary op e) = kept want (unary_bounds op (bounds_of s want e))
bounds_of s want (Operation op x y) = kept want (binary_bounds op (bounds_of s want x) (bounds_of s want y))
bounds_of s want (Shift left e n) = kept want (Some (shift_bounds left (shift_count n) (bounds_of s want e)))
bounds_of s want (Conversion e t) = kept (Some t) (Some (bounds_of s (own s e) e))
bounds_of s want (Choice c x y) = joined (bounds_of s want x) (bounds_of s want y)
bounds_of s want (Comparison op x y) = ends want
bounds_of s want (Both x y) = ends want
bounds_of s want (Either x y) = ends want
bounds_of s want (Not e) = ends want

-- whether the integer that an operator gives is a value of the type, whatever names and elements are
abbrev pub unary_stays : Scope → Option Ty → UnaryOp → Term → Bool
unary_stays s want op e = is_some (in_type want (unary_bounds op (bounds_of s want e)))

abbrev pub binary_stays : Scope → Option Ty → BinaryOp → Term → Term → Bool
binary_stays s want op x y = is_some (in_type want (binary_bounds op (bounds_of s want x) (bounds_of s want y)))

abbrev pub shift_stays : Scope → Option Ty → Bool → Term → ℤ → Bool
shift_stays s want left e n = is_some (in_type want (Some (shift_bounds left (shift_count n) (bounds_of s want e))))

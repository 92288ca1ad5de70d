-- What the operators of the kernel language compute. They compute on integers; each result is wrapped to the type that
-- its place wants.
use Rattle.std.specs.Prelude.{ℕ, ◌^◌, ℤ, pos, neg_ℤ, ◌+ℤ◌, ◌-ℤ◌, ◌*ℤ◌, unsigned_abs, int_lt, int_le, bit_and, bit_or, bit_xor, Bool, true, false, not, ◌&&◌, Option, Some, None}
use Rattle.std.specs.Int.{int_min, int_max, int_shr}
use Rattle.kernel_tree.specs.declared.ops.Ty.{Ty}
use Rattle.kernel_tree.specs.declared.ops.UnaryOp.{UnaryOp}
use Rattle.kernel_tree.specs.declared.ops.UnaryOp.TheVariants as unary
use Rattle.kernel_tree.specs.declared.ops.BinaryOp.{BinaryOp}
use Rattle.kernel_tree.specs.declared.ops.BinaryOp.TheVariants as binary
use Rattle.kernel_tree.specs.declared.ops.CompareOp.{CompareOp}
use Rattle.kernel_tree.specs.declared.ops.CompareOp.TheVariants as compare
use Rattle.kernel_tree.specs.declared.ops.UpdateOp.{UpdateOp}
use Rattle.kernel_tree.specs.declared.ops.UpdateOp.TheVariants as update
use Rattle.kernel_tree.specs.Wrap.{residue, wrap}

-- the value of the wanted type; a type is wanted of every value of a checked kernel
abbrev pub wrapped : Option Ty → ℤ → ℤ
wrapped None z = pos 0
wrapped (Some t) z = wrap t z

-- the low 64 bits of an integer
abbrev pub word : ℤ → ℕ
word z = residue 64 z

abbrev pub unary_on : UnaryOp → ℤ → ℤ
unary_on unary.Neg z = neg_ℤ z
unary_on unary.Flip z = neg_ℤ z -ℤ pos 1
unary_on unary.Abs z = pos (unsigned_abs z)

abbrev pub binary_on : BinaryOp → ℤ → ℤ → ℤ
binary_on binary.Add a b = a +ℤ b
binary_on binary.Sub a b = a -ℤ b
binary_on binary.Mul a b = a *ℤ b
binary_on binary.And a b = pos (bit_and (word a) (word b))
binary_on binary.Or a b = pos (bit_or (word a) (word b))
binary_on binary.Xor a b = pos (bit_xor (word a) (word b))
binary_on binary.Min a b = int_min a b
binary_on binary.Max a b = int_max a b

-- the operator that an update applies to its accumulator
abbrev pub operator_of : UpdateOp → BinaryOp
operator_of update.Add = binary.Add
operator_of update.And = binary.And
operator_of update.Or = binary.Or
operator_of update.Xor = binary.Xor
operator_of update.Min = binary.Min
operator_of update.Max = binary.Max

-- the count of a shift, which is below the width of its type and so below 64
abbrev pub shift_count : ℤ → ℕ
shift_count n = residue 6 n

-- to the left where true; to the right it rounds down
abbrev pub shift_on : Bool → ℕ → ℤ → ℤ
shift_on true n z = z *ℤ pos (2 ^ n)
shift_on false n z = int_shr z n

abbrev pub compare_on : CompareOp → ℤ → ℤ → Bool
compare_on compare.Eq a b = int_le a b && int_le b a
compare_on compare.Ne a b = not (int_le a b && int_le b a)
compare_on compare.Lt a b = int_lt a b
compare_on compare.Le a b = int_le a b
compare_on compare.Gt a b = int_lt b a
compare_on compare.Ge a b = int_le b a

-- the results at the wanted type
abbrev pub unary_value : UnaryOp → Option Ty → ℤ → ℤ
unary_value op want z = wrapped want (unary_on op z)

abbrev pub binary_value : BinaryOp → Option Ty → ℤ → ℤ → ℤ
binary_value op want a b = wrapped want (binary_on op a b)

abbrev pub shift_value : Bool → ℤ → Option Ty → ℤ → ℤ
shift_value left n want z = wrapped want (shift_on left (shift_count n) z)

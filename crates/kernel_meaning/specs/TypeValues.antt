-- The values of a type, and which operators stay among them. An integer is in the extended form of a type in a wider word
-- where it is a value of the type: its sign, or zeros, fill the bits above the type.
use Rattle.std.specs.Prelude.{◌-◌, ◌^◌, ℤ, pos, negsuc, ◌≤ℤ◌, int_le, Bool, true, false, not, ◌&&◌}
use Rattle.kernel_tree.specs.declared.ops.Ty.{Ty}
use Rattle.kernel_tree.specs.declared.ops.Ty.TheVariants as ty
use Rattle.kernel_tree.specs.declared.ops.UnaryOp.{UnaryOp}
use Rattle.kernel_tree.specs.declared.ops.UnaryOp.TheVariants as unary
use Rattle.kernel_tree.specs.declared.ops.BinaryOp.{BinaryOp}
use Rattle.kernel_tree.specs.declared.ops.BinaryOp.TheVariants as binary
use Rattle.kernel_tree.specs.Wrap.{is_signed}

abbrev pub least : Ty → ℤ
least ty.I8 = negsuc (2 ^ 7 - 1)
least ty.I16 = negsuc (2 ^ 15 - 1)
least ty.I32 = negsuc (2 ^ 31 - 1)
least ty.I64 = negsuc (2 ^ 63 - 1)
least ty.U8 = pos 0
least ty.U16 = pos 0
least ty.U32 = pos 0
least ty.U64 = pos 0

abbrev pub greatest : Ty → ℤ
greatest ty.I8 = pos (2 ^ 7 - 1)
greatest ty.I16 = pos (2 ^ 15 - 1)
greatest ty.I32 = pos (2 ^ 31 - 1)
greatest ty.I64 = pos (2 ^ 63 - 1)
greatest ty.U8 = pos (2 ^ 8 - 1)
greatest ty.U16 = pos (2 ^ 16 - 1)
greatest ty.U32 = pos (2 ^ 32 - 1)
greatest ty.U64 = pos (2 ^ 64 - 1)

-- the integer is a value of the type
abbrev pub IsOf : Ty → ℤ → Type 0
IsOf t v = (least t ≤ℤ v) × (v ≤ℤ greatest t)

-- each value of the one type is a value of the other
abbrev pub fits : Ty → Ty → Bool
fits s t = int_le (least t) (least s) && int_le (greatest s) (greatest t)

-- ---- what an operator leaves of the extended form

-- whether an operator, done in a wider word on operands in the extended form, may give what is not in it
abbrev pub unary_leaves : UnaryOp → Ty → Bool
unary_leaves unary.Neg t = true
unary_leaves unary.Flip t = not (is_signed t)
unary_leaves unary.Abs t = is_signed t

abbrev pub binary_leaves : BinaryOp → Bool
binary_leaves binary.Add = true
binary_leaves binary.Sub = true
binary_leaves binary.Mul = true
binary_leaves binary.And = false
binary_leaves binary.Or = false
binary_leaves binary.Xor = false
binary_leaves binary.Min = false
binary_leaves binary.Max = false

-- a shift to the left may, one to the right does not
abbrev pub shift_leaves : Bool → Bool
shift_leaves left = left

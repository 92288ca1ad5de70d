-- The operators at the corners of each type. The results are Python's.
use Rattle.std.proofs.Common.{◌≡◌, ℕ, ◌-◌, ◌/◌, List, [], ◌∷◌, ◌++◌, map, Some, true, false, refl}
use Rattle.std.specs.Prelude.{ℤ, pos, negsuc}
use Rattle.kernel_tree.specs.declared.ops.Ty.{Ty}
use Rattle.kernel_tree.specs.declared.ops.Ty.TheVariants as ty
use Rattle.kernel_tree.specs.declared.ops.UnaryOp.TheVariants as unary
use Rattle.kernel_tree.specs.declared.ops.BinaryOp.TheVariants as binary
use Rattle.kernel_meaning.specs.Operators.{unary_value, binary_value, shift_value}

-- each operator in turn on two values
abbrev each_binary : Ty → ℤ → ℤ → List ℤ
each_binary t a b = map (λ op. binary_value op (Some t) a b) (binary.Add ∷ binary.Sub ∷ binary.Mul ∷ binary.And ∷ binary.Or ∷ binary.Xor ∷ binary.Min ∷ binary.Max ∷ [])

abbrev each_unary : Ty → ℤ → List ℤ
each_unary t z = map (λ op. unary_value op (Some t) z) (unary.Neg ∷ unary.Flip ∷ unary.Abs ∷ [])

-- to the left by 1 and to the right by 1
abbrev each_shift : Ty → ℤ → List ℤ
each_shift t z = shift_value true (pos 1) (Some t) z ∷ shift_value false (pos 1) (Some t) z ∷ []

-- of the least and the greatest value of a type and one near zero: two values of those, then one of them
abbrev corners : Ty → (least most near : ℤ) → List (List ℤ)
corners t least most near =
    each_binary t most most ∷ each_binary t least most ∷ each_binary t most near ∷ each_binary t least near
    ∷ (each_unary t least ++ each_shift t least) ∷ (each_unary t most ++ each_shift t most) ∷ (each_unary t near ++ each_shift t near) ∷ []

-- what comes of them where the greatest value is m
abbrev signed : ℕ → List (List ℤ)
signed m =
    (negsuc 1 ∷ pos 0 ∷ pos 1 ∷ pos m ∷ pos m ∷ pos 0 ∷ pos m ∷ pos m ∷ [])
    ∷ (negsuc 0 ∷ pos 1 ∷ negsuc m ∷ pos 0 ∷ negsuc 0 ∷ negsuc 0 ∷ negsuc m ∷ pos m ∷ [])
    ∷ (pos (m - 2) ∷ negsuc (m - 1) ∷ pos 2 ∷ pos (m - 1) ∷ negsuc 0 ∷ negsuc (m - 1) ∷ negsuc 1 ∷ pos m ∷ [])
    ∷ (pos (m - 1) ∷ negsuc (m - 2) ∷ pos 0 ∷ negsuc m ∷ negsuc 1 ∷ pos (m - 1) ∷ negsuc m ∷ negsuc 1 ∷ [])
    ∷ (negsuc m ∷ pos m ∷ negsuc m ∷ pos 0 ∷ negsuc (m / 2) ∷ [])
    ∷ (negsuc (m - 1) ∷ negsuc m ∷ pos m ∷ negsuc 1 ∷ pos (m / 2) ∷ [])
    ∷ (pos 2 ∷ pos 1 ∷ pos 2 ∷ negsuc 3 ∷ negsuc 0 ∷ [])
    ∷ []

abbrev unsigned : ℕ → List (List ℤ)
unsigned m =
    (pos (m - 1) ∷ pos 0 ∷ pos 1 ∷ pos m ∷ pos m ∷ pos 0 ∷ pos m ∷ pos m ∷ [])
    ∷ (pos m ∷ pos 1 ∷ pos 0 ∷ pos 0 ∷ pos m ∷ pos m ∷ pos 0 ∷ pos m ∷ [])
    ∷ (pos 1 ∷ pos (m - 2) ∷ pos (m - 1) ∷ pos 2 ∷ pos m ∷ pos (m - 2) ∷ pos 2 ∷ pos m ∷ [])
    ∷ (pos 2 ∷ pos (m - 1) ∷ pos 0 ∷ pos 0 ∷ pos 2 ∷ pos 2 ∷ pos 0 ∷ pos 2 ∷ [])
    ∷ (pos 0 ∷ pos m ∷ pos 0 ∷ pos 0 ∷ pos 0 ∷ [])
    ∷ (pos 1 ∷ pos 0 ∷ pos m ∷ pos (m - 1) ∷ pos (m / 2) ∷ [])
    ∷ (pos (m - 1) ∷ pos (m - 2) ∷ pos 2 ∷ pos 4 ∷ pos 1 ∷ [])
    ∷ []

i8 : corners ty.I8 (negsuc 127) (pos 127) (negsuc 1) ≡ signed 127
i8 = refl

i16 : corners ty.I16 (negsuc 32767) (pos 32767) (negsuc 1) ≡ signed 32767
i16 = refl

i32 : corners ty.I32 (negsuc 2147483647) (pos 2147483647) (negsuc 1) ≡ signed 2147483647
i32 = refl

i64 : corners ty.I64 (negsuc 9223372036854775807) (pos 9223372036854775807) (negsuc 1) ≡ signed 9223372036854775807
i64 = refl

u8 : corners ty.U8 (pos 0) (pos 255) (pos 2) ≡ unsigned 255
u8 = refl

u16 : corners ty.U16 (pos 0) (pos 65535) (pos 2) ≡ unsigned 65535
u16 = refl

u32 : corners ty.U32 (pos 0) (pos 4294967295) (pos 2) ≡ unsigned 4294967295
u32 = refl

u64 : corners ty.U64 (pos 0) (pos 18446744073709551615) (pos 2) ≡ unsigned 18446744073709551615
u64 = refl

-- The values of a type.
use Rattle.std.specs.Prelude.{ℕ, ◌-◌, ◌%◌, ◌^◌, ℤ, pos, negsuc, Bool, true, false, if◌then◌else◌}
use Rattle.std.specs.Int.{Width, w8, w16, w32, w64, cast_signed}
use Rattle.kernel_tree.specs.declared.ops.Ty.{Ty}
use Rattle.kernel_tree.specs.declared.ops.Ty.TheVariants as ty

-- the width of an integer that holds a type
abbrev pub integer_width : Ty → Width
integer_width ty.I8 = w8
integer_width ty.U8 = w8
integer_width ty.I16 = w16
integer_width ty.U16 = w16
integer_width ty.I32 = w32
integer_width ty.U32 = w32
integer_width ty.I64 = w64
integer_width ty.U64 = w64

-- how many bits a type has
abbrev pub bits_of : Ty → ℕ
bits_of ty.I8 = 8
bits_of ty.U8 = 8
bits_of ty.I16 = 16
bits_of ty.U16 = 16
bits_of ty.I32 = 32
bits_of ty.U32 = 32
bits_of ty.I64 = 64
bits_of ty.U64 = 64

-- how many bytes
abbrev pub byte_count : Ty → ℕ
byte_count ty.I8 = 1
byte_count ty.U8 = 1
byte_count ty.I16 = 2
byte_count ty.U16 = 2
byte_count ty.I32 = 4
byte_count ty.U32 = 4
byte_count ty.I64 = 8
byte_count ty.U64 = 8

-- and the logarithm of that
abbrev pub log_bytes : Ty → ℕ
log_bytes ty.I8 = 0
log_bytes ty.U8 = 0
log_bytes ty.I16 = 1
log_bytes ty.U16 = 1
log_bytes ty.I32 = 2
log_bytes ty.U32 = 2
log_bytes ty.I64 = 3
log_bytes ty.U64 = 3

abbrev pub is_signed : Ty → Bool
is_signed ty.I8 = true
is_signed ty.I16 = true
is_signed ty.I32 = true
is_signed ty.I64 = true
is_signed ty.U8 = false
is_signed ty.U16 = false
is_signed ty.U32 = false
is_signed ty.U64 = false

-- the number from 0 to 2^k - 1 that is congruent to z modulo 2^k
abbrev pub residue : ℕ → ℤ → ℕ
residue k (pos n) = n % 2 ^ k
residue k (negsuc n) = 2 ^ k - 1 - n % 2 ^ k

-- the value of the type that is congruent to z modulo 2 to its width
abbrev pub wrap : Ty → ℤ → ℤ
wrap t z = if is_signed t then cast_signed (integer_width t) (residue (bits_of t) z) else pos (residue (bits_of t) z)

-- The numbers that fields hold for sizes, types and shifts (Arm DDI 0487, chapter C8, "SVE Instruction Descriptions").
use Rattle.std.specs.Prelude.{ℕ, ◌*◌, ◌-◌, ◌^◌, Bool, nat_lt, if◌then◌else◌}
use Rattle.guest_types.specs.LaneMemory.{load_form, size_of_width}
use Rattle.sve_code.specs.declared.parts.Size.{Size}
use Rattle.sve_code.specs.declared.parts.Size.TheVariants as sizes
use Rattle.sve_code.specs.declared.parts.SizeFromH.{SizeFromH}
use Rattle.sve_code.specs.declared.parts.SizeFromH.TheVariants as sizes_from_h
use Rattle.sve_code.specs.declared.parts.SizeFromS.{SizeFromS}
use Rattle.sve_code.specs.declared.parts.SizeFromS.TheVariants as sizes_from_s
use Rattle.sve_code.specs.declared.parts.Dtype.{Dtype}
use Rattle.sve_code.specs.declared.parts.Dtype.TheVariants as dtypes

abbrev pub size_number : Size → ℕ
size_number sizes.B = 0
size_number sizes.H = 1
size_number sizes.S = 2
size_number sizes.D = 3

abbrev pub size_from_h_number : SizeFromH → ℕ
size_from_h_number sizes_from_h.H = 1
size_from_h_number sizes_from_h.S = 2
size_from_h_number sizes_from_h.D = 3

abbrev pub size_from_s_number : SizeFromS → ℕ
size_from_s_number sizes_from_s.S = 2
size_from_s_number sizes_from_s.D = 3

-- the bits of an element of this size
abbrev pub element_width : ℕ → ℕ
element_width size = 8 * 2 ^ size

abbrev pub dtype_number : Dtype → ℕ
dtype_number dtypes.ByteToB = 0
dtype_number dtypes.ByteToH = 1
dtype_number dtypes.ByteToS = 2
dtype_number dtypes.ByteToD = 3
dtype_number dtypes.SignedWordToD = 4
dtype_number dtypes.HalfwordToH = 5
dtype_number dtypes.HalfwordToS = 6
dtype_number dtypes.HalfwordToD = 7
dtype_number dtypes.SignedHalfwordToD = 8
dtype_number dtypes.SignedHalfwordToS = 9
dtype_number dtypes.WordToS = 10
dtype_number dtypes.WordToD = 11
dtype_number dtypes.SignedByteToD = 12
dtype_number dtypes.SignedByteToS = 13
dtype_number dtypes.SignedByteToH = 14
dtype_number dtypes.DoublewordToD = 15

-- ---- what a dtype says: the sizes in memory and of the element, and whether it sign-extends ("LD1B (scalar plus scalar)" and its like)
abbrev pub memory_size : ℕ → ℕ
memory_size dtype = size_of_width (load_form dtype).memory

abbrev pub element_size : ℕ → ℕ
element_size dtype = size_of_width (load_form dtype).element

abbrev pub is_signed : ℕ → Bool
is_signed dtype = (load_form dtype).signed

-- ---- what tszh:tszl:imm3 says ("LSL (immediate, unpredicated)" and its like)
abbrev pub shift_size : ℕ → ℕ
shift_size value = if nat_lt value 16 then 0 else (if nat_lt value 32 then 1 else (if nat_lt value 64 then 2 else 3))

abbrev pub left_amount : ℕ → ℕ
left_amount value = value - element_width (shift_size value)

abbrev pub right_amount : ℕ → ℕ
right_amount value = 2 * element_width (shift_size value) - value

-- The forms of an instruction's text: the text behind the mnemonic with its blanks (`Blanks`), what its numbers add to the word, and the
-- mnemonics that stand before it, each with its base.
use Rattle.std.specs.Prelude.{ℕ, ◌+◌, ◌*◌, ◌-◌, ◌/◌, ◌%◌, ◌^◌, ◌==◌, List, [], ◌∷◌, Option, Some, None, nat_le, if◌then◌else◌, codes, bytes_eq}

-- what the numbers of a text add
pub data Sum : Type 0 where
  -- each number times its factor
  Factors : List ℕ → Sum
  -- a quarter of the one number, times this
  Quarter : ℕ → Sum
  -- zd, its size, zn, its size, and by how much zn is shifted to the left, or to the right
  LeftShift : Sum
  RightShift : Sum

pub record Form : Type 0 where
  pub operands : List ℕ
  pub adds : Sum
  pub mnemonics : List (List ℕ × ℕ)

abbrev pub form : List ℕ → Sum → List (List ℕ × ℕ) → Form
form operands adds mnemonics = record { operands = operands; adds = adds; mnemonics = mnemonics }

unfoldable pub data_processing : List Form
data_processing =
    form (codes " x, x, #0") (Factors (1 ∷ 32 ∷ 1024 ∷ []))
    ((codes "add", 0x91000000) ∷ (codes "sub", 0xD1000000) ∷ (codes "subs", 0xF1000000) ∷ [])
    ∷ form (codes " x, x, #0, l #0") (Factors (1 ∷ 32 ∷ 1024 ∷ []))
    ((codes "add", 0x91400000) ∷ (codes "sub", 0xD1400000) ∷ (codes "subs", 0xF1400000) ∷ [])
    ∷ form (codes " x, x, x") (Factors (1 ∷ 32 ∷ 65536 ∷ []))
    ((codes "add", 0x8B000000) ∷ (codes "sub", 0xCB000000) ∷ (codes "subs", 0xEB000000) ∷ (codes "and", 0x8A000000) ∷ (codes "orr", 0xAA000000) ∷ (codes "eor", 0xCA000000) ∷ (codes "orn", 0xAA200000) ∷ (codes "lslv", 0x9AC02000) ∷ (codes "lsrv", 0x9AC02400) ∷ (codes "asrv", 0x9AC02800) ∷ [])
    ∷ form (codes " x, x, x, l #0") (Factors (1 ∷ 32 ∷ 65536 ∷ 4194304 ∷ 1024 ∷ []))
    ((codes "add", 0x8B000000) ∷ (codes "sub", 0xCB000000) ∷ (codes "subs", 0xEB000000) ∷ (codes "and", 0x8A000000) ∷ (codes "orr", 0xAA000000) ∷ (codes "eor", 0xCA000000) ∷ (codes "orn", 0xAA200000) ∷ [])
    ∷ form (codes " x, #0") (Factors (1 ∷ 32 ∷ []))
    ((codes "movz", 0xD2800000) ∷ (codes "movk", 0xF2800000) ∷ (codes "movn", 0x92800000) ∷ [])
    ∷ form (codes " x, #0, l #0") (Factors (1 ∷ 32 ∷ 0 ∷ 131072 ∷ []))
    ((codes "movz", 0xD2800000) ∷ (codes "movk", 0xF2800000) ∷ (codes "movn", 0x92800000) ∷ [])
    ∷ form (codes " x, x, x, x") (Factors (1 ∷ 32 ∷ 65536 ∷ 1024 ∷ []))
    ((codes "madd", 0x9B000000) ∷ (codes "msub", 0x9B008000) ∷ [])
    ∷ form (codes " x, x, #0, #0") (Factors (1 ∷ 32 ∷ 65536 ∷ 1024 ∷ []))
    ((codes "sbfm", 0x93400000) ∷ (codes "ubfm", 0xD3400000) ∷ [])
    ∷ form (codes " x, x, x, c") (Factors (1 ∷ 32 ∷ 65536 ∷ 4096 ∷ []))
    ((codes "csel", 0x9A800000) ∷ (codes "csinc", 0x9A800400) ∷ [])
    ∷ []

unfoldable pub branches : List Form
branches =
    form (codes " #0") (Quarter 1)
    ((codes "b", 0x14000000) ∷ [])
    ∷ form (codes " #-0") (Quarter 18446744073709551615)
    ((codes "b", 0x18000000) ∷ [])
    ∷ form (codes ".c #0") (Factors (1 ∷ 8 ∷ []))
    ((codes "b", 0x54000000) ∷ [])
    ∷ form (codes ".c #-0") (Factors (1 ∷ 18446744073709551608 ∷ []))
    ((codes "b", 0x55000000) ∷ [])
    ∷ form (codes " x, #0") (Factors (1 ∷ 8 ∷ []))
    ((codes "cbz", 0xB4000000) ∷ (codes "cbnz", 0xB5000000) ∷ [])
    ∷ form (codes " x, #-0") (Factors (1 ∷ 18446744073709551608 ∷ []))
    ((codes "cbz", 0xB5000000) ∷ (codes "cbnz", 0xB6000000) ∷ [])
    ∷ form (codes " x") (Factors (32 ∷ []))
    ((codes "ret", 0xD65F0000) ∷ [])
    ∷ form (codes " #0") (Factors (32 ∷ []))
    ((codes "svc", 0xD4000001) ∷ (codes "brk", 0xD4200000) ∷ [])
    ∷ form (codes "") (Factors ([]))
    ((codes "nop", 0xD503201F) ∷ (codes "setffr", 0x252C9000) ∷ [])
    ∷ form (codes " x, v.T[0]") (Factors (1 ∷ 32 ∷ []))
    ((codes "umov", 0x4E083C00) ∷ [])
    ∷ []

unfoldable pub offset_accesses : List Form
offset_accesses =
    form (codes " w, [x]") (Factors (1 ∷ 32 ∷ []))
    ((codes "ldrb", 0x39400000) ∷ (codes "strb", 0x39000000) ∷ (codes "ldrh", 0x79400000) ∷ (codes "strh", 0x79000000) ∷ (codes "ldr", 0xB9400000) ∷ (codes "str", 0xB9000000) ∷ [])
    ∷ form (codes " x, [x]") (Factors (1 ∷ 32 ∷ []))
    ((codes "ldrsb", 0x39800000) ∷ (codes "ldrsh", 0x79800000) ∷ (codes "ldrsw", 0xB9800000) ∷ (codes "ldr", 0xF9400000) ∷ (codes "str", 0xF9000000) ∷ [])
    ∷ form (codes " w, [x, #0]") (Factors (1 ∷ 32 ∷ 1024 ∷ []))
    ((codes "ldrb", 0x39400000) ∷ (codes "strb", 0x39000000) ∷ [])
    ∷ form (codes " w, [x, #0]") (Factors (1 ∷ 32 ∷ 512 ∷ []))
    ((codes "ldrh", 0x79400000) ∷ (codes "strh", 0x79000000) ∷ [])
    ∷ form (codes " w, [x, #0]") (Factors (1 ∷ 32 ∷ 256 ∷ []))
    ((codes "ldr", 0xB9400000) ∷ (codes "str", 0xB9000000) ∷ [])
    ∷ form (codes " x, [x, #0]") (Factors (1 ∷ 32 ∷ 1024 ∷ []))
    ((codes "ldrsb", 0x39800000) ∷ [])
    ∷ form (codes " x, [x, #0]") (Factors (1 ∷ 32 ∷ 512 ∷ []))
    ((codes "ldrsh", 0x79800000) ∷ [])
    ∷ form (codes " x, [x, #0]") (Factors (1 ∷ 32 ∷ 256 ∷ []))
    ((codes "ldrsw", 0xB9800000) ∷ [])
    ∷ form (codes " x, [x, #0]") (Factors (1 ∷ 32 ∷ 128 ∷ []))
    ((codes "ldr", 0xF9400000) ∷ (codes "str", 0xF9000000) ∷ [])
    ∷ []

unfoldable pub indexed_accesses : List Form
indexed_accesses =
    form (codes " w, [x, x]") (Factors (1 ∷ 32 ∷ 65536 ∷ []))
    ((codes "ldrb", 0x38606800) ∷ (codes "strb", 0x38206800) ∷ (codes "ldrh", 0x78606800) ∷ (codes "strh", 0x78206800) ∷ (codes "ldr", 0xB8606800) ∷ (codes "str", 0xB8206800) ∷ [])
    ∷ form (codes " x, [x, x]") (Factors (1 ∷ 32 ∷ 65536 ∷ []))
    ((codes "ldrsb", 0x38A06800) ∷ (codes "ldrsh", 0x78A06800) ∷ (codes "ldrsw", 0xB8A06800) ∷ (codes "ldr", 0xF8606800) ∷ (codes "str", 0xF8206800) ∷ [])
    ∷ form (codes " w, [x, x, l #0]") (Factors (1 ∷ 32 ∷ 65536 ∷ []))
    ((codes "ldrh", 0x78607800) ∷ (codes "strh", 0x78207800) ∷ (codes "ldr", 0xB8607800) ∷ (codes "str", 0xB8207800) ∷ [])
    ∷ form (codes " x, [x, x, l #0]") (Factors (1 ∷ 32 ∷ 65536 ∷ []))
    ((codes "ldrsh", 0x78A07800) ∷ (codes "ldrsw", 0xB8A07800) ∷ (codes "ldr", 0xF8607800) ∷ (codes "str", 0xF8207800) ∷ [])
    ∷ []

unfoldable pub predicates : List Form
predicates =
    form (codes " p.T") (Factors (1 ∷ 4194304 ∷ []))
    ((codes "ptrue", 0x2518E3E0) ∷ [])
    ∷ form (codes " p.T") (Factors (1 ∷ []))
    ((codes "pfalse", 0x2518E400) ∷ (codes "rdffr", 0x2519F000) ∷ [])
    ∷ form (codes " p.T") (Factors (32 ∷ []))
    ((codes "wrffr", 0x25289000) ∷ [])
    ∷ form (codes " p.T, x, x") (Factors (1 ∷ 4194304 ∷ 32 ∷ 65536 ∷ []))
    ((codes "whilelo", 0x25201C00) ∷ [])
    ∷ form (codes " p, p.T") (Factors (1024 ∷ 32 ∷ []))
    ((codes "ptest", 0x2550C000) ∷ [])
    ∷ form (codes " p.T, p/z, p.T, p.T") (Factors (1 ∷ 0 ∷ 1024 ∷ 32 ∷ 0 ∷ 65536 ∷ []))
    ((codes "and", 0x25004000) ∷ (codes "bic", 0x25004010) ∷ (codes "eor", 0x25004200) ∷ (codes "orr", 0x25804000) ∷ (codes "ands", 0x25404000) ∷ [])
    ∷ form (codes " p.T, p/z, p.T") (Factors (1 ∷ 0 ∷ 1024 ∷ 32 ∷ []))
    ((codes "brka", 0x25104000) ∷ (codes "brkb", 0x25904000) ∷ [])
    ∷ form (codes " p.T, p/z") (Factors (1 ∷ 0 ∷ 32 ∷ []))
    ((codes "rdffr", 0x2518F000) ∷ [])
    ∷ []

unfoldable pub counts : List Form
counts =
    form (codes " x") (Factors (1 ∷ []))
    ((codes "cntb", 0x0420E3E0) ∷ (codes "cnth", 0x0460E3E0) ∷ (codes "cntw", 0x04A0E3E0) ∷ (codes "cntd", 0x04E0E3E0) ∷ [])
    ∷ form (codes " x, p.T") (Factors (1 ∷ 32 ∷ 4194304 ∷ []))
    ((codes "incp", 0x252C8800) ∷ [])
    ∷ form (codes " x, p, p.T") (Factors (1 ∷ 1024 ∷ 32 ∷ 4194304 ∷ []))
    ((codes "cntp", 0x25208000) ∷ [])
    ∷ form (codes " z.T, w") (Factors (1 ∷ 4194304 ∷ 32 ∷ []))
    ((codes "dup", 0x05203800) ∷ [])
    ∷ form (codes " z.T, x") (Factors (1 ∷ 4194304 ∷ 32 ∷ []))
    ((codes "dup", 0x05203800) ∷ [])
    ∷ form (codes " z.T, w, #0") (Factors (1 ∷ 4194304 ∷ 32 ∷ 65536 ∷ []))
    ((codes "index", 0x04204400) ∷ [])
    ∷ form (codes " z.T, w, #-0") (Factors (1 ∷ 4194304 ∷ 32 ∷ 18446744073709486080 ∷ []))
    ((codes "index", 0x04404400) ∷ [])
    ∷ form (codes " z.T, x, #0") (Factors (1 ∷ 4194304 ∷ 32 ∷ 65536 ∷ []))
    ((codes "index", 0x04204400) ∷ [])
    ∷ form (codes " z.T, x, #-0") (Factors (1 ∷ 4194304 ∷ 32 ∷ 18446744073709486080 ∷ []))
    ((codes "index", 0x04404400) ∷ [])
    ∷ form (codes " z.T, p, z.T, z.T") (Factors (1 ∷ 4194304 ∷ 1024 ∷ 32 ∷ 0 ∷ 65536 ∷ []))
    ((codes "sel", 0x0520C000) ∷ [])
    ∷ []

unfoldable pub vectors : List Form
vectors =
    form (codes " z.T, z.T, z.T") (Factors (1 ∷ 4194304 ∷ 32 ∷ 0 ∷ 65536 ∷ []))
    ((codes "add", 0x04200000) ∷ (codes "sub", 0x04200400) ∷ [])
    ∷ form (codes " z.T, z.T, z.T") (Factors (1 ∷ 0 ∷ 32 ∷ 0 ∷ 65536 ∷ []))
    ((codes "and", 0x04203000) ∷ (codes "orr", 0x04603000) ∷ (codes "eor", 0x04A03000) ∷ (codes "bic", 0x04E03000) ∷ [])
    ∷ form (codes " z.T, z.T, #0") LeftShift
    ((codes "lsl", 0x04209C00) ∷ [])
    ∷ form (codes " z.T, z.T, #0") RightShift
    ((codes "lsr", 0x04209400) ∷ (codes "asr", 0x04209000) ∷ [])
    ∷ form (codes " z.T, p/m, z.T, z.T") (Factors (1 ∷ 4194304 ∷ 1024 ∷ 0 ∷ 0 ∷ 32 ∷ []))
    ((codes "add", 0x04000000) ∷ (codes "sub", 0x04010000) ∷ (codes "smax", 0x04080000) ∷ (codes "umax", 0x04090000) ∷ (codes "smin", 0x040A0000) ∷ (codes "umin", 0x040B0000) ∷ (codes "mul", 0x04100000) ∷ (codes "orr", 0x04180000) ∷ (codes "eor", 0x04190000) ∷ (codes "and", 0x041A0000) ∷ [])
    ∷ form (codes " z.T, p/m, z.T") (Factors (1 ∷ 4194304 ∷ 1024 ∷ 32 ∷ []))
    ((codes "abs", 0x0416A000) ∷ (codes "neg", 0x0417A000) ∷ (codes "not", 0x041EA000) ∷ (codes "sxtb", 0x0410A000) ∷ (codes "uxtb", 0x0411A000) ∷ (codes "sxth", 0x0412A000) ∷ (codes "uxth", 0x0413A000) ∷ [])
    ∷ form (codes " z.T, p/m, z.T") (Factors (1 ∷ 0 ∷ 1024 ∷ 32 ∷ []))
    ((codes "sxtw", 0x04D4A000) ∷ (codes "uxtw", 0x04D5A000) ∷ [])
    ∷ form (codes " v, p, z.T") (Factors (1 ∷ 1024 ∷ 32 ∷ 4194304 ∷ []))
    ((codes "uaddv", 0x04012000) ∷ (codes "smaxv", 0x04082000) ∷ (codes "umaxv", 0x04092000) ∷ (codes "sminv", 0x040A2000) ∷ (codes "uminv", 0x040B2000) ∷ (codes "orv", 0x04182000) ∷ (codes "eorv", 0x04192000) ∷ (codes "andv", 0x041A2000) ∷ [])
    ∷ form (codes " p.T, p/z, z.T, z.T") (Factors (1 ∷ 4194304 ∷ 1024 ∷ 32 ∷ 0 ∷ 65536 ∷ []))
    ((codes "cmphs", 0x24000000) ∷ (codes "cmphi", 0x24000010) ∷ (codes "cmpge", 0x24008000) ∷ (codes "cmpgt", 0x24008010) ∷ (codes "cmpeq", 0x2400A000) ∷ (codes "cmpne", 0x2400A010) ∷ [])
    ∷ []

unfoldable pub vector_accesses : List Form
vector_accesses =
    form (codes " {z.T}, p/z, [x, x]") (Factors (1 ∷ 2097152 ∷ 1024 ∷ 32 ∷ 65536 ∷ []))
    ((codes "ld1b", 0xA4004000) ∷ (codes "ldff1b", 0xA4006000) ∷ [])
    ∷ form (codes " {z.T}, p/z, [x, x]") (Factors (1 ∷ 18446744073707454464 ∷ 1024 ∷ 32 ∷ 65536 ∷ []))
    ((codes "ld1sb", 0xA5E04000) ∷ (codes "ldff1sb", 0xA5E06000) ∷ [])
    ∷ form (codes " {z.T}, p/z, [x, x, l #0]") (Factors (1 ∷ 2097152 ∷ 1024 ∷ 32 ∷ 65536 ∷ []))
    ((codes "ld1h", 0xA4804000) ∷ (codes "ld1w", 0xA5004000) ∷ (codes "ld1d", 0xA5804000) ∷ (codes "ldff1h", 0xA4806000) ∷ (codes "ldff1w", 0xA5006000) ∷ (codes "ldff1d", 0xA5806000) ∷ [])
    ∷ form (codes " {z.T}, p/z, [x, x, l #0]") (Factors (1 ∷ 18446744073707454464 ∷ 1024 ∷ 32 ∷ 65536 ∷ []))
    ((codes "ld1sh", 0xA5604000) ∷ (codes "ld1sw", 0xA4E04000) ∷ (codes "ldff1sh", 0xA5606000) ∷ (codes "ldff1sw", 0xA4E06000) ∷ [])
    ∷ form (codes " {z.T}, p/z, [x]") (Factors (1 ∷ 2097152 ∷ 1024 ∷ 32 ∷ []))
    ((codes "ldnf1b", 0xA410A000) ∷ (codes "ldnf1h", 0xA490A000) ∷ (codes "ldnf1w", 0xA510A000) ∷ (codes "ldnf1d", 0xA590A000) ∷ [])
    ∷ form (codes " {z.T}, p/z, [x]") (Factors (1 ∷ 18446744073707454464 ∷ 1024 ∷ 32 ∷ []))
    ((codes "ldnf1sb", 0xA5F0A000) ∷ (codes "ldnf1sh", 0xA570A000) ∷ (codes "ldnf1sw", 0xA4F0A000) ∷ [])
    ∷ form (codes " {z.T}, p/z, [x, z.T]") (Factors (1 ∷ 0 ∷ 1024 ∷ 32 ∷ 65536 ∷ []))
    ((codes "ld1b", 0xC440C000) ∷ (codes "ld1h", 0xC4C0C000) ∷ (codes "ld1w", 0xC540C000) ∷ (codes "ld1d", 0xC5C0C000) ∷ (codes "ld1sb", 0xC4408000) ∷ (codes "ld1sh", 0xC4C08000) ∷ (codes "ld1sw", 0xC5408000) ∷ [])
    ∷ form (codes " {z.T}, p, [x, x]") (Factors (1 ∷ 2097152 ∷ 1024 ∷ 32 ∷ 65536 ∷ []))
    ((codes "st1b", 0xE4004000) ∷ [])
    ∷ form (codes " {z.T}, p, [x, x, l #0]") (Factors (1 ∷ 2097152 ∷ 1024 ∷ 32 ∷ 65536 ∷ []))
    ((codes "st1h", 0xE4804000) ∷ (codes "st1w", 0xE5004000) ∷ (codes "st1d", 0xE5804000) ∷ [])
    ∷ []

-- ---- what the numbers add
unfoldable pub dot : List ℕ → List ℕ → ℕ
dot [] numbers = 0
dot (f ∷ factors) [] = 0
dot (f ∷ factors) (n ∷ numbers) = f * n + dot factors numbers

-- the bits of an element whose size has this number
abbrev pub element_bits : ℕ → ℕ
element_bits size = if size == 0 then 8 else (if size == 1 then 16 else (if size == 2 then 32 else 64))

-- tszh:tszl:imm3 in its place
abbrev pub shift_field : ℕ → ℕ
shift_field value = value % 32 * 2 ^ 16 + value / 32 * 2 ^ 22

abbrev pub shift_sum : ℕ → ℕ → ℕ → ℕ
shift_sum zd zn value = zd + 32 * zn + shift_field value

unfoldable pub quarter : ℕ → List ℕ → ℕ
quarter factor (n ∷ []) = factor * (n / 4)
quarter factor _ = 0

unfoldable pub left_shift : List ℕ → ℕ
left_shift (zd ∷ size ∷ zn ∷ same ∷ n ∷ []) = if nat_le n 64 then shift_sum zd zn (element_bits size + n) else 0
left_shift _ = 0

unfoldable pub right_shift : List ℕ → ℕ
right_shift (zd ∷ size ∷ zn ∷ same ∷ n ∷ []) = if nat_le n 64 then shift_sum zd zn (2 * element_bits size - n) else 0
right_shift _ = 0

abbrev pub sum_of : Sum → List ℕ → ℕ
sum_of (Factors factors) numbers = dot factors numbers
sum_of (Quarter factor) numbers = quarter factor numbers
sum_of LeftShift numbers = left_shift numbers
sum_of RightShift numbers = right_shift numbers

-- ---- the form of a text
unfoldable pub base_of : List (List ℕ × ℕ) → List ℕ → Option ℕ
base_of [] mnemonic = None
base_of (m ∷ ms) mnemonic = if bytes_eq m.0 mnemonic then Some m.1 else base_of ms mnemonic

abbrev pub with_base : Sum → Option ℕ → Option (Sum × ℕ) → Option (Sum × ℕ)
with_base adds None others = others
with_base adds (Some base) others = Some (adds, base)

-- what the numbers add in the first of these forms that has the operands and the mnemonic, and its base
unfoldable pub form_in : List Form → (mnemonic operands : List ℕ) → Option (Sum × ℕ)
form_in [] mnemonic operands = None
form_in (f ∷ fs) mnemonic operands =
    if bytes_eq f.operands operands then with_base f.adds (base_of f.mnemonics mnemonic) (form_in fs mnemonic operands) else form_in fs mnemonic operands

abbrev pub first_of : {A : Type 0} → Option A → Option A → Option A
first_of None others = others
first_of (Some x) others = Some x

-- the same in all forms
unfoldable pub form_of : (mnemonic operands : List ℕ) → Option (Sum × ℕ)
form_of mnemonic operands =
    first_of (form_in data_processing mnemonic operands) (
    first_of (form_in branches mnemonic operands) (
    first_of (form_in offset_accesses mnemonic operands) (
    first_of (form_in indexed_accesses mnemonic operands) (
    first_of (form_in predicates mnemonic operands) (
    first_of (form_in counts mnemonic operands) (
    first_of (form_in vectors mnemonic operands) (
    form_in vector_accesses mnemonic operands)))))))

-- Vector lengths and element widths (Arm DDI 0584, "Vector length" and "Element size").
use Rattle.std.specs.Prelude.{◌≡◌, ℕ, ◌/◌, ◌%◌, ◌^◌, ◌≤◌}
use Rattle.guest_types.specs.declared.length.Width.{Width}
use Rattle.guest_types.specs.declared.length.Width.TheVariants.{B, H, S, D}

-- a vector length: a multiple of 128 bits from 128 to 2048
abbrev pub IsLength : ℕ → Type 0
IsLength n = (n % 128 ≡ 0) × (128 ≤ n) × (n ≤ 2048)

-- how many bits an element has
abbrev pub width_bits : Width → ℕ
width_bits B = 8
width_bits H = 16
width_bits S = 32
width_bits D = 64

-- how many bytes an element has
abbrev pub width_bytes : Width → ℕ
width_bytes B = 1
width_bytes H = 2
width_bytes S = 4
width_bytes D = 8

-- how many numbers an element can hold
abbrev pub modulus : Width → ℕ
modulus B = 2 ^ 8
modulus H = 2 ^ 16
modulus S = 2 ^ 32
modulus D = 2 ^ 64

-- how many elements a register of this length has
abbrev pub lanes : ℕ → Width → ℕ
lanes vl w = vl / width_bits w

-- how many elements 256 bytes have, the most that a register can hold
abbrev pub all_lanes : Width → ℕ
all_lanes B = 256
all_lanes H = 128
all_lanes S = 64
all_lanes D = 32

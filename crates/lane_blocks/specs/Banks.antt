-- All vector registers of a machine, of which one is written in place.
use Rattle.std.specs.Prelude.{◌≡◌, ℕ, ◌-◌, ◌/◌, List, [], drop, slice_index_or, slice_set}
use lib.ListN.{replicate}
use Rattle.guest_types.specs.declared.length.Width.{Width}
use Rattle.guest_types.specs.declared.register.ZReg.{ZReg}
use Rattle.guest_types.specs.Length.{width_bytes}
use Rattle.guest_types.specs.Elements.{register}

-- the bytes of register n
abbrev pub bytes_at : List ZReg → ℕ → List ℕ
bytes_at zs n = (slice_index_or zs n (record { bytes = [] })).bytes

-- the registers with register d replaced by n elements, where element e is f e
abbrev pub with_elements : List ZReg → (d : ℕ) → Width → (f : ℕ → ℕ) → (n : ℕ) → List ZReg
with_elements zs d w f n = slice_set zs d (record { bytes = register (width_bytes w) f n })

-- a register is zero past the vector length
abbrev pub EndsAt : ℕ → List ℕ → Type 0
EndsAt vl z = drop (vl / 8) z ≡ replicate (256 - vl / 8) 0

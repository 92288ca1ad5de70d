-- Where a part of one page stands.
use Rattle.std.specs.Prelude.{◌≡◌, ℕ, suc, ◌+◌, ◌/◌, ◌%◌, ◌≤◌, ◌<◌, [], ◌∷◌, length, nat_eq, if◌then◌else◌}
use Rattle.guest_types.specs.Memory.{Memory}
use Rattle.guest_types.specs.declared.memory.TheConstants.{PAGE_BYTES}

-- how many pages stand before the one with a number
abbrev pub place_in : Memory → ℕ → ℕ
place_in [] number = 0
place_in (page ∷ pages) number = if nat_eq page.page number then 0 else suc (place_in pages number)

-- The page of an address stands at this place, and `len` bytes from the address on do not go past its end.
pub record IsPlaceOf (memory : Memory) (address len place : ℕ) : Type 0 where
  pub here : place_in memory (address / PAGE_BYTES) ≡ place
  pub below : place < length memory
  pub inside : address % PAGE_BYTES + len ≤ PAGE_BYTES

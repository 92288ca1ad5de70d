-- The pages that a sweep maps: two arrays with drawn bytes, and one of zeros.
use Rattle.std.specs.Prelude.{ℕ, zero, suc, ◌+◌, ◌*◌, ◌%◌, List, [], ◌∷◌, ◌++◌, replicate}
use Rattle.guest_types.specs.declared.memory.Perm.TheVariants.{ReadWrite}
use Rattle.guest_types.specs.Memory.{Page, Memory, byte_or_zero}
use Rattle.guest_types.specs.declared.memory.TheConstants.{PAGE_BYTES}
use Rattle.sweep_kernel.specs.Numbers.{random}

-- the low bytes of so many numbers, from the j-th on
unfoldable pub low_bytes : (seed j : ℕ) → ℕ → List ℕ
low_bytes seed j zero = []
low_bytes seed j (suc n) = low_bytes seed j n ++ random seed (j + n) % 256 ∷ []

-- the bytes of page p of an array that begins with the j-th number
unfoldable pub drawn_page : (seed j : ℕ) → ℕ → List ℕ
drawn_page seed j p = low_bytes seed (j + PAGE_BYTES * p) PAGE_BYTES

unfoldable pub zero_page : ℕ → List ℕ
zero_page p = replicate PAGE_BYTES 0

-- a page that may be written
abbrev pub page_with : (number : ℕ) → List ℕ → Page
page_with number bytes = record { page = number; perm = ReadWrite; bytes = bytes }

-- so many pages that may be written, from a page number on
unfoldable pub pages_from : (first : ℕ) → (bytes : ℕ → List ℕ) → ℕ → Memory
pages_from first bytes zero = []
pages_from first bytes (suc n) = pages_from first bytes n ++ page_with (first + n) (bytes n) ∷ []

-- the 50 pages of the first array, the 25 of the second, and the 100 of the third
unfoldable pub pages_of : ℕ → Memory
pages_of seed =
    pages_from 0x1000 (drawn_page seed 6) 50 ++ (pages_from 0x2000 (drawn_page seed 204806) 25 ++ pages_from 0x3000 zero_page 100)

-- the sum of so many bytes of a memory, from an address on
unfoldable pub sum_from : Memory → (address : ℕ) → ℕ → ℕ
sum_from memory address zero = 0
sum_from memory address (suc n) = sum_from memory address n + byte_or_zero memory (address + n)

-- the sum of the bytes of the third array
abbrev pub sum_of : Memory → ℕ
sum_of memory = sum_from memory 0x3000000 409600

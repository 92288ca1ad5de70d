-- A guest's memory: pages of 4,096 bytes, little-endian, with no alignment faults.
use Rattle.std.specs.Prelude.{◌≡◌, ◌≢◌, ℕ, zero, suc, ◌+◌, ◌*◌, ◌/◌, ◌%◌, ◌^◌, ◌<◌, Bool, true, false, List, [], ◌∷◌, map, length, Option, Some, None, Result, Ok, Err, nat_eq, nat_lt, is_some, slice_index, slice_set, option_map, option_and_then, if◌then◌else◌, find, unwrap_or, All}
use Rattle.std.specs.List.Sorted.{IsStrictlyIncreasing}
use Rattle.guest_types.specs.declared.memory.Perm.{Perm}
use Rattle.guest_types.specs.declared.memory.Perm.TheVariants.{Read, ReadWrite, ReadExec}
use Rattle.guest_types.specs.declared.memory.AccessFault.{AccessFault}
use Rattle.guest_types.specs.declared.memory.PageSpec.{PageSpec}
use Rattle.guest_types.specs.declared.memory.TheConstants.{PAGE_BYTES}

-- a page: its number, what it may be used for, and its bytes
abbrev pub Page : Type 0
Page = PageSpec

-- a memory as the list of its pages
abbrev pub Memory : Type 0
Memory = List Page

-- a page as it may stand in a memory
pub record IsPage (page : Page) : Type 0 where
  pub below : page.page < 2 ^ 36
  pub whole : length page.bytes ≡ PAGE_BYTES
  pub small : All (λ b. b < 256) page.bytes

-- the numbers of the pages
abbrev pub page_numbers : Memory → List ℕ
page_numbers memory = map (λ page. page.page) memory

-- the pages of a memory are pages, and their numbers ascend
pub record IsMemory (memory : Memory) : Type 0 where
  pub ascending : IsStrictlyIncreasing (page_numbers memory)
  pub pages : All IsPage memory

-- the page with this number
abbrev pub page_at : Memory → ℕ → Option Page
page_at memory n = find (λ page. nat_eq page.page n) memory

-- the byte of a page that an address names
abbrev pub byte_of : Page → ℕ → ℕ
byte_of page address = slice_index page.bytes (address % PAGE_BYTES)

-- the byte at an address, where it is readable
abbrev pub byte_at : Memory → ℕ → Option ℕ
byte_at memory address = option_map (λ page. byte_of page address) (page_at memory (address / PAGE_BYTES))

-- the page may be written
abbrev pub is_writable : Perm → Bool
is_writable Read = false
is_writable ReadWrite = true
is_writable ReadExec = false

-- instructions of the page may be fetched
abbrev pub is_executable : Perm → Bool
is_executable Read = false
is_executable ReadWrite = false
is_executable ReadExec = true

-- the address is readable
abbrev pub can_read : Memory → ℕ → Bool
can_read memory address = is_some (page_at memory (address / PAGE_BYTES))

-- there is a page, which may be written
abbrev pub may_write : Option Page → Bool
may_write None = false
may_write (Some page) = is_writable page.perm

-- the address is writable
abbrev pub can_write : Memory → ℕ → Bool
can_write memory address = may_write (page_at memory (address / PAGE_BYTES))

-- the next address
abbrev pub next_address : ℕ → ℕ
next_address address = (address + 1) % 2 ^ 64

-- the first of so many addresses that fails a test
abbrev pub first_fault : (ℕ → Bool) → ℕ → ℕ → Option ℕ
first_fault test address zero = None
first_fault test address (suc size) = if test address then first_fault test (next_address address) size else Some address

-- the byte at an address, or 0 where it is not readable
abbrev pub byte_or_zero : Memory → ℕ → ℕ
byte_or_zero memory address = unwrap_or (byte_at memory address) 0

-- the little-endian number of so many bytes
abbrev pub number_at : Memory → ℕ → ℕ → ℕ
number_at memory address zero = 0
number_at memory address (suc size) = byte_or_zero memory address + 256 * number_at memory (next_address address) size

-- what a read gives
abbrev pub loaded : Memory → ℕ → ℕ → Result ℕ AccessFault
loaded memory address size =
    elim (first_fault (can_read memory) address size) [
      | None ↦ Ok (number_at memory address size)
      | Some fault ↦ Err (record { address = fault; write = false })
    ]

-- a page with one byte replaced
abbrev pub with_byte : Page → ℕ → ℕ → Page
with_byte page address b = record page { bytes = slice_set page.bytes (address % PAGE_BYTES) b }

-- the memory with one byte replaced, where it is mapped
abbrev pub put_byte : Memory → ℕ → ℕ → Memory
put_byte [] address b = []
put_byte (page ∷ pages) address b =
    if nat_eq page.page (address / PAGE_BYTES) then with_byte page address b ∷ pages else page ∷ put_byte pages address b

-- the memory with the lowest bytes of a number written
abbrev pub put_number : Memory → ℕ → ℕ → ℕ → Memory
put_number memory address zero v = memory
put_number memory address (suc size) v = put_number (put_byte memory address (v % 256)) (next_address address) size (v / 256)

-- what a write leaves
abbrev pub stored : Memory → ℕ → ℕ → ℕ → Result Memory AccessFault
stored memory address size v =
    elim (first_fault (can_write memory) address size) [
      | None ↦ Ok (put_number memory address size v)
      | Some fault ↦ Err (record { address = fault; write = true })
    ]

-- the word at an address of an executable page, which is a multiple of 4
abbrev pub fetched : Memory → ℕ → Option ℕ
fetched memory pc =
    if nat_eq (pc % 4) 0 then
    option_and_then
    (λ page. if is_executable page.perm then Some (number_at memory pc 4) else None)
    (page_at memory (pc / PAGE_BYTES))
    else None

-- the pages of two memories in one ascending list; the second is passed as what is left of it after each page of the first
abbrev pub merged_before : Page → (Memory → Memory) → Memory → Memory
merged_before page rest [] = page ∷ rest []
merged_before page rest (other ∷ others) =
    if nat_lt other.page page.page then other ∷ merged_before page rest others else page ∷ rest (other ∷ others)

abbrev pub merged : Memory → Memory → Memory
merged [] others = others
merged (page ∷ pages) others = merged_before page (merged pages) others

-- two memories have no page number in common
abbrev pub DoNotMeet : Memory → Memory → Type 0
DoNotMeet memory other = All (λ page. page_at other page.page ≡ None) memory

-- no byte from address a on, of n, is one of the k bytes from address c on
abbrev pub Disjoint : (a n c k : ℕ) → Type 0
Disjoint a n c k = (i j : ℕ) → i < n → j < k → (a + i) % 2 ^ 64 ≢ (c + j) % 2 ^ 64

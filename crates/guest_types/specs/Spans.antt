-- Parts of one page, which a memory can lend as they stand.
use Rattle.std.specs.Prelude.{ℕ, ◌+◌, ◌/◌, ◌%◌, Bool, ◌&&◌, List, [], ◌∷◌, ◌++◌, take, drop, length, Option, Some, None, nat_eq, nat_le, if◌then◌else◌}
use Rattle.guest_types.specs.Memory.{Page, Memory, page_at, can_read, can_write}
use Rattle.guest_types.specs.declared.memory.TheConstants.{PAGE_BYTES}

-- at least one byte from the address on, all in one page
abbrev pub in_one_page : ℕ → ℕ → Bool
in_one_page address len = nat_le 1 len && nat_le (address % PAGE_BYTES + len) PAGE_BYTES

-- a part of one page that is readable, or writable
abbrev pub has_span : Memory → ℕ → ℕ → Bool
has_span memory address len = in_one_page address len && can_read memory address

abbrev pub has_span_mut : Memory → ℕ → ℕ → Bool
has_span_mut memory address len = in_one_page address len && can_write memory address

-- the bytes of the page at a look-up
abbrev pub bytes_or_none : Option Page → List ℕ
bytes_or_none None = []
bytes_or_none (Some page) = page.bytes

-- so many bytes from the address on, in its page
abbrev pub span_of : Memory → ℕ → ℕ → List ℕ
span_of memory address len = take len (drop (address % PAGE_BYTES) (bytes_or_none (page_at memory (address / PAGE_BYTES))))

-- a page with bytes replaced from a place on
abbrev pub with_bytes : Page → ℕ → List ℕ → Page
with_bytes page at bytes = record page { bytes = take at page.bytes ++ (bytes ++ drop (length bytes) (drop at page.bytes)) }

-- the memory with bytes replaced from an address on, in its page
abbrev pub with_span : Memory → ℕ → List ℕ → Memory
with_span [] address bytes = []
with_span (page ∷ pages) address bytes =
    if nat_eq page.page (address / PAGE_BYTES) then with_bytes page (address % PAGE_BYTES) bytes ∷ pages else page ∷ with_span pages address bytes

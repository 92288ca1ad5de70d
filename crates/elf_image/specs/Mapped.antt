-- What a loaded file has in memory, address by address.
use Rattle.std.specs.Prelude.{ℕ, ◌+◌, ◌-◌, ◌/◌, ◌≤◌, List, Option, option_map, filter}
use Rattle.guest_types.specs.declared.memory.Perm.{Perm}
use Rattle.guest_types.specs.Memory.{Memory, page_at}
use Rattle.guest_types.specs.declared.memory.TheConstants.{PAGE_BYTES}
use Rattle.machine_model.specs.Load.{Segment, le_at, segments_from, is_loaded}

-- the segments of a file that are loaded
abbrev pub segments_of : List ℕ → List Segment
segments_of bytes = filter is_loaded (segments_from bytes (le_at bytes 32 8) (le_at bytes 56 2))

-- an address in one of the pages that the bytes of a segment stand in
abbrev pub IsInPages : Segment → ℕ → Type 0
IsInPages segment address =
    (segment.vaddr / PAGE_BYTES ≤ address / PAGE_BYTES) × (address / PAGE_BYTES ≤ (segment.vaddr + segment.memsz - 1) / PAGE_BYTES)

-- what the page of an address may be used for
abbrev pub perm_at : Memory → ℕ → Option Perm
perm_at memory address = option_map (λ page. page.perm) (page_at memory (address / PAGE_BYTES))

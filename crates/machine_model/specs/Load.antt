-- Loading an ELF64 file of a static AArch64 program (System V ABI, "Object Files" and "Program Loading"; ELF for the Arm
-- 64-bit Architecture). All sums are of plain numbers.
use Rattle.std.specs.Prelude.{ℕ, zero, suc, ◌+◌, ◌-◌, ◌*◌, ◌/◌, ◌%◌, ◌^◌, Bool, false, ◌&&◌, ◌||◌, not, List, [], ◌∷◌, map, length, Option, Some, None, Result, Ok, Err, nat_eq, nat_lt, nat_le, slice_index, if◌then◌else◌, flat_map, filter, sum_by}
use Rattle.std.specs.List.{range_with_len}
use Rattle.guest_types.specs.declared.memory.Perm.{Perm}
use Rattle.guest_types.specs.declared.memory.Perm.TheVariants.{Read, ReadWrite, ReadExec}
use Rattle.guest_types.specs.Memory.{Memory}
use Rattle.guest_types.specs.declared.memory.TheConstants.{PAGE_BYTES, MOST_PAGES}
use Rattle.machine_model.specs.declared.elf_fault.ElfFault.{ElfFault}
use Rattle.machine_model.specs.declared.elf_fault.ElfFault.TheVariants.{Short, NotElf, NotAarch64, NotStatic, BadSegment, SegmentsClash, TooManyPages}

-- An image: the place of its first instruction, the code that a listing shows, from its first byte until `code_end`, and its
-- pages in ascending order. Both ends of the code are 0 where no executable segment's file bytes hold an aligned entry.
pub record Image : Type 0 where
  pub entry : ℕ
  pub code_from : ℕ
  pub code_end : ℕ
  pub pages : Memory

-- the little-endian number of so many bytes of a file
abbrev pub le_at : List ℕ → ℕ → ℕ → ℕ
le_at bytes offset zero = 0
le_at bytes offset (suc size) = slice_index bytes offset + 256 * le_at bytes (offset + 1) size

-- a program header, as far as it is read: p_type, p_flags, p_offset, p_vaddr, p_filesz, p_memsz
pub record Segment : Type 0 where
  pub kind : ℕ
  pub flags : ℕ
  pub offset : ℕ
  pub vaddr : ℕ
  pub filesz : ℕ
  pub memsz : ℕ

abbrev pub segment_at : List ℕ → ℕ → Segment
segment_at bytes at = record {
  kind = le_at bytes at 4;
  flags = le_at bytes (at + 4) 4;
  offset = le_at bytes (at + 8) 8;
  vaddr = le_at bytes (at + 16) 8;
  filesz = le_at bytes (at + 32) 8;
  memsz = le_at bytes (at + 40) 8;
}

-- so many program headers from an offset on
abbrev pub segments_from : List ℕ → ℕ → ℕ → List Segment
segments_from bytes at zero = []
segments_from bytes at (suc n) = segment_at bytes at ∷ segments_from bytes (at + 56) n

-- flags: bit 0 is execute, bit 1 write, bit 2 read
abbrev pub has_flag : Segment → ℕ → Bool
has_flag segment k = nat_eq (segment.flags / 2 ^ k % 2) 1

-- p_type is PT_LOAD, and the segment has bytes in memory
abbrev pub is_loaded : Segment → Bool
is_loaded segment = nat_eq segment.kind 1 && not (nat_eq segment.memsz 0)

-- p_type is PT_DYNAMIC or PT_INTERP: a dynamic loader is wanted
abbrev pub is_dynamic : Segment → Bool
is_dynamic segment = nat_eq segment.kind 2 || nat_eq segment.kind 3

-- of a file of so many bytes: more bytes in the file than in memory, bytes past the end of the file, memory past 2^48, no leave to
-- read, or leave to write and to execute
abbrev pub is_bad : ℕ → Segment → Bool
is_bad size segment =
    nat_lt segment.memsz segment.filesz
    || nat_lt size (segment.offset + segment.filesz)
    || nat_lt (2 ^ 48) (segment.vaddr + segment.memsz)
    || not (has_flag segment 2)
    || (has_flag segment 1 && has_flag segment 0)

-- the index of the first segment that is loaded and bad
abbrev pub first_bad : ℕ → ℕ → List Segment → Option ℕ
first_bad size index [] = None
first_bad size index (segment ∷ segments) =
    if is_loaded segment && is_bad size segment then Some index else first_bad size (index + 1) segments

abbrev pub any_segment : (Segment → Bool) → List Segment → Bool
any_segment test [] = false
any_segment test (segment ∷ segments) = test segment || any_segment test segments

abbrev pub first_page : Segment → ℕ
first_page segment = segment.vaddr / PAGE_BYTES

abbrev pub page_count : Segment → ℕ
page_count segment = (segment.vaddr + segment.memsz - 1) / PAGE_BYTES + 1 - first_page segment

abbrev pub have_common_page : Segment → Segment → Bool
have_common_page a b =
    nat_lt (first_page a) (first_page b + page_count b) && nat_lt (first_page b) (first_page a + page_count a)

abbrev pub clash : List Segment → Bool
clash [] = false
clash (segment ∷ segments) = any_segment (have_common_page segment) segments || clash segments

-- the segments in ascending order of their pages
abbrev pub put_in_order : Segment → List Segment → List Segment
put_in_order segment [] = segment ∷ []
put_in_order segment (other ∷ others) =
    if nat_lt (first_page segment) (first_page other) then segment ∷ other ∷ others else other ∷ put_in_order segment others

abbrev pub in_order : List Segment → List Segment
in_order [] = []
in_order (segment ∷ segments) = put_in_order segment (in_order segments)

abbrev pub perm_of : Segment → Perm
perm_of segment = if has_flag segment 1 then ReadWrite else if has_flag segment 0 then ReadExec else Read

-- the byte that a segment puts at an address
abbrev pub segment_byte : List ℕ → Segment → ℕ → ℕ
segment_byte bytes segment address =
    if nat_le segment.vaddr address && nat_lt address (segment.vaddr + segment.filesz) then
    slice_index bytes (segment.offset + (address - segment.vaddr))
    else 0

-- a page of a segment
unfoldable pub page_bytes : List ℕ → Segment → ℕ → List ℕ
page_bytes bytes segment n = map (λ a. segment_byte bytes segment a) (range_with_len (PAGE_BYTES * n) PAGE_BYTES)

abbrev pub pages_from : List ℕ → Segment → ℕ → ℕ → Memory
pages_from bytes segment n zero = []
pages_from bytes segment n (suc count) =
    record { page = n; perm = perm_of segment; bytes = page_bytes bytes segment n } ∷ pages_from bytes segment (n + 1) count

unfoldable pub pages_of : List ℕ → Segment → Memory
pages_of bytes segment = pages_from bytes segment (first_page segment) (page_count segment)

-- the segment whose file bytes hold an address that may be executed
abbrev pub holds_entry : ℕ → Segment → Bool
holds_entry entry segment =
    has_flag segment 0 && nat_le segment.vaddr entry && nat_lt entry (segment.vaddr + segment.filesz)

abbrev pub code_end_of : ℕ → List Segment → ℕ
code_end_of entry [] = 0
code_end_of entry (segment ∷ segments) =
    if holds_entry entry segment then segment.vaddr + segment.filesz else code_end_of entry segments

abbrev pub image_of : List ℕ → ℕ → List Segment → Image
image_of bytes entry segments =
    let end = if nat_eq (entry % 4) 0 then code_end_of entry segments else 0 in
    record {
      entry = entry;
      code_from = if nat_eq end 0 then 0 else entry;
      code_end = end;
      pages = flat_map (pages_of bytes) (in_order segments);
    }

-- e_ident begins with 0x7f and `ELF`, ELFCLASS64, ELFDATA2LSB and EV_CURRENT
abbrev pub has_ident : List ℕ → Bool
has_ident bytes =
    nat_eq (slice_index bytes 0) 0x7f && nat_eq (slice_index bytes 1) 0x45 && nat_eq (slice_index bytes 2) 0x4c
    && nat_eq (slice_index bytes 3) 0x46 && nat_eq (slice_index bytes 4) 2 && nat_eq (slice_index bytes 5) 1
    && nat_eq (slice_index bytes 6) 1

-- what is refused of the segments, in order
abbrev pub load_segments : List ℕ → ℕ → List Segment → Result Image ElfFault
load_segments bytes entry segments =
    if any_segment is_dynamic segments then Err NotStatic
    else elim (first_bad (length bytes) 0 segments) [
      | Some index ↦ Err (BadSegment index)
      | None ↦
          let loaded = filter is_loaded segments in
          if nat_lt MOST_PAGES (sum_by page_count loaded) then Err TooManyPages
          else if clash loaded then Err SegmentsClash
          else Ok (image_of bytes entry loaded)
    ]

-- fields of the ELF header: the kind of file (ET_EXEC is 2), the machine (EM_AARCH64 is 183), the first instruction, the place of the
-- program headers, their size and their number
abbrev pub e_type : List ℕ → ℕ
e_type bytes = le_at bytes 16 2

abbrev pub e_machine : List ℕ → ℕ
e_machine bytes = le_at bytes 18 2

abbrev pub e_entry : List ℕ → ℕ
e_entry bytes = le_at bytes 24 8

abbrev pub e_phoff : List ℕ → ℕ
e_phoff bytes = le_at bytes 32 8

abbrev pub e_phentsize : List ℕ → ℕ
e_phentsize bytes = le_at bytes 54 2

abbrev pub e_phnum : List ℕ → ℕ
e_phnum bytes = le_at bytes 56 2

-- The first thing that is wrong decides; an ELF header has 64 bytes, and a program header 56.
abbrev pub load : List ℕ → Result Image ElfFault
load bytes =
    let size = length bytes in
    let phoff = e_phoff bytes in
    let phnum = e_phnum bytes in
    if nat_lt size 64 then Err (Short 64 size)
    else if not (has_ident bytes) || (not (nat_eq phnum 0) && not (nat_eq (e_phentsize bytes) 56)) then Err NotElf
    else if not (nat_eq (e_machine bytes) 183) then Err NotAarch64
    else if not (nat_eq (e_type bytes) 2) then Err NotStatic
    else if not (nat_eq phnum 0) && nat_lt size (phoff + 56 * phnum) then Err (Short (phoff + 56 * phnum) size)
    else load_segments bytes (e_entry bytes) (segments_from bytes phoff phnum)

-- The pages that the lines of a page map's text give, read in order beside the pages of an image. The first line that fails
-- answers, and in a line its form is looked at first, then a page that is mapped already, then the number of pages, then a
-- byte in no page of an earlier line.
use Rattle.std.specs.Prelude.{ℕ, ◌+◌, ◌/◌, ◌&&◌, ◌||◌, Bool, List, [], ◌∷◌, length, map, replicate, Option, Some, None, Result, Ok, Err, nat_le, nat_lt, if◌then◌else◌}
use Rattle.std.specs.List.{list_any, range_with_len}
use Rattle.guest_types.specs.declared.memory.Perm.{Perm}
use Rattle.guest_types.specs.Memory.{Page, Memory, can_read, page_numbers, put_byte, next_address, merged}
use Rattle.guest_types.specs.declared.memory.TheConstants.{PAGE_BYTES, MOST_PAGES}
use Rattle.map_text.specs.declared.fault.MapFault.{MapFault}
use Rattle.map_text.specs.declared.fault.MapFault.TheVariants.{BadLine, Clash, Unmapped, TooManyPages}
use Rattle.map_text.specs.Lines.{MapLine, Blank, Maps, Sets, map_line_of}
use Rattle.text_parts.specs.Parts.{lines_of}

-- a number is one of so many from another on
abbrev pub is_within : (first count number : ℕ) → Bool
is_within first count number = nat_le first number && nat_lt number (first + count)

-- a memory has one of so many pages from a number on
abbrev pub has_any : Memory → (first count : ℕ) → Bool
has_any memory first count = list_any (is_within first count) (page_numbers memory)

-- a page of zeros
abbrev pub zero_page : Perm → ℕ → Page
zero_page perm number = record { page = number; perm = perm; bytes = replicate PAGE_BYTES 0 }

unfoldable pub zero_pages : Perm → (first count : ℕ) → Memory
zero_pages perm first count = map (zero_page perm) (range_with_len first count)

-- the memory with bytes put one after another from an address on, where each address is mapped
unfoldable pub put_bytes : Memory → ℕ → List ℕ → Option Memory
put_bytes memory address [] = Some memory
put_bytes memory address (b ∷ bytes) =
    if can_read memory address then put_bytes (put_byte memory address b) (next_address address) bytes else None

-- so many pages of zeros beside those mapped before and those of the image
unfoldable pub with_pages : (image : Memory) (line : ℕ) → Perm → (first count : ℕ) → Memory → Result Memory MapFault
with_pages image line perm first count pages =
    if has_any pages first count || has_any image first count then Err (Clash line)
    else if nat_lt MOST_PAGES (length image + length pages + count) then Err TooManyPages
    else Ok (merged pages (zero_pages perm first count))

abbrev pub put_or_fault : (line : ℕ) → Option Memory → Result Memory MapFault
put_or_fault line (Some pages) = Ok pages
put_or_fault line None = Err (Unmapped line)

-- the pages after a line, by what it says
abbrev pub after_map_line : (image : Memory) (line : ℕ) → MapLine → Memory → Result Memory MapFault
after_map_line image line Blank pages = Ok pages
after_map_line image line (Maps address count perm) pages = with_pages image line perm (address / PAGE_BYTES) count pages
after_map_line image line (Sets address bytes) pages = put_or_fault line (put_bytes pages address bytes)

abbrev pub after_read : (image : Memory) (line : ℕ) → Option MapLine → Memory → Result Memory MapFault
after_read image line (Some form) pages = after_map_line image line form pages
after_read image line None pages = Err (BadLine line)

-- the pages after a line
unfoldable pub after_line : (image : Memory) (line : ℕ) → List ℕ → Memory → Result Memory MapFault
after_line image line text pages = after_read image line (map_line_of text) pages

abbrev pub and_then : Result Memory MapFault → (Memory → Result Memory MapFault) → Result Memory MapFault
and_then (Ok pages) next = next pages
and_then (Err fault) next = Err fault

-- the pages after lines, of which the first has this number
unfoldable pub after_lines : (image : Memory) (line : ℕ) → List (List ℕ) → Memory → Result Memory MapFault
after_lines image line [] pages = Ok pages
after_lines image line (text ∷ texts) pages = and_then (after_line image line text pages) (after_lines image (line + 1) texts)

-- the pages that a text maps beside an image's
unfoldable pub map_of : (text : List ℕ) (image : Memory) → Result Memory MapFault
map_of text image = after_lines image 1 (lines_of text) []

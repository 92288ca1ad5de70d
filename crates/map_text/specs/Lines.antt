-- The lines of a page map's text. A line is empty, begins with `#`, or is one of these, with single spaces: `map ADDR PAGES r`,
-- `map ADDR PAGES rw` and `set ADDR HEX`. A line ends with a line feed; the last one may lack it.
use Rattle.std.specs.Prelude.{ℕ, ◌+◌, ◌*◌, ◌%◌, ◌^◌, ◌&&◌, Bool, List, [], ◌∷◌, length, Option, Some, None, Result, Ok, Err, option_and_then, nat_eq, nat_le, nat_lt, bytes_eq, codes, if◌then◌else◌}
use Rattle.hex.specs.Hex.{decode_of}
use Rattle.hex.specs.declared.error.FromHexError.{FromHexError}
use Rattle.guest_types.specs.declared.memory.Perm.{Perm}
use Rattle.guest_types.specs.declared.memory.Perm.TheVariants.{Read, ReadWrite}
use Rattle.guest_types.specs.declared.memory.TheConstants.{PAGE_BYTES}
use Rattle.number_text.specs.Numbers.{number_of}
use Rattle.text_parts.specs.Parts.{words_of}

-- what a line says
pub data MapLine : Type 0 where
  Blank : MapLine
  Maps : (address count : ℕ) (perm : Perm) → MapLine
  Sets : (address : ℕ) (bytes : List ℕ) → MapLine

abbrev pub perm_of : List ℕ → Option Perm
perm_of word =
    if bytes_eq word (codes "r") then Some Read
    else if bytes_eq word (codes "rw") then Some ReadWrite
    else None

-- whole pages, at least one of them, none beyond 2^48
abbrev pub are_pages : (address count : ℕ) → Bool
are_pages address count =
    nat_eq (address % PAGE_BYTES) 0 && nat_le 1 count && nat_le (address + PAGE_BYTES * count) (2 ^ 48)

abbrev pub maps_pages : (address count : ℕ) → Perm → Option MapLine
maps_pages address count perm = if are_pages address count then Some (Maps address count perm) else None

-- `map ADDR PAGES r` and `map ADDR PAGES rw`
unfoldable pub maps_of : (address count perm : List ℕ) → Option MapLine
maps_of address count perm =
    option_and_then (λ a. option_and_then (λ n. option_and_then (maps_pages a n) (perm_of perm)) (number_of count)) (number_of address)

abbrev pub decoded : Result (List ℕ) FromHexError → Option (List ℕ)
decoded (Ok bytes) = Some bytes
decoded (Err error) = None

-- the bytes that an even number of hexadecimal digits of either case spell
abbrev pub bytes_of : List ℕ → Option (List ℕ)
bytes_of digits = decoded (decode_of digits)

-- at least one byte, none beyond 2^64
abbrev pub are_bytes : (address size : ℕ) → Bool
are_bytes address size = nat_lt 0 size && nat_le (address + size) (2 ^ 64)

abbrev pub sets_bytes : (address : ℕ) → List ℕ → Option MapLine
sets_bytes address bytes = if are_bytes address (length bytes) then Some (Sets address bytes) else None

-- `set ADDR HEX`
unfoldable pub sets_of : (address digits : List ℕ) → Option MapLine
sets_of address digits = option_and_then (λ a. option_and_then (sets_bytes a) (bytes_of digits)) (number_of address)

unfoldable pub line_of_words : List (List ℕ) → Option MapLine
line_of_words (name ∷ address ∷ digits ∷ []) = if bytes_eq name (codes "set") then sets_of address digits else None
line_of_words (name ∷ address ∷ count ∷ perm ∷ []) = if bytes_eq name (codes "map") then maps_of address count perm else None
line_of_words _ = None

-- what a line says, where it is one of these
unfoldable pub map_line_of : List ℕ → Option MapLine
map_line_of [] = Some Blank
map_line_of (b ∷ line) = if nat_eq b 35 then Some Blank else line_of_words (words_of (b ∷ line))

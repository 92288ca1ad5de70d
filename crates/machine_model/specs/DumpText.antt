-- The text of a dump of memory: sixteen bytes to a line, the last of which may be shorter. A line has the address of its
-- first byte in sixteen lower-case hexadecimal digits, a colon, the bytes, and a line feed.
use Rattle.std.specs.Prelude.{ℕ, ◌+◌, ◌-◌, ◌*◌, ◌/◌, List, ◌++◌, min, codes, Option, Some, None}
use Rattle.std.specs.List.{flat_map, range_with_len}
use Rattle.guest_types.specs.Memory.{Memory, byte_at}
use Rattle.machine_model.specs.OutcomeText.{line_feed}
use Rattle.number_text.specs.Hexadecimal.{hex_digits}

-- a space, and two digits for a byte or two minus signs where none is mapped
abbrev pub shown : Option ℕ → List ℕ
shown (Some byte) = codes " " ++ hex_digits 2 byte
shown None = codes " --"

-- what a dump shows for an address
abbrev pub byte_text : Memory → ℕ → List ℕ
byte_text memory address = shown (byte_at memory address)

-- the line of so many bytes from an address on
abbrev pub dump_line : Memory → (address count : ℕ) → List ℕ
dump_line memory address count =
    hex_digits 16 address ++ (codes ":" ++ (flat_map (byte_text memory) (range_with_len address count) ++ line_feed))

-- line k of the dump of so many bytes
abbrev pub line_of_dump : Memory → (address len k : ℕ) → List ℕ
line_of_dump memory address len k = dump_line memory (address + 16 * k) (min 16 (len - 16 * k))

-- the dump of so many bytes from an address on
unfoldable pub dump_text : Memory → (address len : ℕ) → List ℕ
dump_text memory address len = flat_map (line_of_dump memory address len) (range_with_len 0 ((len + 15) / 16))

-- Little-endian numbers among bytes.
use Rattle.std.specs.Prelude.{ℕ, ◌+◌, List, ◌++◌, take, drop}
use Rattle.guest_types.specs.Elements.{number_of_bytes, bytes_of}

-- the number of so many bytes from a place on
unfoldable pub number_in : List ℕ → ℕ → ℕ → ℕ
number_in bs at size = number_of_bytes (take size (drop at bs))

-- the bytes with the lowest bytes of a number in place of those from a place on
unfoldable pub with_number : List ℕ → ℕ → ℕ → ℕ → List ℕ
with_number bs at size v = take at bs ++ (bytes_of size v ++ drop (at + size) bs)

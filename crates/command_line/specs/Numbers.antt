-- Numbers of 64 bits in the words of a command.
use Rattle.std.specs.Prelude.{ℕ, ◌-◌, ◌%◌, ◌^◌, ◌==◌, List, length, Option, Some, None, option_and_then, nat_lt, nat_le, codes, if◌then◌else◌}
use Rattle.std.specs.List.{position_or_len, before_first, after_first}
use Rattle.number_text.specs.Numbers.{given, following, decimal_of, number_of}

-- the parts of a word before and after the first byte of this value
unfoldable pub parted : ℕ → List ℕ → Option (List ℕ × List ℕ)
parted b word =
    if nat_lt (position_or_len (λ c. c == b) word) (length word) then Some (before_first (λ c. c == b) word, after_first (λ c. c == b) word) else None

-- the number -n as its 64 bits, where it is no less than -2^63
abbrev pub negative : ℕ → Option ℕ
negative n = if nat_le n (2 ^ 63) then Some ((2 ^ 64 - n) % 2 ^ 64) else None

-- the argument that a word spells: a number, or a minus and decimal digits
unfoldable pub argument_of : List ℕ → Option ℕ
argument_of word = given (following (codes "-") word) (λ digits. option_and_then negative (decimal_of digits)) (number_of word)

-- Numbers of 64 bits as texts: decimal digits, or `0x` and hexadecimal digits of either case. Leading zeros are allowed.
use Rattle.std.specs.Prelude.{ℕ, ◌+◌, ◌*◌, ◌-◌, ◌^◌, ◌==◌, ◌&&◌, ◌||◌, List, [], ◌∷◌, length, Option, Some, None, Bool, nat_lt, nat_le, codes, if◌then◌else◌}
use Rattle.std.specs.List.{fold, list_all}

-- a choice by what may be there
abbrev pub given : {A B : Type 0} → Option A → (A → B) → B → B
given None f other = other
given (Some x) f other = f x

-- what stands after these bytes at the front of a word
unfoldable pub following : List ℕ → List ℕ → Option (List ℕ)
following [] word = Some word
following (b ∷ front) [] = None
following (b ∷ front) (c ∷ word) = if c == b then following front word else None

abbrev pub is_digit : ℕ → Bool
is_digit b = nat_le 48 b && nat_le b 57

-- a hexadecimal digit of either case
abbrev pub is_hex_digit : ℕ → Bool
is_hex_digit b = is_digit b || (nat_le 65 b && nat_le b 70) || (nat_le 97 b && nat_le b 102)

abbrev pub digit_value : ℕ → ℕ
digit_value d = if is_digit d then d - 48 else if nat_le d 70 then d - 55 else d - 87

abbrev pub appended : ℕ → ℕ → ℕ → ℕ
appended base n d = base * n + digit_value d

-- the number that digits spell in a base
abbrev pub value_of : ℕ → List ℕ → ℕ
value_of base digits = fold (appended base) 0 digits

-- that number, where it has 64 bits
abbrev pub small_value : ℕ → List ℕ → Option ℕ
small_value base digits = if nat_lt (value_of base digits) (2 ^ 64) then Some (value_of base digits) else None

-- whether these are digits, and there is one
abbrev pub are_digits : (ℕ → Bool) → List ℕ → Bool
are_digits is bytes = nat_lt 0 (length bytes) && list_all is bytes

-- the number that decimal digits spell
unfoldable pub decimal_of : List ℕ → Option ℕ
decimal_of digits = if are_digits is_digit digits then small_value 10 digits else None

-- the number that hexadecimal digits spell
unfoldable pub hexadecimal_of : List ℕ → Option ℕ
hexadecimal_of digits = if are_digits is_hex_digit digits then small_value 16 digits else None

-- the number that a word spells
unfoldable pub number_of : List ℕ → Option ℕ
number_of word = given (following (codes "0x") word) hexadecimal_of (decimal_of word)

-- The word that a text may spell, by its form.
use Rattle.std.specs.Prelude.{ℕ, ◌+◌, ◌%◌, ◌^◌, ◌&&◌, nat_le, nat_lt, List, length, take, drop, Option, Some, None, if◌then◌else◌, codes}
use Rattle.std.specs.List.{prefix_len}
use Rattle.number_text.specs.Numbers.{given, following, number_of}
use Rattle.asm_forms.specs.Blanks.{is_word_byte, blanked, numbers_of}
use Rattle.asm_forms.specs.Rules.{Sum, sum_of, form_of}

-- the letters and digits at the front, and what stands behind them
abbrev pub mnemonic_of : List ℕ → List ℕ
mnemonic_of text = take (prefix_len is_word_byte text) text

abbrev pub operands_of : List ℕ → List ℕ
operands_of text = drop (prefix_len is_word_byte text) text

abbrev pub by_form : Option (Sum × ℕ) → List ℕ → Option ℕ
by_form None numbers = None
by_form (Some p) numbers = Some ((p.1 + sum_of p.0 numbers) % 2 ^ 32)

-- no form has more than 32 bytes and 8 numbers
abbrev pub word_spelled : (mnemonic operands numbers : List ℕ) → Option ℕ
word_spelled mnemonic operands numbers =
    if nat_le (length operands) 32 && nat_le (length numbers) 8 then by_form (form_of mnemonic operands) numbers else None

unfoldable pub listed_candidate : List ℕ → Option ℕ
listed_candidate text = word_spelled (mnemonic_of text) (blanked (operands_of text)) (numbers_of (operands_of text))

abbrev pub if_word : Option ℕ → Option ℕ
if_word None = None
if_word (Some n) = if nat_lt n (2 ^ 32) then Some n else None

unfoldable pub unlisted_candidate : List ℕ → Option ℕ
unlisted_candidate digits = if_word (number_of digits)

-- the one word that may have this text
unfoldable pub candidate : List ℕ → Option ℕ
candidate text = given (following (codes ".word ") text) unlisted_candidate (listed_candidate text)

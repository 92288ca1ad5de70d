-- The text of a word, and the listing of words.
use Rattle.std.specs.Prelude.{ℕ, ◌+◌, ◌/◌, ◌%◌, ◌^◌, Option, Some, None, List, [], ◌∷◌, ◌++◌, codes}
use Rattle.number_text.specs.Hexadecimal.{hex_digit}
use Rattle.word_rows.specs.Row.{Instruction, reads}
use Rattle.word_rows.specs.Field.{bits}
use Rattle.a64_code.specs.Table as a64
use Rattle.sve_code.specs.Table as sve
use Rattle.list_text.specs.A64Text.{a64_text}
use Rattle.list_text.specs.SveText.{sve_text}

-- the eight digits of a word, from the highest on
abbrev pub hex_word : ℕ → List ℕ
hex_word word =
    hex_digit (bits word 28 4) ∷ hex_digit (bits word 24 4) ∷ hex_digit (bits word 20 4) ∷ hex_digit (bits word 16 4)
    ∷ hex_digit (bits word 12 4) ∷ hex_digit (bits word 8 4) ∷ hex_digit (bits word 4 4) ∷ hex_digit (bits word 0 4) ∷ []

-- a word that is in no row
abbrev pub unlisted_text : ℕ → List ℕ
unlisted_text word = codes ".word 0x" ++ hex_word word

abbrev pub sve_text_or : ℕ → Option (Instruction sve.Name) → List ℕ
sve_text_or word None = unlisted_text word
sve_text_or word (Some i) = sve_text i

abbrev pub a64_text_or : ℕ → Option (Instruction a64.Name) → List ℕ
a64_text_or word None = sve_text_or word (reads sve.row sve.sve_names word)
a64_text_or word (Some i) = a64_text i

abbrev pub word_text : ℕ → List ℕ
word_text word = a64_text_or word (reads a64.row a64.a64_names word)

-- ---- the listing
-- a word at its address of 64 bits
abbrev pub line_text : ℕ → ℕ → List ℕ
line_text address word = hex_word (address / 2 ^ 32) ++ hex_word (address % 2 ^ 32) ++ codes ": " ++ hex_word word ++ codes " " ++ word_text word ++ codes "\n"

-- consecutive words, the first of them at this address
unfoldable pub list_text : ℕ → List ℕ → List ℕ
list_text address [] = []
list_text address (word ∷ words) = line_text address word ++ list_text (address + 4) words

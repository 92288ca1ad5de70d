-- A text with a blank in the place of each of its numbers: of each register, element size, condition, shift and decimal number one byte
-- that says what stood there, and beside the text those numbers in order.
use Rattle.std.specs.Prelude.{ℕ, List, [], ◌∷◌, ◌++◌, Option, Some, None, Bool, ◌||◌, ◌&&◌, ◌==◌, nat_le, if◌then◌else◌, codes, bytes_eq}
use Rattle.number_text.specs.Numbers.{given, is_digit, decimal_of}

-- a byte of a word: a decimal digit or a small letter
abbrev pub is_word_byte : ℕ → Bool
is_word_byte b = is_digit b || (nat_le 97 b && nat_le b 122)

-- a word of a meaning: the word, the byte that stands for it, and its number
pub record Meaning : Type 0 where
  pub word : List ℕ
  pub blank : ℕ
  pub number : ℕ

abbrev pub means : List ℕ → ℕ → ℕ → Meaning
means word blank number = record { word = word; blank = blank; number = number }

-- registers of number 31; sizes of elements (`T`); conditions (`c`); shifts (`l`)
unfoldable pub meanings : List Meaning
meanings =
    means (codes "xzr") 120 31 ∷ means (codes "sp") 120 31 ∷ means (codes "wzr") 119 31 ∷ means (codes "wsp") 119 31
    ∷ means (codes "b") 84 0 ∷ means (codes "h") 84 1 ∷ means (codes "s") 84 2 ∷ means (codes "d") 84 3
    ∷ means (codes "eq") 99 0 ∷ means (codes "ne") 99 1 ∷ means (codes "hs") 99 2 ∷ means (codes "lo") 99 3
    ∷ means (codes "mi") 99 4 ∷ means (codes "pl") 99 5 ∷ means (codes "vs") 99 6 ∷ means (codes "vc") 99 7
    ∷ means (codes "hi") 99 8 ∷ means (codes "ls") 99 9 ∷ means (codes "ge") 99 10 ∷ means (codes "lt") 99 11
    ∷ means (codes "gt") 99 12 ∷ means (codes "le") 99 13 ∷ means (codes "al") 99 14
    ∷ means (codes "lsl") 108 0 ∷ means (codes "lsr") 108 1 ∷ means (codes "asr") 108 2 ∷ means (codes "ror") 108 3 ∷ []

unfoldable pub meaning_in : List Meaning → List ℕ → Option (ℕ × ℕ)
meaning_in [] word = None
meaning_in (m ∷ ms) word = if bytes_eq m.word word then Some (m.blank, m.number) else meaning_in ms word

-- the byte for a register that begins with this letter: `x`, `w`, `z` and `p` themselves, and `v` for a vector register seen as a scalar
abbrev pub register_blank : ℕ → Option ℕ
register_blank l =
    if (l == 120) || (l == 119) || (l == 122) || (l == 112) then Some l else
    if (l == 118) || (l == 98) || (l == 104) || (l == 115) || (l == 100) then Some 118 else None

-- a letter and digits
abbrev pub register_of : Option ℕ → Option ℕ → Option (ℕ × ℕ)
register_of None n = None
register_of (Some blank) None = None
register_of (Some blank) (Some n) = Some (blank, n)

abbrev pub at_letter : List ℕ → Option (ℕ × ℕ)
at_letter [] = None
at_letter (l ∷ digits) = register_of (register_blank l) (decimal_of digits)

abbrev pub of_number : ℕ → Option (ℕ × ℕ)
of_number n = Some (48, n)

-- what stands for a word: a byte and a number
unfoldable pub blank_of : List ℕ → Option (ℕ × ℕ)
blank_of word = given (meaning_in meanings word) (λ p. Some p) (given (decimal_of word) of_number (at_letter word))

-- ---- words in a text
-- what is made of the words of a text and of the bytes between them; `word` is what stands before the text, of the word that goes on in it
unfoldable pub over_words : (of_word : List ℕ → List ℕ) (of_byte : ℕ → List ℕ) (word : List ℕ) → List ℕ → List ℕ
over_words of_word of_byte word [] = of_word word
over_words of_word of_byte word (b ∷ text) =
    if is_word_byte b then over_words of_word of_byte (word ++ b ∷ []) text
    else of_word word ++ of_byte b ++ over_words of_word of_byte [] text

abbrev pub blank_byte : List ℕ → Option (ℕ × ℕ) → List ℕ
blank_byte word None = word
blank_byte word (Some p) = p.0 ∷ []

abbrev pub number_there : Option (ℕ × ℕ) → List ℕ
number_there None = []
number_there (Some p) = p.1 ∷ []

abbrev pub blanked_word : List ℕ → List ℕ
blanked_word word = blank_byte word (blank_of word)

abbrev pub numbers_of_word : List ℕ → List ℕ
numbers_of_word word = number_there (blank_of word)

abbrev pub byte_kept : ℕ → List ℕ
byte_kept b = b ∷ []

abbrev pub no_number : ℕ → List ℕ
no_number b = []

-- the text with its blanks, and its numbers
abbrev pub blanked : List ℕ → List ℕ
blanked text = over_words blanked_word byte_kept [] text

abbrev pub numbers_of : List ℕ → List ℕ
numbers_of text = over_words numbers_of_word no_number [] text

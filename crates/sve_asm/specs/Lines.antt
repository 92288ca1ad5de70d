-- Lines of texts of words. A line is empty, begins with `#`, is the text of a word, or is a line of a listing: sixteen lower-case hexadecimal
-- digits, a colon, a space, eight such digits, a space and the text of a word. A line ends with a line feed; the last one may lack it. Lines
-- count from 1.
use Rattle.std.specs.Prelude.{ℕ, ◌+◌, ◌&&◌, ◌||◌, ◌==◌, Bool, List, [], ◌∷◌, ◌++◌, take, drop, length, Option, Some, None, Result, Ok, Err, nat_eq, nat_lt, nat_le, bytes_eq, codes, if◌then◌else◌}
use Rattle.std.specs.List.{list_all}
use Rattle.number_text.specs.Numbers.{is_digit, number_of}
use Rattle.text_parts.specs.Parts.{lines_of}
use Rattle.asm_forms.specs.Reading.{if_word}
use Rattle.sve_asm.specs.WordOf.{word_of}
use Rattle.sve_asm.specs.declared.fault.AsmFault.{AsmFault}
use Rattle.sve_asm.specs.declared.fault.AsmFault.TheVariants.{TooLong, BadLine, Differs, TooManyWords}

-- what a line says: nothing, a word, or a word beside digits of another
pub data AsmLine : Type 0 where
  Blank : AsmLine
  Word : ℕ → AsmLine
  Unlike : (want found : ℕ) → AsmLine

-- a hexadecimal digit of lower case
abbrev pub is_low_hex : ℕ → Bool
is_low_hex b = is_digit b || (nat_le 97 b && nat_le b 102)

-- what stands before the text of a word in a line of a listing: 28 bytes
abbrev pub is_listing : List ℕ → Bool
is_listing line =
    nat_le 28 (length line) && (list_all is_low_hex (take 16 line) && (bytes_eq (take 2 (drop 16 line)) (codes ": ")
    && (list_all is_low_hex (take 8 (drop 18 line)) && bytes_eq (take 1 (drop 26 line)) (codes " "))))

-- the word that the eight hexadecimal digits of such a line spell, and the text behind them
abbrev pub found_in : List ℕ → Option ℕ
found_in line = if_word (number_of (codes "0x" ++ take 8 (drop 18 line)))

abbrev pub text_in : List ℕ → List ℕ
text_in line = drop 27 line

abbrev pub one_word : Option ℕ → Option AsmLine
one_word None = None
one_word (Some word) = Some (Word word)

abbrev pub beside : Option ℕ → Option ℕ → Option AsmLine
beside None want = None
beside (Some found) None = None
beside (Some found) (Some want) = if want == found then Some (Word want) else Some (Unlike want found)

-- what a line says that is not blank
abbrev pub worded : List ℕ → Option AsmLine
worded line = if is_listing line then beside (found_in line) (word_of (text_in line)) else one_word (word_of line)

-- what a line says, where it has one of the forms
unfoldable pub asm_line_of : List ℕ → Option AsmLine
asm_line_of [] = Some Blank
asm_line_of (b ∷ line) = if nat_eq b 35 then Some Blank else worded (b ∷ line)

-- the words after a line
abbrev pub after_line : (line : ℕ) → Option AsmLine → List ℕ → Result (List ℕ) AsmFault
after_line line None words = Err (BadLine line)
after_line line (Some Blank) words = Ok words
after_line line (Some (Unlike want found)) words = Err (Differs line want found)
after_line line (Some (Word word)) words = if nat_lt (length words) 65536 then Ok (words ++ word ∷ []) else Err TooManyWords

abbrev pub go_on : Result (List ℕ) AsmFault → (List ℕ → Result (List ℕ) AsmFault) → Result (List ℕ) AsmFault
go_on (Err fault) go = Err fault
go_on (Ok words) go = go words

-- the words after lines, the first of which has this number
unfoldable pub after_lines : (line : ℕ) → List (List ℕ) → List ℕ → Result (List ℕ) AsmFault
after_lines line [] words = Ok words
after_lines line (text ∷ texts) words = go_on (after_line line (asm_line_of text) words) (after_lines (line + 1) texts)

-- the words of a text
unfoldable pub words_of : List ℕ → Result (List ℕ) AsmFault
words_of text = if nat_lt 8388608 (length text) then Err TooLong else after_lines 1 (lines_of text) []

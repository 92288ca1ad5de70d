-- The words of a text are those of a program.
use Rattle.std.proofs.Common.{◌≡◌, ℕ, ◌+◌, ◌^◌, ◌<◌, ◌≤◌, Bool, true, false, List, [], ◌∷◌, ◌++◌, length, Option, Some, None, Result, Ok, Err, refl, subst, arith, length-append}
use Rattle.std.specs.Prelude.{nat_eq, nat_lt, ◌==◌, if◌then◌else◌}
use Rattle.std.specs.List.{AllByRecursion}
use Rattle.std.proofs.lemmas.Bool.{ltb-true}
use Rattle.std.proofs.lemmas.List.Elements.{All-from_recursion}
use Rattle.sve_asm.specs.declared.fault.AsmFault.{AsmFault}
use Rattle.sve_asm.specs.declared.fault.AsmFault.TheVariants.{TooLong, TooManyWords}
use Rattle.sve_asm.specs.WordOf.{word_of}
use Rattle.sve_asm.specs.Lines.{AsmLine, Blank, Word, Unlike, is_listing, found_in, text_in, one_word, beside, worded, asm_line_of, after_line, after_lines, go_on, words_of}
use Rattle.sve_asm.proofs.Spelling.{spells}
use Rattle.program_commands.specs.ReadBack.{IsProgram}

-- ---- the word of a line
spelled_small : (text : List ℕ) (word : ℕ) → word_of text ≡ Some word → word < 2 ^ 32
spelled_small text word e = (spells text word e).word_of_32

alone_small : (want : Option ℕ) (word : ℕ) → ((v : ℕ) → want ≡ Some v → v < 2 ^ 32) → one_word want ≡ Some (Word word) → word < 2 ^ 32
alone_small None word small e = cc
alone_small (Some want) word small e = let same : want ≡ word = cc in subst (λ v. v < 2 ^ 32) same (small want refl)

beside_small : (found want : Option ℕ) (word : ℕ) → ((v : ℕ) → want ≡ Some v → v < 2 ^ 32) → beside found want ≡ Some (Word word) → word < 2 ^ 32
beside_small None want word small e = cc
beside_small (Some found) None word small e = cc
beside_small (Some found) (Some want) word small e = by (want == found) e
  where
    by : (b : Bool) → (if b then Some (Word want) else Some (Unlike want found)) ≡ Some (Word word) → word < 2 ^ 32
    by true e = let same : want ≡ word = cc in subst (λ v. v < 2 ^ 32) same (small want refl)
    by false e = cc

worded_small : (line : List ℕ) (word : ℕ) → worded line ≡ Some (Word word) → word < 2 ^ 32
worded_small line word e = by (is_listing line) e
  where
    by : (b : Bool) → (if b then beside (found_in line) (word_of (text_in line)) else one_word (word_of line)) ≡ Some (Word word) → word < 2 ^ 32
    by true e = beside_small (found_in line) (word_of (text_in line)) word (spelled_small (text_in line)) e
    by false e = alone_small (word_of line) word (spelled_small line) e

line_small : (line : List ℕ) (word : ℕ) → asm_line_of line ≡ Some (Word word) → word < 2 ^ 32
unfolding asm_line_of
line_small [] word e = cc
line_small (b ∷ line) word e = by (nat_eq b 35) e
  where
    by : (c : Bool) → (if c then Some Blank else worded (b ∷ line)) ≡ Some (Word word) → word < 2 ^ 32
    by true e = cc
    by false e = worded_small (b ∷ line) word e

-- ---- the words of lines
-- so far
record AreSoFar (words : List ℕ) : Type 0 where
  few : length words ≤ 65536
  small : AllByRecursion (λ word. word < 2 ^ 32) words

words_below_of_push : (words : List ℕ) (word : ℕ) → AllByRecursion (λ w. w < 2 ^ 32) words → word < 2 ^ 32 → AllByRecursion (λ w. w < 2 ^ 32) (words ++ word ∷ [])
words_below_of_push [] word small h = (h, tt)
words_below_of_push (w ∷ words) word small h = (small.0, words_below_of_push words word small.1 h)

so_far_of_push : (words : List ℕ) (word : ℕ) → AreSoFar words → nat_lt (length words) 65536 ≡ true → word < 2 ^ 32 → AreSoFar (words ++ word ∷ [])
so_far_of_push words word are room h = record {
  few = let below = ltb-true (length words) 65536 room in let more = length-append words (word ∷ []) in omega (arith, below, more);
  small = words_below_of_push words word are.small h;
}

words_so_far_step : (line : ℕ) (said : Option AsmLine) (words out : List ℕ) (rest : List ℕ → Result (List ℕ) AsmFault) → AreSoFar words → ((word : ℕ) → said ≡ Some (Word word) → word < 2 ^ 32)
    → ((next : List ℕ) → AreSoFar next → rest next ≡ Ok out → AreSoFar out) → go_on (after_line line said words) rest ≡ Ok out → AreSoFar out
words_so_far_step line None words out rest are small go e = cc
words_so_far_step line (Some Blank) words out rest are small go e = go words are e
words_so_far_step line (Some (Unlike want found)) words out rest are small go e = cc
words_so_far_step line (Some (Word word)) words out rest are small go e = by (nat_lt (length words) 65536) refl e
  where
    by : (b : Bool) → nat_lt (length words) 65536 ≡ b → go_on (if b then Ok (words ++ word ∷ []) else Err TooManyWords) rest ≡ Ok out → AreSoFar out
    by true room e = go (words ++ word ∷ []) (so_far_of_push words word are room (small word refl)) e
    by false room e = cc

lines : (line : ℕ) (texts : List (List ℕ)) (words out : List ℕ) → AreSoFar words → after_lines line texts words ≡ Ok out → AreSoFar out
unfolding after_lines
lines line [] words out are e = let same : words ≡ out = cc in subst AreSoFar same are
lines line (text ∷ texts) words out are e =
    words_so_far_step line (asm_line_of text) words out (after_lines (line + 1) texts) are (line_small text) (λ next next_are. lines (line + 1) texts next out next_are) e

-- what a text of words gives is a program
pub words_are : (text words : List ℕ) → words_of text ≡ Ok words → IsProgram words
unfolding words_of
words_are text words e =
    by (nat_lt 8388608 (length text)) _ (λ read. lines 1 _ [] words (record { few = omega arith; small = tt }) read) e
  where
    by : (b : Bool) (read : Result (List ℕ) AsmFault) → (read ≡ Ok words → AreSoFar words) → (if b then Err TooLong else read) ≡ Ok words → IsProgram words
    by true read so_far e = cc
    by false read so_far e = let are = so_far e in record { few = are.few; small = All-from_recursion (λ word. word < 2 ^ 32) words are.small }

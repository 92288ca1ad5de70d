-- A listing, read back.
use Rattle.std.proofs.Common.{◌≡◌, ℕ, suc, ◌+◌, ◌/◌, ◌%◌, ◌<◌, ◌≤◌, ◌^◌, List, [], ◌∷◌, ◌++◌, length, true, false, Some, None, Ok, refl, sym, ap, ap₂, ◌∙◌, arith, append_assoc, length-append}
use Rattle.std.specs.Prelude.{codes, nat_lt, nat_le, nat_eq, not}
use Rattle.std.specs.List.{list_all, AllByRecursion}
use Rattle.std.proofs.lemmas.Bool.Decides.{nat_tests}
use Rattle.std.proofs.lemmas.Bool.{eq-eqb, and_parts, not-true}
use Rattle.std.proofs.lemmas.List.{append-nil}
use Rattle.std.proofs.lemmas.List.Elements.{All-from_recursion}
use Rattle.std.proofs.lemmas.List.Splits.{slice_split_at}
use Rattle.std.proofs.lemmas.List.Folds.{list_all-append}
use Rattle.std.proofs.lemmas.Bool.{and_from}
use Rattle.number_text.specs.Hexadecimal.{hex_digit}
use Rattle.word_rows.specs.Field.{bits}
use Rattle.text_parts.specs.Parts.{lines_of, parts_at, is_byte}
use Rattle.list_text.specs.Text.{word_text, hex_word, line_text, list_text}
use Rattle.asm_forms.specs.Reading.{candidate, listed_candidate}
use Rattle.number_text.specs.Numbers.{following, decimal_of}
use Rattle.asm_forms.specs.Blanks.{over_words, blank_of, meanings, meaning_in}
use Rattle.asm_forms.specs.Rules.{form_of, form_in, base_of, data_processing, branches, offset_accesses, indexed_accesses, predicates, counts, vectors, vector_accesses}
use Rattle.sve_asm.specs.WordOf.{word_of}
use Rattle.sve_asm.specs.Lines.{is_low_hex, is_listing, beside, worded, Word, asm_line_of, after_line, after_lines, go_on, words_of}
use Rattle.sve_asm.proofs.Words.{below, below-at}
use Rattle.sve_asm.proofs.Cases.{bits_below}
use Rattle.sve_asm.proofs.Clean.{is_clean, is_clean_byte, text-clean}
use Rattle.sve_asm.proofs.Complete.{text-back, unlisted-back, digits_word}
use Rattle.sve_asm.proofs.Spelling.{read-back}
use Rattle.sve_asm.proofs.ListingLengths.{short_listing}

-- ---- lines
-- a line before a line feed
none_like : (line : List ℕ) → is_clean line ≡ true → AllByRecursion (λ b. is_byte 10 b ≡ false) line
none_like [] h = tt
none_like (b ∷ line) h = let p = and_parts (is_clean_byte b) (is_clean line) h in (not-true (nat_eq b 10) p.0, none_like line p.1)

pub first-line : (line rest : List ℕ) → is_clean line ≡ true → parts_at 10 (line ++ 10 ∷ rest) ≡ line ∷ parts_at 10 rest
first-line line rest h = slice_split_at (is_byte 10) line 10 rest (All-from_recursion (λ b. is_byte 10 b ≡ false) line (none_like line h)) refl

-- ---- digits
low_small : below 16 (λ d. is_low_hex (hex_digit d)) ≡ true
unfolding below
low_small = refl

clean_small : below 16 (λ d. is_clean_byte (hex_digit d)) ≡ true
unfolding below
clean_small = refl

not_mark : below 16 (λ d. not (nat_eq (hex_digit d) 35)) ≡ true
unfolding below
not_mark = refl

-- what a digit of a word is
pub record IsDigit (b : ℕ) : Type 0 where
  pub low : is_low_hex b ≡ true
  pub clean : is_clean_byte b ≡ true
  pub mark : not (nat_eq b 35) ≡ true

digit-is : (w low : ℕ) → IsDigit (hex_digit (bits w low 4))
digit-is w low = record {
  low = below-at 16 (λ d. is_low_hex (hex_digit d)) low_small (bits w low 4) (bits_below w low 4);
  clean = below-at 16 (λ d. is_clean_byte (hex_digit d)) clean_small (bits w low 4) (bits_below w low 4);
  mark = below-at 16 (λ d. not (nat_eq (hex_digit d) 35)) not_mark (bits w low 4) (bits_below w low 4);
}

word-low : (w : ℕ) → list_all is_low_hex (hex_word w) ≡ true
word-low w = let h : (k : ℕ) → is_low_hex (hex_digit (bits w k 4)) ≡ true = λ k. (digit-is w k).low in rw (h 28, h 24, h 20, h 16, h 12, h 8, h 4, h 0) refl

word-clean : (w : ℕ) → is_clean (hex_word w) ≡ true
word-clean w = let h : (k : ℕ) → is_clean_byte (hex_digit (bits w k 4)) ≡ true = λ k. (digit-is w k).clean in rw (h 28, h 24, h 20, h 16, h 12, h 8, h 4, h 0) refl

-- ---- the line of a word without its line feed
abbrev pub line_with : (high low word : ℕ) → List ℕ → List ℕ
line_with high low word text = hex_word high ++ (hex_word low ++ (codes ": " ++ (hex_word word ++ (codes " " ++ text))))

line_is : (address word : ℕ) → line_text address word ≡ line_with (address / 2 ^ 32) (address % 2 ^ 32) word (word_text word) ++ 10 ∷ []
line_is address word = in_order (hex_word (address / 2 ^ 32)) (hex_word (address % 2 ^ 32)) (codes ": ") (hex_word word) (codes " ") (word_text word) (10 ∷ [])
  where
    in_order : (a b c d e f g : List ℕ) → (((((a ++ b) ++ c) ++ d) ++ e) ++ f) ++ g ≡ (a ++ (b ++ (c ++ (d ++ (e ++ f))))) ++ g
    in_order a b c d e f g = simp append_assoc

line-clean : (high low word : ℕ) (text : List ℕ) → is_clean text ≡ true → is_clean (line_with high low word text) ≡ true
line-clean high low word text h =
    join (hex_word high) (hex_word low ++ (codes ": " ++ (hex_word word ++ (codes " " ++ text)))) (word-clean high)
    (join (hex_word low) (codes ": " ++ (hex_word word ++ (codes " " ++ text))) (word-clean low)
    (join (codes ": ") (hex_word word ++ (codes " " ++ text)) refl
    (join (hex_word word) (codes " " ++ text) (word-clean word) (join (codes " ") text refl h))))
  where
    join : (a b : List ℕ) → is_clean a ≡ true → is_clean b ≡ true → is_clean (a ++ b) ≡ true
    join a b p q = list_all-append is_clean_byte a b ∙ rw (p, q) refl

line-long : (high low word : ℕ) (text : List ℕ) → 0 < length text → nat_le 28 (length (line_with high low word text)) ≡ true
line-long high low word text h = grind (arith, nat_tests)

both_low : (high low : ℕ) → list_all is_low_hex (hex_word high ++ hex_word low) ≡ true
both_low high low = list_all-append is_low_hex (hex_word high) (hex_word low) ∙ rw (word-low high, word-low low) refl

line-listing : (high low word : ℕ) (text : List ℕ) → 0 < length text → is_listing (line_with high low word text) ≡ true
line-listing high low word text h =
    and_from _ _ (line-long high low word text h) (and_from _ _ (both_low high low) (and_from _ _ refl (and_from _ _ (word-low word) refl)))

same_word : (w : ℕ) → beside (Some w) (Some w) ≡ Some (Word w)
same_word w = rw (eq-eqb w w refl) refl

line-worded : (high low word : ℕ) (text : List ℕ) → word < 2 ^ 32 → 0 < length text → word_of text ≡ Some word → worded (line_with high low word text) ≡ Some (Word word)
line-worded high low word text small h e =
    rw (line-listing high low word text h) (ap₂ beside (sym (digits_word (hex_word word)) ∙ unlisted-back word small) e ∙ same_word word)

line-said : (high low word : ℕ) (text : List ℕ) → word < 2 ^ 32 → 0 < length text → word_of text ≡ Some word → asm_line_of (line_with high low word text) ≡ Some (Word word)
unfolding asm_line_of
line-said high low word text small h e =
    let m : nat_eq (hex_digit (bits high 28 4)) 35 ≡ false = not-true (nat_eq (hex_digit (bits high 28 4)) 35) (digit-is high 28).mark in
    rw m (line-worded high low word text small h e)

no_empty : candidate [] ≡ None
unfolding candidate following listed_candidate over_words blank_of meanings meaning_in decimal_of form_of form_in base_of data_processing branches offset_accesses indexed_accesses predicates counts vectors vector_accesses
no_empty = refl

text_there : (t : List ℕ) (w : ℕ) → candidate t ≡ Some w → 0 < length t
text_there [] w e = cc (no_empty)
text_there (b ∷ t) w e = omega arith

-- ---- all lines
lines_first : (address word : ℕ) (words : List ℕ) → word < 2 ^ 32
    → lines_of (list_text address (word ∷ words)) ≡ line_with (address / 2 ^ 32) (address % 2 ^ 32) word (word_text word) ∷ lines_of (list_text (address + 4) words)
unfolding list_text
lines_first address word words small =
    let line = line_with (address / 2 ^ 32) (address % 2 ^ 32) word (word_text word) in
    ap lines_of (ap (λ x. x ++ list_text (address + 4) words) (line_is address word) ∙ append_assoc line (10 ∷ []) (list_text (address + 4) words))
    ∙ first-line line (list_text (address + 4) words) (line-clean (address / 2 ^ 32) (address % 2 ^ 32) word (word_text word) (text-clean word small))

room : (words : List ℕ) (n : ℕ) → length words + suc n ≤ 65536 → nat_lt (length words) 65536 ≡ true
room words n h = grind (arith, nat_tests)

after_word : (line word : ℕ) (words : List ℕ) (n : ℕ) → length words + suc n ≤ 65536 → after_line line (Some (Word word)) words ≡ Ok (words ++ word ∷ [])
after_word line word words n h = rw (room words n h) refl

pub words_listed_so_far : (words : List ℕ) (address line : ℕ) (before : List ℕ) → AllByRecursion (λ w. w < 2 ^ 32) words → length before + length words ≤ 65536
    → after_lines line (lines_of (list_text address words)) before ≡ Ok (before ++ words)
unfolding after_lines list_text asm_line_of
words_listed_so_far [] address line before small few = rw append-nil refl
words_listed_so_far (word ∷ words) address line before small few =
    let first = line_with (address / 2 ^ 32) (address % 2 ^ 32) word (word_text word) in
    let said : asm_line_of first ≡ Some (Word word) = line-said (address / 2 ^ 32) (address % 2 ^ 32) word (word_text word) small.0 (text_there (word_text word) word (text-back word small.0)) (read-back word small.0) in
    ap (λ ls. after_lines line ls before) (lines_first address word words small.0)
    ∙ ap (λ o. go_on (after_line line o before) (after_lines (line + 1) (lines_of (list_text (address + 4) words)))) said
    ∙ ap (λ r. go_on r (after_lines (line + 1) (lines_of (list_text (address + 4) words)))) (after_word line word before (length words) few)
    ∙ words_listed_so_far words (address + 4) (line + 1) (before ++ word ∷ []) small.1 (omega (arith, length-append before (word ∷ [])))
    ∙ ap (λ ws. Ok ws) (append_assoc before (word ∷ []) words)

not_long : (n : ℕ) → n ≤ 8388608 → nat_lt 8388608 n ≡ false
not_long n h = grind (arith, nat_tests)

pub read-listing : (address : ℕ) (words : List ℕ) → AllByRecursion (λ w. w < 2 ^ 32) words → length words ≤ 65536 → words_of (list_text address words) ≡ Ok words
unfolding words_of
read-listing address words small few = rw (not_long (length (list_text address words)) (short_listing address words small few)) (words_listed_so_far words address 1 [] small (omega arith))

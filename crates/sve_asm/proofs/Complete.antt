-- The text of each word, read back.
use Rattle.std.proofs.Common.{◌≡◌, ℕ, ◌+◌, ◌*◌, ◌^◌, ◌<◌, List, [], ◌∷◌, ◌++◌, true, Option, Some, None, refl, sym, ap, subst, ◌∙◌, arith, inl, inr}
use Rattle.std.specs.Prelude.{codes, nat_lt, ◌==◌}
use Rattle.std.specs.List.{list_all}
use Rattle.std.proofs.lemmas.Bool.{cases_Bool, cond-true, cond-false, eqb-true}
use Rattle.std.proofs.lemmas.Bool.Decides.{nat_tests}
use Rattle.std.proofs.lemmas.Option.{same_Some}
use Rattle.number_text.specs.Hexadecimal.{hex_digit}
use Rattle.number_text.specs.Numbers.{following, number_of, hexadecimal_of, value_of, digit_value, is_hex_digit}
use Rattle.word_rows.specs.Field.{bits}
use Rattle.word_rows.specs.Row.{Row, Instruction, takes, reads, numbers_in}
use Rattle.a64_code.specs.Table as a64
use Rattle.sve_code.specs.Table as sve
use Rattle.list_text.specs.A64Text as a64_text
use Rattle.list_text.specs.SveText as sve_text
use Rattle.list_text.specs.Text.{word_text, hex_word, unlisted_text, sve_text_or, a64_text_or}
use Rattle.asm_forms.specs.Reading.{candidate, if_word, unlisted_candidate}
use Rattle.sve_asm.proofs.Words.{below, below-at}
use Rattle.sve_asm.proofs.Cases.{bits_below}
use Rattle.sve_asm.proofs.A64Rows.{a64_row}
use Rattle.sve_asm.proofs.SveRows.{sve_row}

-- what a word reads as: a row that takes it, with its numbers
pub record Found {Name : Type 0} (row : Name → Row) (w : ℕ) (i : Instruction Name) : Type 0 where
  pub taken : takes (row i.name) w ≡ true
  pub numbers : i.numbers ≡ numbers_in w (row i.name).fields

pub found_of_reads : {Name : Type 0} (row : Name → Row) (names : List Name) (w : ℕ) (i : Instruction Name) → reads row names w ≡ Some i → Found row w i
unfolding reads
found_of_reads row [] w i e = cc
found_of_reads row (n ∷ names) w i e =
    elim (cases_Bool (takes (row n) w)) [
      | inl h ↦
          let s : record { name = n; numbers = numbers_in w (row n).fields } ≡ i = same_Some _ i (sym (cond-true _ _ _ h) ∙ e) in
          subst (Found row w) s (record { taken = h; numbers = refl })
      | inr h ↦ found_of_reads row names w i (sym (cond-false _ _ _ h) ∙ e)
    ]

-- ---- a word in no row
digit_back : below 16 (λ d. digit_value (hex_digit d) == d) ≡ true
unfolding below
digit_back = refl

digit_hex : below 16 (λ d. is_hex_digit (hex_digit d)) ≡ true
unfolding below
digit_hex = refl

pub value_back : (d : ℕ) → d < 16 → digit_value (hex_digit d) ≡ d
value_back d h = eqb-true (digit_value (hex_digit d)) d (below-at 16 (λ d. digit_value (hex_digit d) == d) digit_back d h)

pub is_hex : (d : ℕ) → d < 16 → is_hex_digit (hex_digit d) ≡ true
is_hex d h = below-at 16 (λ d. is_hex_digit (hex_digit d)) digit_hex d h

-- the number that eight digits spell
eight : (a b c d e f g h : ℕ) → ℕ
eight a b c d e f g h = 16 * (16 * (16 * (16 * (16 * (16 * (16 * (16 * 0 + a) + b) + c) + d) + e) + f) + g) + h

eight_value : (a b c d e f g h : ℕ) → a < 16 → b < 16 → c < 16 → d < 16 → e < 16 → f < 16 → g < 16 → h < 16
    → value_of 16 (hex_digit a ∷ hex_digit b ∷ hex_digit c ∷ hex_digit d ∷ hex_digit e ∷ hex_digit f ∷ hex_digit g ∷ hex_digit h ∷ []) ≡ eight a b c d e f g h
unfolding eight
eight_value a b c d e f g h la lb lc ld le lf lg lh =
    rw (value_back a la, value_back b lb, value_back c lc, value_back d ld, value_back e le, value_back f lf, value_back g lg, value_back h lh) refl

eight_hex : (a b c d e f g h : ℕ) → a < 16 → b < 16 → c < 16 → d < 16 → e < 16 → f < 16 → g < 16 → h < 16
    → list_all is_hex_digit (hex_digit a ∷ hex_digit b ∷ hex_digit c ∷ hex_digit d ∷ hex_digit e ∷ hex_digit f ∷ hex_digit g ∷ hex_digit h ∷ []) ≡ true
eight_hex a b c d e f g h la lb lc ld le lf lg lh =
    rw (is_hex a la, is_hex b lb, is_hex c lc, is_hex d ld, is_hex e le, is_hex f lf, is_hex g lg, is_hex h lh) refl

word_back : (w : ℕ) → w < 2 ^ 32 → eight (bits w 28 4) (bits w 24 4) (bits w 20 4) (bits w 16 4) (bits w 12 4) (bits w 8 4) (bits w 4 4) (bits w 0 4) ≡ w
unfolding eight
word_back w h = omega arith

word_small : (w : ℕ) → w < 2 ^ 32 → nat_lt w (2 ^ 64) ≡ true
word_small w h = grind (arith, nat_tests)

is_word : (w : ℕ) → w < 2 ^ 32 → nat_lt w (2 ^ 32) ≡ true
is_word w h = grind (arith, nat_tests)

unlisted_number : (w : ℕ) → w < 2 ^ 32 → number_of (codes "0x" ++ hex_word w) ≡ Some w
unfolding number_of following hexadecimal_of
unlisted_number w h =
    let hex = eight_hex (bits w 28 4) (bits w 24 4) (bits w 20 4) (bits w 16 4) (bits w 12 4) (bits w 8 4) (bits w 4 4) (bits w 0 4)
    (bits_below w 28 4) (bits_below w 24 4) (bits_below w 20 4) (bits_below w 16 4) (bits_below w 12 4) (bits_below w 8 4) (bits_below w 4 4) (bits_below w 0 4) in
    let value : value_of 16 (hex_word w) ≡ w = eight_value (bits w 28 4) (bits w 24 4) (bits w 20 4) (bits w 16 4) (bits w 12 4) (bits w 8 4) (bits w 4 4) (bits w 0 4)
    (bits_below w 28 4) (bits_below w 24 4) (bits_below w 20 4) (bits_below w 16 4) (bits_below w 12 4) (bits_below w 8 4) (bits_below w 4 4) (bits_below w 0 4) ∙ word_back w h in
    let small : nat_lt (value_of 16 (hex_word w)) (2 ^ 64) ≡ true = rw value (word_small w h) in
    rw (hex, small) (ap (λ n. Some n) value)

pub unlisted-back : (w : ℕ) → w < 2 ^ 32 → candidate (unlisted_text w) ≡ Some w
unfolding candidate following unlisted_candidate
unlisted-back w h = rw (unlisted_number w h, is_word w h) refl

-- a word that is written by its digits
pub digits_word : (digits : List ℕ) → candidate (codes ".word 0x" ++ digits) ≡ if_word (number_of (codes "0x" ++ digits))
unfolding candidate following unlisted_candidate
digits_word digits = refl

-- ---- every word
sve_back : (w : ℕ) (o : Option (Instruction sve.Name)) → reads sve.row sve.sve_names w ≡ o → w < 2 ^ 32 → candidate (sve_text_or w o) ≡ Some w
sve_back w None e h = unlisted-back w h
sve_back w (Some i) e h =
    let f = found_of_reads sve.row sve.sve_names w i e in
    ap (λ ns. candidate (sve_text.text_of i.name ns)) f.numbers ∙ sve_row i.name w h f.taken

a64_back : (w : ℕ) (o : Option (Instruction a64.Name)) → reads a64.row a64.a64_names w ≡ o → w < 2 ^ 32 → candidate (a64_text_or w o) ≡ Some w
a64_back w None e h = sve_back w (reads sve.row sve.sve_names w) refl h
a64_back w (Some i) e h =
    let f = found_of_reads a64.row a64.a64_names w i e in
    ap (λ ns. candidate (a64_text.text_of i.name ns)) f.numbers ∙ a64_row i.name w h f.taken

-- the text of a word has that word
pub text-back : (w : ℕ) → w < 2 ^ 32 → candidate (word_text w) ≡ Some w
text-back w h = a64_back w (reads a64.row a64.a64_names w) refl h

-- What a text spells.
use Rattle.std.proofs.Common.{◌≡◌, ℕ, ◌<◌, ◌^◌, List, Bool, true, false, Option, Some, None, refl, sym, ap, subst, ◌∙◌, arith}
use Rattle.std.specs.Prelude.{bytes_eq, codes, if◌then◌else◌, nat_lt, nat_le, ◌&&◌, ◌+◌, ◌%◌, length}
use Rattle.std.proofs.lemmas.Bool.Decides.{nat_tests}
use Rattle.std.proofs.lemmas.Option.{same_Some}
use Rattle.std.specs.Option.{IfSome}
use Rattle.asm_forms.specs.Blanks.{blanked, numbers_of}
use Rattle.asm_forms.specs.Rules.{Sum, sum_of, form_of}
use Rattle.list_text.specs.Text.{word_text}
use Rattle.asm_forms.specs.Reading.{candidate, by_form, if_word, listed_candidate, unlisted_candidate, mnemonic_of, operands_of}
use Rattle.number_text.specs.Numbers.{given, following, number_of}
use Rattle.number_text.proofs.Bytes.{bytes_eq-told, bytes_eq-refl}
use Rattle.sve_asm.specs.WordOf.{Spells, if_spelled, word_of}
use Rattle.sve_asm.proofs.Complete.{text-back}

-- two words never have one text
pub one-text : (v w : ℕ) → v < 2 ^ 32 → w < 2 ^ 32 → word_text v ≡ word_text w → v ≡ w
one-text v w hv hw e = same_Some v w (sym (text-back v hv) ∙ ap candidate e ∙ text-back w hw)

pub read-back : (w : ℕ) → w < 2 ^ 32 → word_of (word_text w) ≡ Some w
unfolding word_of
read-back w h = rw (text-back w h, bytes_eq-refl (word_text w)) refl

pub only-one : (text : List ℕ) (w : ℕ) → Spells text w → word_of text ≡ Some w
only-one text w s = subst (λ t. word_of t ≡ Some w) s.spelled (read-back w s.word_of_32)

-- ---- a candidate is a word
if_small : (b : Bool) (o : Option ℕ) (w : ℕ) → (o ≡ Some w → w < 2 ^ 32) → (if b then o else None) ≡ Some w → w < 2 ^ 32
if_small true o w f e = f e
if_small false o w f e = cc

by_form_small : (o : Option (Sum × ℕ)) (numbers : List ℕ) (w : ℕ) → by_form o numbers ≡ Some w → w < 2 ^ 32
by_form_small None numbers w e = cc
by_form_small (Some p) numbers w e = let s : (p.1 + sum_of p.0 numbers) % 2 ^ 32 ≡ w = same_Some _ w e in omega arith

listed_small : (text : List ℕ) (w : ℕ) → listed_candidate text ≡ Some w → w < 2 ^ 32
unfolding listed_candidate
listed_small text w e =
    if_small (nat_le (length (blanked (operands_of text))) 32 && nat_le (length (numbers_of (operands_of text))) 8)
    (by_form (form_of (mnemonic_of text) (blanked (operands_of text))) (numbers_of (operands_of text))) w
    (by_form_small (form_of (mnemonic_of text) (blanked (operands_of text))) (numbers_of (operands_of text)) w) e

if_word_step : (n w : ℕ) (b : Bool) → nat_lt n (2 ^ 32) ≡ b → (if b then Some n else None) ≡ Some w → w < 2 ^ 32
if_word_step n w true l e = let s : n ≡ w = same_Some n w e in grind (arith, nat_tests)
if_word_step n w false l e = cc

if_word_small : (o : Option ℕ) (w : ℕ) → if_word o ≡ Some w → w < 2 ^ 32
if_word_small None w e = cc
if_word_small (Some n) w e = if_word_step n w (nat_lt n (2 ^ 32)) refl e

unlisted_small : (digits : List ℕ) (w : ℕ) → unlisted_candidate digits ≡ Some w → w < 2 ^ 32
unfolding unlisted_candidate
unlisted_small digits w e = if_word_small (number_of digits) w e

given_small : (o : Option (List ℕ)) (text : List ℕ) (w : ℕ) → given o unlisted_candidate (listed_candidate text) ≡ Some w → w < 2 ^ 32
given_small None text w e = listed_small text w e
given_small (Some digits) text w e = unlisted_small digits w e

pub candidate-small : (text : List ℕ) (w : ℕ) → candidate text ≡ Some w → w < 2 ^ 32
unfolding candidate
candidate-small text w e = given_small (following (codes ".word ") text) text w e

same_text : (text : List ℕ) (v w : ℕ) (b : Bool) → bytes_eq (word_text v) text ≡ b → v < 2 ^ 32 → (if b then Some v else None) ≡ Some w → Spells text w
same_text text v w true h small e =
    let s : v ≡ w = same_Some v w e in
    subst (Spells text) s (record { word_of_32 = small; spelled = bytes_eq-told (word_text v) text h })
same_text text v w false h small e = cc

spelled_if : (text : List ℕ) (o : Option ℕ) (w : ℕ) → ((v : ℕ) → o ≡ Some v → v < 2 ^ 32) → if_spelled text o ≡ Some w → Spells text w
spelled_if text None w f e = cc
spelled_if text (Some v) w f e = same_text text v w (bytes_eq (word_text v) text) refl (f v refl) e

-- what a text spells has this text
pub spells : (text : List ℕ) (w : ℕ) → word_of text ≡ Some w → Spells text w
unfolding word_of
spells text w e = spelled_if text (candidate text) w (candidate-small text) e

spells_some : (text : List ℕ) (o : Option ℕ) → word_of text ≡ o → IfSome o (Spells text)
spells_some text None e = tt
spells_some text (Some w) e = spells text w e

pub spells-all : (text : List ℕ) → IfSome (word_of text) (Spells text)
spells-all text = spells_some text (word_of text) refl

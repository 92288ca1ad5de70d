-- Words of a text that have a meaning: digits, and words of small numbers, which compute.
use Rattle.std.proofs.Common.{◌≡◌, ℕ, zero, suc, ◌-◌, ◌≤◌, ◌<◌, ◌^◌, List, [], ◌∷◌, length, Bool, true, false, Option, Some, None, refl, ap, ap₂, ◌∙◌, arith, eqb}
use Rattle.std.specs.Prelude.{◌&&◌, ◌==◌, decimal, bytes_eq, nat_lt}
use Rattle.std.specs.List.{list_all}
use Rattle.std.specs.Str.Parse.{AllDigits}
use Rattle.std.proofs.lemmas.Bool.Decides.{nat_tests}
use Rattle.std.proofs.lemmas.Fmt.{decimal_is_IsNumeral}
use Rattle.std.proofs.lemmas.Str.Parse.{tells_digits}
use Rattle.std.proofs.lemmas.Bool.{and_parts}
use Rattle.number_text.specs.Numbers.{value_of, decimal_of}
use Rattle.number_text.proofs.DecimalDigits.{digit_is, all_digits, digits_value-is}
use Rattle.asm_forms.specs.Blanks.{is_word_byte, Meaning, meanings, meaning_in, blank_of}

-- ---- tests of small numbers
unfoldable pub below : ℕ → (ℕ → Bool) → Bool
below zero test = true
below (suc n) test = test n && below n test

test_below_suc : (n k : ℕ) (test : ℕ → Bool) (b : Bool) → eqb k n ≡ b → test n ≡ true → (k < n → test k ≡ true) → k < suc n → test k ≡ true
test_below_suc n k test true e h rest l = let s : k ≡ n = grind (arith, nat_tests) in rw s h
test_below_suc n k test false e h rest l = rest (grind (arith, nat_tests))

pub below-at : (n : ℕ) (test : ℕ → Bool) → below n test ≡ true → (k : ℕ) → k < n → test k ≡ true
unfolding below
below-at zero test h k l = absurd (omega arith)
below-at (suc n) test h k l =
    let p = and_parts (test n) (below n test) h in
    test_below_suc n k test (eqb k n) refl p.0 (λ m. below-at n test p.1 k m) l

-- one of two, by a test
pub by_test : {P : Type 0} (x : Bool) → (x ≡ true → P) → (x ≡ false → P) → P
by_test true here there = here refl
by_test false here there = there refl

-- ---- what stands for a word
abbrev pub has_blank : ℕ → ℕ → Option (ℕ × ℕ) → Bool
has_blank b n None = false
has_blank b n (Some p) = (p.0 == b) && (p.1 == n)

pub blank-is : (b n : ℕ) (o : Option (ℕ × ℕ)) → has_blank b n o ≡ true → o ≡ Some (b, n)
blank-is b n None h = cc
blank-is b n (Some p) h =
    let q = and_parts (p.0 == b) (p.1 == n) h in
    let x : p.0 ≡ b = grind (arith, nat_tests) in
    let y : p.1 ≡ n = grind (arith, nat_tests) in
    ap₂ (λ (u v : ℕ). Some (u, v)) x y

-- the text of the number is a word, which has this blank and the number
abbrev pub is_blanked : (ℕ → List ℕ) → ℕ → ℕ → Bool
is_blanked text b n = list_all is_word_byte (text n) && has_blank b n (blank_of (text n))

-- a word that stands for a number
pub record IsBlanked (text : List ℕ) (b n : ℕ) : Type 0 where
  pub word : list_all is_word_byte text ≡ true
  pub blank : blank_of text ≡ Some (b, n)

pub blanked-small : (text : ℕ → List ℕ) (b m : ℕ) → below m (is_blanked text b) ≡ true → (n : ℕ) → n < m → IsBlanked (text n) b n
blanked-small text b m h n l =
    let p = and_parts (list_all is_word_byte (text n)) (has_blank b n (blank_of (text n))) (below-at m (is_blanked text b) h n l) in
    record { word = p.0; blank = blank-is b n (blank_of (text n)) p.1 }

-- ---- digits

all_of_words : (ds : List ℕ) → AllDigits 10 ds → list_all is_word_byte ds ≡ true
all_of_words [] h = refl
all_of_words (d ∷ ds) h = let p = tells_digits.parts d ds h in let i = all_of_words ds p.1 in rw (digit_is d p.0.0 p.0.1) i

some_there : (ds : List ℕ) → 0 < length ds → nat_lt 0 (length ds) ≡ true
some_there ds h = grind (arith, nat_tests)

small_is : (n m : ℕ) → m ≡ n → n < 2 ^ 64 → nat_lt m (2 ^ 64) ≡ true
small_is n m e h = grind (arith, nat_tests)

decimal-read : (n : ℕ) (ds : List ℕ) → 0 < length ds → AllDigits 10 ds → value_of 10 ds ≡ n → n < 2 ^ 64 → decimal_of ds ≡ Some n
unfolding decimal_of
decimal-read n ds l h v s =
    rw (some_there ds l, all_digits ds h, small_is n (value_of 10 ds) v s) (ap (λ m. Some m) v)

-- a word that begins with a digit is none of those of a meaning
abbrev pub begins_above : List ℕ → Bool
begins_above [] = false
begins_above (l ∷ rest) = nat_lt 57 l

abbrev pub all_begin_above : List Meaning → Bool
all_begin_above [] = true
all_begin_above (m ∷ ms) = begins_above m.word && all_begin_above ms

not_same : (word : List ℕ) (d : ℕ) (ds : List ℕ) → begins_above word ≡ true → d ≤ 57 → bytes_eq word (d ∷ ds) ≡ false
not_same [] d ds h u = cc
not_same (l ∷ word) d ds h u = let e : eqb l d ≡ false = grind (arith, nat_tests) in rw e refl

no_meaning : (ms : List Meaning) (d : ℕ) (ds : List ℕ) → all_begin_above ms ≡ true → d ≤ 57 → meaning_in ms (d ∷ ds) ≡ None
unfolding meaning_in
no_meaning [] d ds h u = refl
no_meaning (m ∷ ms) d ds h u =
    let p = and_parts (begins_above m.word) (all_begin_above ms) h in
    rw (not_same m.word d ds p.0 u) (no_meaning ms d ds p.1 u)

with_meaning : all_begin_above meanings ≡ true
unfolding meanings
with_meaning = refl

number-blank : (n : ℕ) (ds : List ℕ) → AllDigits 10 ds → 0 < length ds → decimal_of ds ≡ Some n → blank_of ds ≡ Some (48, n)
unfolding blank_of
number-blank n [] h l e = absurd (omega arith)
number-blank n (d ∷ ds) h l e =
    let p = tells_digits.parts d ds h in
    rw (no_meaning meanings d ds with_meaning p.0.1, e) refl

pub decimal-blanked : (n : ℕ) → n < 2 ^ 64 → IsBlanked (decimal n) 48 n
decimal-blanked n s =
    let d = decimal_is_IsNumeral n s in
    record {
      word = all_of_words (decimal n) d.0.1;
      blank = number-blank n (decimal n) d.0.1 d.0.0 (decimal-read n (decimal n) d.0.0 d.0.1 (digits_value-is 0 (decimal n) d.0.1 ∙ d.1) s);
    }

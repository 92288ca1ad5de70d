-- The text of a word has no line feed: a text that has one is no word's.
use Rattle.std.proofs.Common.{◌≡◌, ℕ, suc, ◌+◌, ◌<◌, ◌^◌, List, [], ◌∷◌, ◌++◌, length, drop, Bool, true, false, Option, Some, None, refl, sym, ap₂, subst, ◌∙◌, arith, eqb}
use Rattle.std.proofs.lemmas.Option.{same_Some}
use Rattle.std.specs.Prelude.{codes, nat_lt, nat_le, nat_eq, not, ◌&&◌, bytes_eq, if◌then◌else◌}
use Rattle.std.specs.List.{list_all, prefix_len}
use Rattle.std.proofs.lemmas.Bool.{eqb-true, and_parts}
use Rattle.std.proofs.lemmas.List.Folds.{list_all-append}
use Rattle.number_text.specs.Numbers.{given, following, number_of, hexadecimal_of, decimal_of, are_digits, small_value, is_digit, is_hex_digit}
use Rattle.number_text.proofs.Bytes.{bytes_eq-told}
use Rattle.list_text.specs.Text.{word_text}
use Rattle.asm_forms.specs.Blanks.{is_word_byte, over_words, blanked, blanked_word, byte_kept, numbers_of}
use Rattle.asm_forms.specs.Rules.{Sum, Form, form_in, form_of, first_of, data_processing, branches, offset_accesses, indexed_accesses, predicates, counts, vectors, vector_accesses}
use Rattle.asm_forms.specs.Reading.{candidate, by_form, if_word, listed_candidate, unlisted_candidate, mnemonic_of, operands_of}
use Rattle.sve_asm.proofs.Complete.{text-back}

abbrev pub is_clean_byte : ℕ → Bool
is_clean_byte b = not (nat_eq b 10)

-- no byte is a line feed
abbrev pub is_clean : List ℕ → Bool
is_clean text = list_all is_clean_byte text

-- ---- forms
abbrev pub all_clean : List Form → Bool
all_clean [] = true
all_clean (f ∷ fs) = is_clean f.operands && all_clean fs

form_step : (f : Form) (fs : List Form) (m k : List ℕ) (x : Sum × ℕ) (b : Bool) → bytes_eq f.operands k ≡ b → is_clean f.operands ≡ true
    → (form_in fs m k ≡ Some x → is_clean k ≡ true) → form_in (f ∷ fs) m k ≡ Some x → is_clean k ≡ true
unfolding form_in
form_step f fs m k x true w c ih e = subst (λ t. is_clean t ≡ true) (bytes_eq-told f.operands k w) c
form_step f fs m k x false w c ih e = ih (rw w at e)

form_in-clean : (fs : List Form) (m k : List ℕ) (x : Sum × ℕ) → all_clean fs ≡ true → form_in fs m k ≡ Some x → is_clean k ≡ true
unfolding form_in
form_in-clean [] m k x c e = cc
form_in-clean (f ∷ fs) m k x c e =
    let p = and_parts (is_clean f.operands) (all_clean fs) c in
    form_step f fs m k x (bytes_eq f.operands k) refl p.0 (form_in-clean fs m k x p.1) e

first_clean : (k : List ℕ) (a b : Option (Sum × ℕ)) (x : Sum × ℕ) → ((y : Sum × ℕ) → a ≡ Some y → is_clean k ≡ true) → (b ≡ Some x → is_clean k ≡ true) → first_of a b ≡ Some x → is_clean k ≡ true
first_clean k None b x f g e = g e
first_clean k (Some y) b x f g e = f y refl

form_of-clean : (m k : List ℕ) (x : Sum × ℕ) → form_of m k ≡ Some x → is_clean k ≡ true
unfolding form_of data_processing branches offset_accesses indexed_accesses predicates counts vectors vector_accesses
form_of-clean m k x e =
    first_clean k (form_in data_processing m k) _ x (λ y. form_in-clean data_processing m k y refl)
    (first_clean k (form_in branches m k) _ x (λ y. form_in-clean branches m k y refl)
    (first_clean k (form_in offset_accesses m k) _ x (λ y. form_in-clean offset_accesses m k y refl)
    (first_clean k (form_in indexed_accesses m k) _ x (λ y. form_in-clean indexed_accesses m k y refl)
    (first_clean k (form_in predicates m k) _ x (λ y. form_in-clean predicates m k y refl)
    (first_clean k (form_in counts m k) _ x (λ y. form_in-clean counts m k y refl)
    (first_clean k (form_in vectors m k) _ x (λ y. form_in-clean vectors m k y refl)
    (form_in-clean vector_accesses m k x refl))))))) e

-- ---- blanks keep what stands between words
word_clean : (b : ℕ) → is_word_byte b ≡ true → is_clean_byte b ≡ true
word_clean b h = by (nat_eq b 10) refl h
  where
    by : (x : Bool) → nat_eq b 10 ≡ x → is_word_byte b ≡ true → not x ≡ true
    by true e h = let s : b ≡ 10 = eqb-true b 10 e in let k : is_word_byte 10 ≡ true = subst (λ c. is_word_byte c ≡ true) s h in cc
    by false e h = refl

all_append : (a b : List ℕ) → is_clean (a ++ b) ≡ true → (is_clean a ≡ true) × (is_clean b ≡ true)
all_append a b h = and_parts (is_clean a) (is_clean b) (sym (list_all-append is_clean_byte a b) ∙ h)

over_step : (p text : List ℕ) (b : ℕ) (x : Bool) → is_word_byte b ≡ x
    → ((q : List ℕ) → is_clean (over_words blanked_word byte_kept q text) ≡ true → is_clean text ≡ true)
    → is_clean (over_words blanked_word byte_kept p (b ∷ text)) ≡ true → is_clean (b ∷ text) ≡ true
unfolding over_words
over_step p text b true w ih h = let r = ih (p ++ b ∷ []) (rw w at h) in rw (word_clean b w) r
over_step p text b false w ih h =
    let k : is_clean ((blanked_word p ++ b ∷ []) ++ over_words blanked_word byte_kept [] text) ≡ true = rw w at h in
    let q = all_append (blanked_word p ++ b ∷ []) (over_words blanked_word byte_kept [] text) k in
    let s = all_append (blanked_word p) (b ∷ []) q.0 in
    let t = and_parts (is_clean_byte b) true s.1 in
    rw t.0 (ih [] q.1)

over_clean : (p text : List ℕ) → is_clean (over_words blanked_word byte_kept p text) ≡ true → is_clean text ≡ true
over_clean p [] h = refl
over_clean p (b ∷ text) h = over_step p text b (is_word_byte b) refl (λ q. over_clean q text) h

-- ---- the front of a text
front_step : (b : ℕ) (text : List ℕ) (x : Bool) → is_word_byte b ≡ x → (is_clean (drop (prefix_len is_word_byte text) text) ≡ true → is_clean text ≡ true)
    → is_clean (drop (prefix_len is_word_byte (b ∷ text)) (b ∷ text)) ≡ true → is_clean (b ∷ text) ≡ true
front_step b text true w ih h =
    let e : 1 + prefix_len is_word_byte text ≡ suc (prefix_len is_word_byte text) = omega arith in
    let k : is_clean (drop (prefix_len is_word_byte text) text) ≡ true = rw (w, e) at h in rw (word_clean b w) (ih k)
front_step b text false w ih h = rw w at h

front_clean : (text : List ℕ) → is_clean (operands_of text) ≡ true → is_clean text ≡ true
front_clean [] h = refl
front_clean (b ∷ text) h = front_step b text (is_word_byte b) refl (front_clean text) h

by_form_clean : (m k numbers : List ℕ) (o : Option (Sum × ℕ)) (w : ℕ) → form_of m k ≡ o → by_form o numbers ≡ Some w → is_clean k ≡ true
by_form_clean m k numbers None w e h = cc
by_form_clean m k numbers (Some x) w e h = form_of-clean m k x e

if_clean : (b : Bool) (o : Option ℕ) (w : ℕ) (k : List ℕ) → (o ≡ Some w → is_clean k ≡ true) → (if b then o else None) ≡ Some w → is_clean k ≡ true
if_clean true o w k f e = f e
if_clean false o w k f e = cc

listed_clean : (text : List ℕ) (w : ℕ) → listed_candidate text ≡ Some w → is_clean text ≡ true
unfolding listed_candidate
listed_clean text w e =
    front_clean text (over_clean [] (operands_of text)
    (if_clean (nat_le (length (blanked (operands_of text))) 32 && nat_le (length (numbers_of (operands_of text))) 8)
    (by_form (form_of (mnemonic_of text) (blanked (operands_of text))) (numbers_of (operands_of text))) w (blanked (operands_of text))
    (by_form_clean (mnemonic_of text) (blanked (operands_of text)) (numbers_of (operands_of text)) (form_of (mnemonic_of text) (blanked (operands_of text))) w refl) e))

-- ---- numbers
following_step : (b c : ℕ) (p text rest : List ℕ) (x : Bool) → eqb c b ≡ x → (following p text ≡ Some rest → text ≡ p ++ rest)
    → following (b ∷ p) (c ∷ text) ≡ Some rest → c ∷ text ≡ b ∷ (p ++ rest)
unfolding following
following_step b c p text rest true w ih h =
    let s : c ≡ b = eqb-true c b w in
    let r : text ≡ p ++ rest = ih (rw w at h) in
    ap₂ (λ (u : ℕ) (v : List ℕ). u ∷ v) s r
following_step b c p text rest false w ih h = let k : None ≡ Some rest = rw w at h in cc

following_is : (p text rest : List ℕ) → following p text ≡ Some rest → text ≡ p ++ rest
unfolding following
following_is [] text rest e = same_Some text rest e
following_is (b ∷ p) [] rest e = cc
following_is (b ∷ p) (c ∷ text) rest e = following_step b c p text rest (eqb c b) refl (following_is p text rest) e

digit_clean : (b : ℕ) → is_hex_digit b ≡ true → is_clean_byte b ≡ true
digit_clean b h = by (nat_eq b 10) refl
  where
    by : (x : Bool) → nat_eq b 10 ≡ x → not x ≡ true
    by true e = let s : b ≡ 10 = eqb-true b 10 e in let k : is_hex_digit 10 ≡ true = subst (λ c. is_hex_digit c ≡ true) s h in cc
    by false e = refl

decimal_clean : (b : ℕ) → is_digit b ≡ true → is_clean_byte b ≡ true
decimal_clean b h = by (nat_eq b 10) refl
  where
    by : (x : Bool) → nat_eq b 10 ≡ x → not x ≡ true
    by true e = let s : b ≡ 10 = eqb-true b 10 e in let k : is_digit 10 ≡ true = subst (λ c. is_digit c ≡ true) s h in cc
    by false e = refl

digits_clean : (is : ℕ → Bool) (ds : List ℕ) → ((b : ℕ) → is b ≡ true → is_clean_byte b ≡ true) → list_all is ds ≡ true → is_clean ds ≡ true
digits_clean is [] f h = refl
digits_clean is (d ∷ ds) f h = let p = and_parts (is d) (list_all is ds) h in rw (f d p.0) (digits_clean is ds f p.1)

of_digits : (is : ℕ → Bool) (ds : List ℕ) (o : Option ℕ) (w : ℕ) → ((b : ℕ) → is b ≡ true → is_clean_byte b ≡ true) → (x : Bool) → are_digits is ds ≡ x → (if x then o else None) ≡ Some w → is_clean ds ≡ true
of_digits is ds o w f true e h = digits_clean is ds f (and_parts (nat_lt 0 (length ds)) (list_all is ds) e).1
of_digits is ds o w f false e h = cc

hexadecimal_clean : (ds : List ℕ) (w : ℕ) → hexadecimal_of ds ≡ Some w → is_clean ds ≡ true
unfolding hexadecimal_of
hexadecimal_clean ds w e = of_digits is_hex_digit ds (small_value 16 ds) w digit_clean (are_digits is_hex_digit ds) refl e

decimals_clean : (ds : List ℕ) (w : ℕ) → decimal_of ds ≡ Some w → is_clean ds ≡ true
unfolding decimal_of
decimals_clean ds w e = of_digits is_digit ds (small_value 10 ds) w decimal_clean (are_digits is_digit ds) refl e

join_clean : (a b : List ℕ) → is_clean a ≡ true → is_clean b ≡ true → is_clean (a ++ b) ≡ true
join_clean a b p q = list_all-append is_clean_byte a b ∙ rw (p, q) refl

number_step : (word : List ℕ) (o : Option (List ℕ)) (w : ℕ) → following (codes "0x") word ≡ o → given o hexadecimal_of (decimal_of word) ≡ Some w → is_clean word ≡ true
number_step word None w e h = decimals_clean word w h
number_step word (Some digits) w e h =
    subst (λ t. is_clean t ≡ true) (sym (following_is (codes "0x") word digits e)) (join_clean (codes "0x") digits refl (hexadecimal_clean digits w h))

number_clean : (word : List ℕ) (w : ℕ) → number_of word ≡ Some w → is_clean word ≡ true
unfolding number_of
number_clean word w e = number_step word (following (codes "0x") word) w refl e

if_word_some : (o : Option ℕ) (w : ℕ) (word : List ℕ) → ((n : ℕ) → o ≡ Some n → is_clean word ≡ true) → if_word o ≡ Some w → is_clean word ≡ true
if_word_some None w word f e = cc
if_word_some (Some n) w word f e = f n refl

unlisted_clean : (digits : List ℕ) (w : ℕ) → unlisted_candidate digits ≡ Some w → is_clean digits ≡ true
unfolding unlisted_candidate
unlisted_clean digits w e = if_word_some (number_of digits) w digits (number_clean digits) e

candidate_step : (text : List ℕ) (o : Option (List ℕ)) (w : ℕ) → following (codes ".word ") text ≡ o → given o unlisted_candidate (listed_candidate text) ≡ Some w → is_clean text ≡ true
candidate_step text None w e h = listed_clean text w h
candidate_step text (Some digits) w e h =
    subst (λ t. is_clean t ≡ true) (sym (following_is (codes ".word ") text digits e)) (join_clean (codes ".word ") digits refl (unlisted_clean digits w h))

candidate_clean : (text : List ℕ) (w : ℕ) → candidate text ≡ Some w → is_clean text ≡ true
unfolding candidate
candidate_clean text w e = candidate_step text (following (codes ".word ") text) w refl e

-- the text of a word has no line feed
pub text-clean : (w : ℕ) → w < 2 ^ 32 → is_clean (word_text w) ≡ true
text-clean w h = candidate_clean (word_text w) w (text-back w h)

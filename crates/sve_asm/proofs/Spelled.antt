-- The word of a text by its form.
use Rattle.std.proofs.Common.{◌≡◌, ℕ, ◌+◌, ◌%◌, ◌^◌, ◌<◌, List, [], ◌∷◌, ◌++◌, length, take, drop, Bool, true, false, Some, None, refl, ap, ◌∙◌, arith, eqb, subst}
use Rattle.std.proofs.lemmas.Bool.{eqb-true, and_parts, not-true}
use Rattle.std.specs.Prelude.{◌&&◌, nat_le, codes}
use Rattle.std.specs.List.{list_all, prefix_len}
use Rattle.number_text.specs.Numbers.{following}
use Rattle.asm_forms.specs.Blanks.{is_word_byte}
use Rattle.asm_forms.specs.Rules.{Sum, sum_of, form_of}
use Rattle.asm_forms.specs.Reading.{listed_candidate, candidate}
use Rattle.sve_asm.proofs.ByWords.{Reads, ends}

front_len : (m text : List ℕ) → list_all is_word_byte m ≡ true → ends text ≡ true → prefix_len is_word_byte (m ++ text) ≡ length m
front_len [] [] h e = refl
front_len [] (b ∷ text) h e = rw (not-true (is_word_byte b) e) refl
front_len (b ∷ m) text h e = let p = and_parts (is_word_byte b) (list_all is_word_byte m) h in rw (p.0, front_len m text p.1 e) (omega arith)

take_front : (m text : List ℕ) → take (length m) (m ++ text) ≡ m
take_front [] text = refl
take_front (b ∷ m) text = ap (λ x. b ∷ x) (take_front m text)

drop_front : (m text : List ℕ) → drop (length m) (m ++ text) ≡ text
drop_front [] text = refl
drop_front (b ∷ m) text = drop_front m text

-- no more bytes and numbers than there is room for
abbrev pub fits : List ℕ → List ℕ → Bool
fits operands numbers = nat_le (length operands) 32 && nat_le (length numbers) 8

listed_spelled : (m rest operands numbers : List ℕ) (adds : Sum) (base w : ℕ) → list_all is_word_byte m ≡ true → ends rest ≡ true → Reads rest operands numbers
    → form_of m operands ≡ Some (adds, base) → fits operands numbers ≡ true → (base + sum_of adds numbers) % 2 ^ 32 ≡ w → listed_candidate (m ++ rest) ≡ Some w
unfolding listed_candidate
listed_spelled m rest operands numbers adds base w h e r f room sum =
    rw (front_len m rest h e, take_front m rest, drop_front m rest, r.blanks_are, r.numbers_are, room, f) (ap (λ x. Some x) sum)

not_dot : (b : ℕ) (x : Bool) → eqb b 46 ≡ x → is_word_byte b ≡ true → x ≡ false
not_dot b true e h = let s : b ≡ 46 = eqb-true b 46 e in let k : is_word_byte 46 ≡ true = subst (λ c. is_word_byte c ≡ true) s h in cc
not_dot b false e h = refl

no_dot : (b : ℕ) (m : List ℕ) → is_word_byte b ≡ true → following (codes ".word ") (b ∷ m) ≡ None
unfolding following
no_dot b m h = let e : eqb b 46 ≡ false = not_dot b (eqb b 46) refl h in rw e refl

-- what begins with a mnemonic is no `.word`
pub listed-first : (m rest : List ℕ) → 0 < length m → list_all is_word_byte m ≡ true → candidate (m ++ rest) ≡ listed_candidate (m ++ rest)
unfolding candidate
listed-first [] rest l h = absurd (omega arith)
listed-first (b ∷ m) rest l h = let p = and_parts (is_word_byte b) (list_all is_word_byte m) h in rw (no_dot b (m ++ rest) p.0) refl

-- a mnemonic: letters and digits, at least one
abbrev pub is_mnemonic : List ℕ → Bool
is_mnemonic [] = false
is_mnemonic (b ∷ m) = list_all is_word_byte (b ∷ m)

-- a text that is a mnemonic and these operands: it has the one word that its numbers make
pub spelled : (m : List ℕ) {text rest operands numbers : List ℕ} {adds : Sum} {base w : ℕ} → is_mnemonic m ≡ true → form_of m operands ≡ Some (adds, base)
    → Reads rest operands numbers → ends rest ≡ true → fits operands numbers ≡ true → text ≡ m ++ rest → (base + sum_of adds numbers) % 2 ^ 32 ≡ w → candidate text ≡ Some w
spelled [] h f r e room t sum = cc
spelled (b ∷ m) {text} {rest} {operands} {numbers} {adds} {base} {w} h f r e room t sum =
    ap candidate t ∙ listed-first (b ∷ m) rest (omega arith) h ∙ listed_spelled (b ∷ m) rest operands numbers adds base w h e r f room sum

-- Nesting, token by token.
use Rattle.std.proofs.Common.{◌≡◌, ℕ, suc, ◌+◌, ◌<◌, ◌≤◌, true, false, List, ◌∷◌, drop, length, get_or, Some, None, refl, sym, ap, ◌∙◌, arith, add-one}
use Rattle.std.specs.Prelude.{◌||◌, nat_lt}
use Rattle.std.proofs.lemmas.Bool.{cond-true, cond-false}
use Rattle.std.proofs.lemmas.Bool.Decides.{nat_tests}
use Rattle.std.proofs.Math.Seq.{drop-cons}
use Rattle.std.proofs.lemmas.List.{drop_all}
use Rattle.kernel_tree.specs.declared.token.Token.{Token}
use Rattle.kernel_tree.specs.TextToken.{TextToken}
use Rattle.kernel_tree.specs.Plain.{word_of, words_of}
use Rattle.kernel_syntax.specs.Nesting.{open_by, signs_by, deep_from}

-- the tokens from a place on
pub words_at : (ts : List Token) (i : ℕ) (t : Token) → i < length ts → t ≡ get_or ts i t → words_of (drop i ts) ≡ word_of t ∷ words_of (drop (i + 1) ts)
words_at ts i t h e = ap words_of (drop-cons ts i t h ∙ ap (λ x. x ∷ drop (suc i) ts) (sym e)) ∙ ap (λ k. word_of t ∷ words_of (drop k ts)) (sym (add-one i))

is_over : (a b : ℕ) → 64 < a → (nat_lt 64 a || nat_lt 64 b) ≡ true
is_over a b h = grind (arith, nat_tests)

is_over_too : (a b : ℕ) → 64 < b → (nat_lt 64 a || nat_lt 64 b) ≡ true
is_over_too a b h = grind (arith, nat_tests)

is_within : (a b : ℕ) → a ≤ 64 → b ≤ 64 → (nat_lt 64 a || nat_lt 64 b) ≡ false
is_within a b h k = grind (arith, nat_tests)

pub stops_open : (d s at : ℕ) (w : TextToken) (rest : List TextToken) → 64 < open_by d w → deep_from d s at (w ∷ rest) ≡ Some at
unfolding deep_from
stops_open d s at w rest h = cond-true _ _ _ (is_over (open_by d w) (signs_by s w) h)

pub stops_signs : (d s at : ℕ) (w : TextToken) (rest : List TextToken) → 64 < signs_by s w → deep_from d s at (w ∷ rest) ≡ Some at
unfolding deep_from
stops_signs d s at w rest h = cond-true _ _ _ (is_over_too (open_by d w) (signs_by s w) h)

pub goes_deeper : (d s at : ℕ) (w : TextToken) (rest : List TextToken) → open_by d w ≤ 64 → signs_by s w ≤ 64 → deep_from d s at (w ∷ rest) ≡ deep_from (open_by d w) (signs_by s w) (at + 1) rest
unfolding deep_from
goes_deeper d s at w rest h k = cond-false _ _ _ (is_within (open_by d w) (signs_by s w) h k)

pub nothing_deep : (d s at i : ℕ) (ts : List Token) → length ts ≤ i → deep_from d s at (words_of (drop i ts)) ≡ None
unfolding deep_from
nothing_deep d s at i ts h = rw (drop_all i ts h) refl

-- The digits of a decimal number: what is one, and what they stand for.
use Rattle.std.proofs.Common.{◌≡◌, ℕ, ◌+◌, ◌*◌, ◌-◌, ◌≤◌, List, [], ◌∷◌, true, refl, ap, ◌∙◌, arith}
use Rattle.std.specs.List.{list_all, fold}
use Rattle.std.specs.Char.{digit_value as std_value}
use Rattle.std.specs.Str.Parse.{AllDigits, digits_value_after}
use Rattle.std.proofs.lemmas.Bool.Decides.{nat_tests}
use Rattle.std.proofs.lemmas.Str.Parse.{tells_digits}
use Rattle.number_text.specs.Numbers.{is_digit, digit_value, appended}

pub digit_is : (d : ℕ) → 48 ≤ d → d ≤ 57 → is_digit d ≡ true
digit_is d l u = grind (arith, nat_tests)

pub digit_value-is : (d : ℕ) → 48 ≤ d → d ≤ 57 → digit_value d ≡ d - 48
digit_value-is d l u = rw (digit_is d l u) refl

pub std_value-is : (d : ℕ) → 48 ≤ d → d ≤ 57 → std_value d ≡ d - 48
std_value-is d l u = grind (arith, nat_tests)

pub all_digits : (ds : List ℕ) → AllDigits 10 ds → list_all is_digit ds ≡ true
all_digits [] h = refl
all_digits (d ∷ ds) h = let p = tells_digits.parts d ds h in let i = all_digits ds p.1 in rw (digit_is d p.0.0 p.0.1) i

pub digits_value-is : (n : ℕ) (ds : List ℕ) → AllDigits 10 ds → fold (appended 10) n ds ≡ digits_value_after 10 n ds
digits_value-is n [] h = refl
digits_value-is n (d ∷ ds) h =
    let p = tells_digits.parts d ds h in
    let e : 10 * n + digit_value d ≡ n * 10 + std_value d = omega (arith, digit_value-is d p.0.0 p.0.1, std_value-is d p.0.0 p.0.1) in
    digits_value-is (10 * n + digit_value d) ds p.1 ∙ ap (λ m. digits_value_after 10 m ds) e

-- The count of calls, some of which are to fail.
use Rattle.std.proofs.Common.{◌≡◌, ◌↔◌, ℕ, ◌<◌, ◌≤◌, ◌||◌, Bool, true, false, List, [], ◌∷◌, nat_eq, nat_lt, refl, ◌∙◌, ap, arith}
use Rattle.std.specs.List.{list_all, list_any}
use Rattle.std.proofs.lemmas.Bool.{and_parts, and_from, or_from, ltb-true, lt-ltb, ne_eqb}

-- what lies below a number lies below a later one
pub all_below_later : (fail : List ℕ) (made later : ℕ) → made ≤ later → list_all (λ n. nat_lt n made) fail ≡ true → list_all (λ n. nat_lt n later) fail ≡ true
all_below_later [] made later h all = refl
all_below_later (n ∷ fail) made later h all =
    let parts = and_parts (nat_lt n made) (list_all (λ m. nat_lt m made) fail) all in
    let below : n < made = ltb-true n made parts.0 in
    and_from _ _ (lt-ltb n later (omega (arith, h, below))) (all_below_later fail made later h parts.1)

-- a number is not among those below it
pub none_is_next : (fail : List ℕ) (made : ℕ) → list_all (λ n. nat_lt n made) fail ≡ true → list_any (λ n. nat_eq n made) fail ≡ false
none_is_next [] made all = refl
none_is_next (n ∷ fail) made all =
    let parts = and_parts (nat_lt n made) (list_all (λ m. nat_lt m made) fail) all in
    let below : n < made = ltb-true n made parts.0 in
    or_from _ _ (ne_eqb n made (λ same. omega (arith, same, below))) (none_is_next fail made parts.1)

-- where each call that is to fail was made, that stays so, and a call fails only where it is refused
pub stays_steady : (fail : List ℕ) (made later : ℕ) (planned refused : Bool) → made ≤ later → planned ≡ list_any (λ n. nat_eq n made) fail → list_all (λ n. nat_lt n made) fail ≡ true → (list_all (λ n. nat_lt n later) fail ≡ true) × ((planned || refused) ≡ refused)
stays_steady fail made later planned refused h p all =
    (all_below_later fail made later h all, ap (λ b. b || refused) (p ∙ none_is_next fail made all))

-- before the first call, each call that is to fail was made exactly where there is none
pub steady_at_start : (fail : List ℕ) → (list_all (λ n. nat_lt n 0) fail ≡ true) ↔ (fail ≡ [])
steady_at_start [] = (λ all. refl, λ none. refl)
steady_at_start (n ∷ fail) = (
  λ all. absurd (let below : n < 0 = ltb-true n 0 (and_parts (nat_lt n 0) (list_all (λ m. nat_lt m 0) fail) all).0 in omega (arith, below)),
  λ none. cc,
)

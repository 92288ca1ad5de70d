-- Names one of which gets another value, and names that others follow.
use Rattle.std.proofs.Common.{◌≡◌, ℕ, suc, Bool, true, false, cond, List, [], ◌∷◌, ◌++◌, Some, refl, ap}
use Rattle.std.specs.Prelude.{ℤ, pos, bytes_eq, find, option_map, unwrap_or, length, ◌||◌}
use Rattle.std.specs.List.{list_any}
use Rattle.kernel_meaning.specs.Eval.{Named, Names, is_named, value_of, value_at}
use Rattle.kernel_meaning.specs.Iterate.{named, assigned}

pub assigned-names : (x : List ℕ) (z : ℤ) (ns : Names) (test : List ℕ → Bool) → list_any (λ (n : Named). test n.name) (assigned x z ns) ≡ list_any (λ (n : Named). test n.name) ns
assigned-names x z [] test = refl
assigned-names x z (n ∷ ns) test = by_test (bytes_eq n.name x) (assigned-names x z ns test)
  where
    by_test : (b : Bool) → list_any (λ (n : Named). test n.name) (assigned x z ns) ≡ list_any (λ (n : Named). test n.name) ns → list_any (λ (n : Named). test n.name) (cond b (named n.name z ∷ ns) (n ∷ assigned x z ns)) ≡ list_any (λ (n : Named). test n.name) (n ∷ ns)
    by_test true h = refl
    by_test false h = ap (λ b. test n.name || b) h

pub assigned-length : (x : List ℕ) (z : ℤ) (ns : Names) → length (assigned x z ns) ≡ length ns
assigned-length x z [] = refl
assigned-length x z (n ∷ ns) = by_test (bytes_eq n.name x) (assigned-length x z ns)
  where
    by_test : (b : Bool) → length (assigned x z ns) ≡ length ns → length (cond b (named n.name z ∷ ns) (n ∷ assigned x z ns)) ≡ length (n ∷ ns)
    by_test true h = refl
    by_test false h = ap suc h

pub assigned-front : (x : List ℕ) (z : ℤ) (ns more : Names) → list_any (is_named x) ns ≡ true → assigned x z (ns ++ more) ≡ assigned x z ns ++ more
assigned-front x z [] more h = absurd cc
assigned-front x z (n ∷ ns) more h = by_test (bytes_eq n.name x) h (assigned-front x z ns more)
  where
    by_test : (b : Bool) → b || list_any (is_named x) ns ≡ true → (list_any (is_named x) ns ≡ true → assigned x z (ns ++ more) ≡ assigned x z ns ++ more) → cond b (named n.name z ∷ (ns ++ more)) (n ∷ assigned x z (ns ++ more)) ≡ cond b (named n.name z ∷ ns) (n ∷ assigned x z ns) ++ more
    by_test true h ih = refl
    by_test false h ih = ap (λ r. n ∷ r) (ih h)

pub value_at-front : (x : List ℕ) (ns more : Names) → list_any (is_named x) ns ≡ true → value_at (ns ++ more) x ≡ value_at ns x
value_at-front x [] more h = absurd cc
value_at-front x (n ∷ ns) more h = by_test (bytes_eq n.name x) h (value_at-front x ns more)
  where
    by_test : (b : Bool) → b || list_any (is_named x) ns ≡ true → (list_any (is_named x) ns ≡ true → value_at (ns ++ more) x ≡ value_at ns x) → unwrap_or (option_map value_of (cond b (Some n) (find (is_named x) (ns ++ more)))) (pos 0) ≡ unwrap_or (option_map value_of (cond b (Some n) (find (is_named x) ns))) (pos 0)
    by_test true h ih = refl
    by_test false h ih = ih h

-- Numbers in ascending order.
use Rattle.std.proofs.Common.{◌≡◌, ℕ, zero, suc, ◌+◌, ◌-◌, ◌<◌, List, length, subst, arith}
use Rattle.std.specs.Prelude.{slice_index}
use Rattle.std.specs.List.Sorted.{IsStrictlyIncreasing}

-- in ascending numbers the earlier is the lesser
rises : (xs : List ℕ) (i d : ℕ) → IsStrictlyIncreasing xs → i + suc d < length xs → slice_index xs i < slice_index xs (i + suc d)
rises xs i zero up l = subst (λ j. slice_index xs i < slice_index xs j) (let e : i + 1 ≡ i + suc zero = omega arith in e) (up i (omega arith))
rises xs i (suc d) up l =
    let e : (i + suc d) + 1 ≡ i + suc (suc d) = omega arith in
    let next : slice_index xs (i + suc d) < slice_index xs (i + suc (suc d)) = subst (λ j. slice_index xs (i + suc d) < slice_index xs j) e (up (i + suc d) (omega arith)) in
    omega (arith, rises xs i d up (omega arith), next)

pub number-below : (xs : List ℕ) (i j : ℕ) → IsStrictlyIncreasing xs → i < j → j < length xs → slice_index xs i < slice_index xs j
number-below xs i j up l h =
    let e : i + suc (j - suc i) ≡ j = omega arith in
    subst (λ k. slice_index xs i < slice_index xs k) e (rises xs i (j - suc i) up (omega arith))

-- Eight epochs that go round.
use Rattle.std.proofs.Common.{◌≡◌, ℕ, zero, suc, ◌+◌, ◌-◌, ◌<◌, ◌≤◌, ◌⊎◌, inl, inr, List, [], ◌∷◌, ◌++◌, length, take, drop, set, sym, ap, ◌∙◌, min, arith}
use Rattle.std.proofs.lemmas.Bool.{cases_lt}
use Rattle.std.proofs.lemmas.List.{take-take, take_all, length-take-le, length-drop}

-- those that had begun before the newest one
older : {X : Type 0} (xs : List X) (count n : ℕ) → length xs ≡ 8 → count ≤ 8 → ((count < 8) × (n ≡ count)) ⊎ ((8 ≤ count) × (n ≡ 7)) → take n (take 7 xs) ≡ take 7 (take count xs)
older xs count n eight few (inl h) =
    ap (λ k. take k (take 7 xs)) h.1
    ∙ take-take count 7 xs (omega (arith, h.0))
    ∙ sym (take_all 7 (take count xs) (omega (arith, h.0, length-take-le count xs (omega (arith, few, eight)))))
older xs count n eight few (inr h) =
    ap (λ k. take k (take 7 xs)) h.1
    ∙ take-take 7 7 xs (omega arith)
    ∙ sym (take-take 7 count xs (omega (arith, h.0)))

-- the last one comes to the front as x
pub row_of_new_epoch : {X : Type 0} (xs : List X) (count k : ℕ) (x : X) → length xs ≡ 8 → count ≤ 8 → ((count < 8) × (k ≡ count + 1)) ⊎ ((8 ≤ count) × (k ≡ 8)) → take k (set (drop 7 xs ++ take 7 xs) 0 x) ≡ x ∷ take 7 (take count xs)
row_of_new_epoch xs count zero x eight few (inl h) = absurd (omega (arith, h.1))
row_of_new_epoch xs count zero x eight few (inr h) = absurd (omega (arith, h.1))
row_of_new_epoch {X} xs count (suc n) x eight few how = front (drop 7 xs) (length-drop 7 xs)
  where
    rest : ((count < 8) × (n ≡ count)) ⊎ ((8 ≤ count) × (n ≡ 7))
    rest = sides how
      where
        sides : ((count < 8) × (suc n ≡ count + 1)) ⊎ ((8 ≤ count) × (suc n ≡ 8)) → ((count < 8) × (n ≡ count)) ⊎ ((8 ≤ count) × (n ≡ 7))
        sides (inl h) = inl (h.0, omega (arith, h.1))
        sides (inr h) = inr (h.0, omega (arith, h.1))

    front : (ys : List X) → length ys ≡ length xs - 7 → take (suc n) (set (ys ++ take 7 xs) 0 x) ≡ x ∷ take 7 (take count xs)
    front [] one = absurd (omega (arith, one, eight))
    front (y ∷ []) one = ap (λ l. x ∷ l) (older xs count n eight few rest)
    front (y ∷ z ∷ ys) one = absurd (omega (arith, one, eight))

pub some_taken : {X : Type 0} (n : ℕ) (xs : List X) → 1 ≤ length (take n xs) → 1 ≤ n
some_taken zero xs some = absurd (omega (arith, some))
some_taken (suc n) xs some = omega arith

-- how many have begun, with one more
pub count_more : (count k : ℕ) → k ≡ min 8 (count + 1) → ((count < 8) × (k ≡ count + 1)) ⊎ ((8 ≤ count) × (k ≡ 8))
count_more count k is = go (cases_lt count 8)
  where
    go : (count < 8) ⊎ (8 ≤ count) → ((count < 8) × (k ≡ count + 1)) ⊎ ((8 ≤ count) × (k ≡ 8))
    go (inl below) = inl (below, omega (arith, is, below))
    go (inr most) = inr (most, omega (arith, is, most))

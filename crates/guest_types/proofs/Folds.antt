-- Folds over elements.
use Rattle.std.proofs.Common.{◌≡◌, ℕ, ◌+◌, false, ◌&&◌, ◌||◌, refl, ap, add-one, zero, suc, ◌<◌, Bool, ap₂, ◌∙◌, sym, arith}
use Rattle.guest_types.specs.Lanes.{folded, broken}
use Rattle.guest_types.specs.Elements.{bit}
use Rattle.std.proofs.Common.{List}

pub folded-none : (step : ℕ → ℕ → ℕ) (start : ℕ) (f : ℕ → ℕ) → folded step start f 0 ≡ start
unfolding folded
folded-none step start f = refl

pub folded-more : (step : ℕ → ℕ → ℕ) (start : ℕ) (f : ℕ → ℕ) (n : ℕ) → folded step start f (n + 1) ≡ step (folded step start f n) (f n)
unfolding folded
folded-more step start f n = ap (folded step start f) (add-one n)

pub broken-none : (pg p : List ℕ) → broken pg p 0 ≡ false
unfolding broken
broken-none pg p = refl

pub broken-more : (pg p : List ℕ) (j : ℕ) → broken pg p (j + 1) ≡ (broken pg p j || (bit pg j && bit p j))
unfolding broken
broken-more pg p j = ap (broken pg p) (add-one j)

-- where no active bit is set, nothing breaks
pub not_broken : (pg p : List ℕ) (n : ℕ) → ((b : ℕ) → b < n → (bit pg b && bit p b) ≡ false) → broken pg p n ≡ false
not_broken pg p zero h = broken-none pg p
not_broken pg p (suc n) h = ap (broken pg p) (sym (add-one n)) ∙ broken-more pg p n ∙ ap₂ (λ a b. a || b) (not_broken pg p n (λ b lt. h b (omega (arith, lt)))) (h n (omega arith))

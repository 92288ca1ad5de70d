-- The newest of some epochs, which saves more.
use Rattle.std.proofs.Common.{◌≡◌, ℕ, zero, suc, ◌≤◌, List, [], ◌∷◌, ◌++◌, length, take, get_or, set, ap, ◌∙◌, true, arith}
use Rattle.guest_types.specs.Memory.{Memory}
use Rattle.paged_memory.specs.Epochs.{Saved, undone, has_place, past_of, IsSavedAt}

pub first-saved : (n : ℕ) (xs : List Saved) (x : Saved) (place : ℕ) → 1 ≤ n → 1 ≤ length xs → has_place place x.places ≡ true → IsSavedAt place (take n (set xs 0 x))
first-saved zero xs x place some filled saved = absurd (omega (arith, some))
first-saved (suc n) [] x place some filled saved = absurd (omega (arith, filled))
first-saved (suc n) (y ∷ ys) x place some filled saved = saved

pub first-kept : (n : ℕ) (xs : List Saved) (x old : Saved) (other : ℕ) → 1 ≤ n → 1 ≤ length xs → old ≡ get_or xs 0 old → (has_place other old.places ≡ true → has_place other x.places ≡ true) → IsSavedAt other (take n xs) → IsSavedAt other (take n (set xs 0 x))
first-kept zero xs x old other some filled is kept was = absurd (omega (arith, some))
first-kept (suc n) [] x old other some filled is kept was = absurd (omega (arith, filled))
first-kept (suc n) (y ∷ ys) x old other some filled is kept was = kept (ap (λ s. has_place other s.places) is ∙ was)

pub first-past : (n : ℕ) (xs : List Saved) (x old : Saved) (memory : Memory) → 1 ≤ n → 1 ≤ length xs → old ≡ get_or xs 0 old → undone x memory ≡ undone old memory → past_of (take n (set xs 0 x)) memory ≡ past_of (take n xs) memory
first-past zero xs x old memory some filled is same = absurd (omega (arith, some))
first-past (suc n) [] x old memory some filled is same = absurd (omega (arith, filled))
first-past (suc n) (y ∷ ys) x old memory some filled is same = ap (λ before. past_of (take n ys) before ++ before ∷ []) (same ∙ ap (λ s. undone s memory) is)

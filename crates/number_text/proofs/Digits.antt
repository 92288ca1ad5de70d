-- The number that digits spell, digit by digit.
use Rattle.std.proofs.Common.{◌≡◌, ℕ, zero, suc, ◌+◌, ◌*◌, ◌<◌, ◌≤◌, List, [], ◌∷◌, drop, length, get_or, arith}
use Rattle.std.specs.List.{fold}
use Rattle.std.proofs.Math.Seq.{drop-cons}
use Rattle.number_text.specs.Numbers.{appended, value_of, digit_value}

grow : (base n d : ℕ) → 1 ≤ base → n ≤ base * n + d
grow zero n d h = absurd (omega arith)
grow (suc b) n d h = omega arith

-- more digits make no lesser number
pub grows : (base : ℕ) → 1 ≤ base → (ds : List ℕ) (n : ℕ) → n ≤ fold (appended base) n ds
grows base h [] n = omega arith
grows base h (d ∷ ds) n = omega (arith, grow base n (digit_value d) h, grows base h ds (appended base n d))

-- one more digit
pub value_of_digit_on : (base : ℕ) (ds : List ℕ) (i n : ℕ) → i < length ds → value_of base ds ≡ fold (appended base) n (drop i ds) → value_of base ds ≡ fold (appended base) (base * n + digit_value (get_or ds i 0)) (drop (suc i) ds)
value_of_digit_on base ds i n h e = rw (drop-cons ds i 0 h) at e

pub too_large : (base : ℕ) (ds : List ℕ) (i n m : ℕ) → 1 ≤ base → i < length ds → value_of base ds ≡ fold (appended base) n (drop i ds) → m ≤ base * n + digit_value (get_or ds i 0) → m ≤ value_of base ds
too_large base ds i n m h l e k = let f = value_of_digit_on base ds i n l e in omega (arith, f, grows base h (drop (suc i) ds) (base * n + digit_value (get_or ds i 0)))

pub not_below : (a b : ℕ) → (a < b → ⊥) → b ≤ a
not_below a b h = omega arith

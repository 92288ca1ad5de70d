-- How a text that is appended to is the text of its pieces.
use Rattle.std.proofs.Common.{◌≡◌, ℕ, List, ◌++◌, ap, ◌∙◌, append_assoc}

-- a piece by what it is
pub piece : {b x y : List ℕ} (a : List ℕ) → b ≡ a ++ x → x ≡ y → b ≡ a ++ y
piece a e is = e ∙ ap (λ (l : List ℕ). a ++ l) is

-- what follows a text
pub next : {b a : List ℕ} (y : List ℕ) → b ≡ a → b ++ y ≡ a ++ y
next y e = ap (λ (l : List ℕ). l ++ y) e

-- pieces that make one
pub in_two : (a x y : List ℕ) → a ++ x ++ y ≡ a ++ (x ++ y)
in_two a x y = append_assoc a x y

pub in_three : (a x y z : List ℕ) → a ++ x ++ y ++ z ≡ a ++ (x ++ y ++ z)
in_three a x y z = next z (in_two a x y) ∙ append_assoc a (x ++ y) z

pub in_four : (a x y z w : List ℕ) → a ++ x ++ y ++ z ++ w ≡ a ++ (x ++ y ++ z ++ w)
in_four a x y z w = next w (in_three a x y z) ∙ append_assoc a (x ++ y ++ z) w

pub in_five : (a x y z w v : List ℕ) → a ++ x ++ y ++ z ++ w ++ v ≡ a ++ (x ++ y ++ z ++ w ++ v)
in_five a x y z w v = next v (in_four a x y z w) ∙ append_assoc a (x ++ y ++ z ++ w) v

pub in_six : (a x y z w v u : List ℕ) → a ++ x ++ y ++ z ++ w ++ v ++ u ≡ a ++ (x ++ y ++ z ++ w ++ v ++ u)
in_six a x y z w v u = next u (in_five a x y z w v) ∙ append_assoc a (x ++ y ++ z ++ w ++ v) u

-- What updates give to an accumulator in iteration order, and lane by lane.
use Rattle.std.specs.Prelude.{◌≡◌, ℕ, zero, suc, ◌+◌, ◌<◌, ◌≤◌, ℤ, List, [], ◌∷◌, Some, true, bytes_eq, if◌then◌else◌}
use Rattle.std.specs.List.{list_any}
use Rattle.kernel_tree.specs.declared.ops.Ty.{Ty}
use Rattle.kernel_tree.specs.declared.ops.UpdateOp.{UpdateOp}
use Rattle.kernel_meaning.specs.Operators.{operator_of}
use Rattle.kernel_meaning.specs.Eval.{Names, is_named, value_at}
use Rattle.vector_order.specs.Orders.{Share, Lane}
use Rattle.vector_order.specs.Shares.{apply_lanes}
use Rattle.lane_emit.specs.Right.{IsOf}
use Rattle.lane_emit.specs.Joins.{joined, identity}

-- an accumulator after the values of some updates, in order
abbrev pub after_all : UpdateOp → Ty → ℤ → List ℤ → ℤ
after_all op t acc [] = acc
after_all op t acc (v ∷ vs) = after_all op t (joined op t acc v) vs

-- the same over n lanes from lane i on, lane after lane
abbrev pub after_lanes : UpdateOp → Ty → (n i : ℕ) → (ℕ → List ℤ) → ℤ → ℤ
after_lanes op t zero i given acc = acc
after_lanes op t (suc n) i given acc = after_lanes op t n (i + 1) given (after_all op t acc (given i))

-- what one lane took in
abbrev pub taken : UpdateOp → Ty → List ℤ → ℤ
taken op t vs = after_all op t (identity op t) vs

-- n lanes together
abbrev pub together : UpdateOp → Ty → ℕ → (ℕ → ℤ) → ℤ
together op t zero lane = identity op t
together op t (suc n) lane = joined op t (together op t n lane) (lane n)

-- the values of all lanes are of the type
abbrev pub AreOf : Ty → List ℤ → Type 0
AreOf t [] = Unit {0}
AreOf t (v ∷ vs) = IsOf t v × AreOf t vs

-- The updates of n lanes from lane i on, applied in iteration order to an accumulator: the same as what the lanes took in
-- joined together, and then with the accumulator.
abbrev pub FoldIsOrdered : Type 0
FoldIsOrdered =
    (op : UpdateOp) (t : Ty) (n i : ℕ) (given : ℕ → List ℤ) (acc : ℤ) → IsOf t acc → ((j : ℕ) → i ≤ j → j < i + n → AreOf t (given j))
    → after_lanes op t n i given acc ≡ joined op t acc (together op t n (λ e. taken op t (given (i + e))))

-- Lanes that each hold what they took in before, after one more chunk: together they hold what they held together, and what
-- the chunk gave. Lanes past the chunk take in nothing.
abbrev pub ChunkIsTaken : Type 0
ChunkIsTaken =
    (op : UpdateOp) (t : Ty) (n : ℕ) (lane given : ℕ → ℤ) → ((e : ℕ) → e < n → IsOf t (lane e) × IsOf t (given e))
    → together op t n (λ e. joined op t (lane e) (given e)) ≡ joined op t (together op t n lane) (together op t n given)

-- ---- shares

-- the values that shares give to an accumulator, in order
abbrev pub given_to : List ℕ → List Share → List ℤ
given_to x [] = []
given_to x (s ∷ shares) = if bytes_eq s.name x then s.value ∷ given_to x shares else given_to x shares

-- all shares of an accumulator have its operator and its type
abbrev pub ShareAlike : List ℕ → UpdateOp → Ty → List Share → Type 0
ShareAlike x op t [] = Unit {0}
ShareAlike x op t (s ∷ shares) = (bytes_eq s.name x ≡ true → (s.op ≡ operator_of op) × (s.type ≡ Some t)) × ShareAlike x op t shares

-- The value of an accumulator after the shares of n lanes, applied in iteration order: what the lanes took in for it, joined
-- together and then with its value before.
abbrev pub AccumulatorIsFold : Type 0
AccumulatorIsFold =
    (x : List ℕ) (op : UpdateOp) (t : Ty) (n i : ℕ) (lane : ℕ → Lane) (names : Names) → list_any (is_named x) names ≡ true → IsOf t (value_at names x)
    → ((j : ℕ) → i ≤ j → j < i + n → ShareAlike x op t (lane j).shares × AreOf t (given_to x (lane j).shares))
    → value_at (apply_lanes n i lane names) x ≡ joined op t (value_at names x) (together op t n (λ e. taken op t (given_to x (lane (i + e)).shares)))

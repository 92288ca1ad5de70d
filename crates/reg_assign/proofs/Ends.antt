-- The first register whose interval has ended, and that there is none.
use Rattle.std.proofs.Common.{◌≡◌, ℕ, suc, ◌<◌, ◌≤◌, Bool, true, false, cond, List, [], ◌∷◌, length, get_or, Some, None, refl, ap, arith}
use Rattle.std.specs.Prelude.{nat_lt, slice_index, position}
use Rattle.std.specs.List.{count_by, position_or_len}
use Rattle.std.proofs.lemmas.Bool.{leb-true, ltb-true, ltb-false, leb-false, lt-ltb}
use Rattle.std.proofs.lemmas.List.Sums.{sum_by-cons, fails_before_first, passes_at_first}
use Rattle.reg_assign.specs.Taking.{is_ended, is_needed}
use Rattle.reg_assign.proofs.Overlaps.{one}

chosen : (b : Bool) (k r : ℕ) → cond b (Some k) None ≡ Some r → (b ≡ true) × (k ≡ r)
chosen true k r e = (refl, cc)
chosen false k r e = absurd cc

test_false_of_none : (b : Bool) (k : ℕ) → cond b (Some k) None ≡ None → b ≡ false
test_false_of_none true k e = absurd cc
test_false_of_none false k e = refl

pub first-ended : (p : ℕ) (ends : List ℕ) (r : ℕ) → position (is_ended p) ends ≡ Some r → (r < length ends) × (slice_index ends r ≤ p)
first-ended p ends r e =
    let c = chosen (nat_lt (position_or_len (is_ended p) ends) (length ends)) (position_or_len (is_ended p) ends) r e in
    let lt = ltb-true (position_or_len (is_ended p) ends) (length ends) c.0 in
    let at = leb-true (slice_index ends (position_or_len (is_ended p) ends)) p (passes_at_first (is_ended p) ends 0 lt) in
    let q = ap (slice_index ends) c.1 in
    let s = c.1 in
    (omega (arith, lt, s), omega (arith, at, q))

-- where none of them has ended, all are needed
all-needed : (p : ℕ) (ends : List ℕ) → ((k : ℕ) → k < length ends → is_ended p (get_or ends k 0) ≡ false) → count_by (is_needed p) ends ≡ length ends
all-needed p [] h = refl
all-needed p (x ∷ xs) h =
    let a = sum_by-cons (λ u. one (is_needed p u)) x xs in
    let b = all-needed p xs (λ k l. h (suc k) (omega arith)) in
    let c = leb-false x p (h 0 (omega arith)) in
    let d = ap one (lt-ltb p x (omega (arith, c))) in
    omega (arith, a, b, d)

pub none-ended : (p : ℕ) (ends : List ℕ) → position (is_ended p) ends ≡ None → count_by (is_needed p) ends ≡ length ends
none-ended p ends e =
    let le = ltb-false (position_or_len (is_ended p) ends) (length ends) (test_false_of_none (nat_lt (position_or_len (is_ended p) ends) (length ends)) (position_or_len (is_ended p) ends) e) in
    all-needed p ends (λ k l. fails_before_first (is_ended p) ends k 0 (omega (arith, le)))

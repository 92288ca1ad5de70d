-- The predicate of the lanes that have come, bit by bit.
use Rattle.std.proofs.Common.{◌≡◌, ℕ, zero, suc, ◌+◌, ◌*◌, ◌/◌, ◌%◌, ◌<◌, ◌≤◌, Bool, true, false, ◌&&◌, ◌||◌, eqb, ltb, List, Option, Some, None, refl, sym, ap, ap₂, ◌∙◌, arith, add-one, ⊎_elim}
use Rattle.std.proofs.lemmas.Bool.{cases_lt, cases_eq, eq-eqb, ne_eqb, lt-ltb, le-ltb, or_right}
use Rattle.std.proofs.Math.Nat.{mul-suc, mul-le-mul_left, mul-mod_right, div-add-mod}
use Rattle.std.specs.Prelude.{if◌then◌else◌}
use Rattle.guest_types.specs.declared.length.Width.{Width}
use Rattle.guest_types.specs.Length.{width_bytes}
use Rattle.guest_types.specs.Elements.{bit, element_bit, active, predicate, first_true}
use Rattle.guest_types.specs.Lanes.{broken}
use Rattle.guest_types.proofs.Predicates.{bit-bits_of}
use Rattle.guest_types.proofs.Folds.{broken-more}
use Rattle.guest_types.proofs.Widths.{some-bytes}
use Rattle.first_fault.specs.Prefix.{IsTop}

pub lane_bits_within : (k n e : ℕ) → e < n → k * e + k ≤ k * n
lane_bits_within k n e lt = let u : suc e ≤ n = lt in omega (arith, mul-suc k e, mul-le-mul_left k u)

pub scaled : (k e m : ℕ) → 0 < k → ltb (k * e) (k * m) ≡ ltb e m
scaled k e m some =
    ⊎_elim
    (λ lt. let up : k * e + k ≤ k * m = lane_bits_within k m e lt in lt-ltb (k * e) (k * m) (omega (arith, up, some)) ∙ sym (lt-ltb e m lt))
    (λ ge. let up : k * m ≤ k * e = mul-le-mul_left k ge in le-ltb (k * e) (k * m) up ∙ sym (le-ltb e m ge))
    (cases_lt e m)

pub top_active : (w : Width) (n : ℕ) (p : List ℕ) → IsTop w n p → (e : ℕ) → width_bytes w * e < 256 → active w p e ≡ ltb e n
top_active w n p top e lt =
    top (width_bytes w * e) lt ∙ ap (λ b. b && ltb (width_bytes w * e) (width_bytes w * n)) (eq-eqb (width_bytes w * e % width_bytes w) 0 (mul-mod_right (width_bytes w) e))
    ∙ scaled (width_bytes w) e n (some-bytes w)

-- fewer elements
pub narrow : (k : ℕ) (old new : ℕ → Bool) (m n : ℕ) (x : ℕ → Bool) → 0 < k → ((j : ℕ) → j < 256 → old j ≡ (eqb (j % k) 0 && ltb j (k * m))) → n ≤ m → ((e : ℕ) → e < m → x (k * e) ≡ ltb e n) → ((j : ℕ) → j < 256 → new j ≡ (old j && x j))
    → (j : ℕ) → j < 256 → new j ≡ (eqb (j % k) 0 && ltb j (k * n))
narrow k old new m n x some top le h bits j lt =
    bits j lt ∙ ap (λ b. b && x j) (top j lt)
    ∙ ⊎_elim
    (λ z.
    let e = j / k in
    let place : j ≡ k * e = omega (arith, div-add-mod j k, z) in
    let back : x j ≡ x (k * e) = ap x place in
    let low : ltb j (k * m) ≡ ltb e m = ap (λ j. ltb j (k * m)) place ∙ scaled k e m some in
    let lown : ltb j (k * n) ≡ ltb e n = ap (λ j. ltb j (k * n)) place ∙ scaled k e n some in
    ap (λ b. (b && ltb j (k * m)) && x j) (eq-eqb (j % k) 0 z) ∙ ap₂ (λ a b. a && b) low back
    ∙ ⊎_elim
    (λ em. ap (λ b. b && x (k * e)) (lt-ltb e m em) ∙ h e em ∙ sym lown)
    (λ me. ap (λ b. b && x (k * e)) (le-ltb e m me) ∙ sym (lown ∙ le-ltb e n (omega (arith, le, me))))
    (cases_lt e m)
    ∙ sym (ap (λ b. b && ltb j (k * n)) (eq-eqb (j % k) 0 z)))
    (λ nz. ap (λ b. (b && ltb j (k * m)) && x j) (ne_eqb (j % k) 0 nz) ∙ sym (ap (λ b. b && ltb j (k * n)) (ne_eqb (j % k) 0 nz)))
    (cases_eq (j % k) 0)

-- ---- BRKB

pub is_broken : (pg p : List ℕ) (n b : ℕ) → b < n → (bit pg b && bit p b) ≡ true → broken pg p n ≡ true
is_broken pg p zero b lt h = absurd (omega (arith, lt))
is_broken pg p (suc n) b lt h =
    ap (broken pg p) (sym (add-one n)) ∙ broken-more pg p n
    ∙ ⊎_elim
    (λ less. ap (λ a. a || (bit pg n && bit p n)) (is_broken pg p n b less h))
    (λ ge. let e : b ≡ n = omega (arith, lt, ge) in or_right (broken pg p n) _ (ap (λ b. bit pg b && bit p b) (sym e) ∙ h))
    (cases_lt b n)

-- ---- the first element at which a test is true

pub data First (test : ℕ → Bool) (n e : ℕ) : Option ℕ → Type 0 where
  missing : ((j : ℕ) → e ≤ j → j < e + n → test j ≡ false) → First test n e None
  found : (v : ℕ) → e ≤ v → v < e + n → test v ≡ true → ((j : ℕ) → e ≤ j → j < v → test j ≡ false) → First test n e (Some v)

pub first_is : (test : ℕ → Bool) (n e : ℕ) → First test n e (first_true test n e)
first_is test zero e = missing (λ j le lt. absurd (omega (arith, le, lt)))
first_is test (suc n) e = by_test (test e) refl (first_is test n (e + 1))
  where
    by_test : {o : Option ℕ} (b : Bool) → test e ≡ b → First test n (e + 1) o → First test (suc n) e (if b then Some e else o)
    by_test true h f = found e (omega arith) (omega arith) h (λ j le lt. absurd (omega (arith, le, lt)))
    by_test false h (missing g) = missing (λ j le lt. ⊎_elim (λ eq. ap test eq ∙ h) (λ ne. g j (omega (arith, le, ne)) (omega (arith, lt))) (cases_eq j e))
    by_test false h (found v le lt yes' g) = found v (omega (arith, le)) (omega (arith, lt)) yes' (λ j lo hi. ⊎_elim (λ eq. ap test eq ∙ h) (λ ne. g j (omega (arith, lo, ne)) hi) (cases_eq j e))

-- ---- a predicate that is made

-- one of n elements of which exactly the first m are true, as WHILELO makes it
pub top_made : (w : Width) (h : ℕ → Bool) (n m : ℕ) → m ≤ n → ((e : ℕ) → e < n → h e ≡ ltb e m) → IsTop w m (predicate (width_bytes w) h n)
top_made w h n m le first j lt =
    let k = width_bytes w in
    let some = some-bytes w in
    bit-bits_of (element_bit k h n) 32 j (omega (arith, lt))
    ∙ ⊎_elim
    (λ z.
    let e = j / k in
    let place : j ≡ k * e = omega (arith, div-add-mod j k, z) in
    let up : ltb j (k * n) ≡ ltb e n = ap (λ j. ltb j (k * n)) place ∙ scaled k e n some in
    let low : ltb j (k * m) ≡ ltb e m = ap (λ j. ltb j (k * m)) place ∙ scaled k e m some in
    ap (λ b. b && ltb j (k * n) && h e) (eq-eqb (j % k) 0 z)
    ∙ ap (λ b. b && h e) up
    ∙ ⊎_elim (λ en. ap (λ b. b && h e) (lt-ltb e n en) ∙ first e en) (λ ge. ap (λ b. b && h e) (le-ltb e n ge) ∙ sym (le-ltb e m (omega (arith, le, ge)))) (cases_lt e n)
    ∙ sym low ∙ ap (λ b. b && ltb j (k * m)) (sym (eq-eqb (j % k) 0 z)))
    (λ nz. ap (λ b. b && ltb j (k * n) && h (j / k)) (ne_eqb (j % k) 0 nz) ∙ sym (ap (λ b. b && ltb j (k * m)) (ne_eqb (j % k) 0 nz)))
    (cases_eq (j % k) 0)

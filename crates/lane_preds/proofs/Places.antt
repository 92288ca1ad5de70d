-- The first and the last place at which a test is true.
use Rattle.std.proofs.Common.{◌≡◌, ◌≢◌, ℕ, zero, suc, ◌+◌, ◌-◌, ◌*◌, ◌/◌, ◌%◌, ◌^◌, ◌<◌, ◌≤◌, List, Bool, true, false, not, cond, eqb, map, length, get_or, refl, sym, ap, ap₂, ◌∙◌, subst, arith, inl, inr, w8, w64}
use Rattle.std.specs.Prelude.{Option, Some, None}
use Rattle.std.specs.Int.{bit_at}
use Rattle.std.proofs.lemmas.Bool.{cases_lt, cases_eq, eqb-true}
use Rattle.std.proofs.lemmas.List.{get_or-map, length-map}
use Rattle.std.proofs.lemmas.Nat.{leading_top}
use Rattle.std.proofs.lemmas.Nat.Bits.{bit_at-trailing_zeros, bit_at-zero, bit_at_above}
use Rattle.std.proofs.lemmas.Simd.{bit_mask_l, mask_l-lt}
use Rattle.std.proofs.Math.Nat.{div-eq_of_lt, pow-suc, add-mul-div_left}
use lib.Count.{count_leading_zeros, count_trailing_zeros}
use lib.Lanes.{mask_l}
use Rattle.guest_types.specs.Elements.{bit, first_true, last_true}
use Rattle.lane_preds.specs.Bits.{first_set, last_set, is_nonzero, nonzero_bytes}

-- ---- the first

-- what the first of n places from `low` on is
pub data FirstOf (test : ℕ → Bool) (low n : ℕ) : Option ℕ → Type 0 where
  Nowhere : ((j : ℕ) → low ≤ j → j < low + n → test j ≡ false) → FirstOf test low n None
  First : (f : ℕ) → low ≤ f → f < low + n → test f ≡ true → ((j : ℕ) → low ≤ j → j < f → test j ≡ false) → FirstOf test low n (Some f)

first-go : (test : ℕ → Bool) (low n : ℕ) (t : Bool) → test low ≡ t → (o : Option ℕ) → FirstOf test (low + 1) n o → FirstOf test low (suc n) (cond t (Some low) o)
first-go test low n true e o rest = First low (omega arith) (omega arith) e (λ j a b. absurd (omega arith))
first-go test low n false e None (Nowhere none) =
    Nowhere (λ j a b. elim (cases_eq j low) [
      | inl same ↦ ap test same ∙ e
      | inr other ↦ none j (omega arith) (omega arith)
    ])
first-go test low n false e (Some _) (First f a b on none) =
    First f (omega arith) (omega arith) on (λ j l u. elim (cases_eq j low) [
      | inl same ↦ ap test same ∙ e
      | inr other ↦ none j (omega arith) u
    ])

pub first-of : (test : ℕ → Bool) (n low : ℕ) → FirstOf test low n (first_true test n low)
first-of test zero low = Nowhere (λ j a b. absurd (omega arith))
first-of test (suc n) low = first-go test low n (test low) refl (first_true test n (low + 1)) (first-of test n (low + 1))

-- there is one first place
first-one : (test : ℕ → Bool) (low n f : ℕ) (o : Option ℕ) → FirstOf test low n o → low ≤ f → f < low + n → test f ≡ true → ((j : ℕ) → low ≤ j → j < f → test j ≡ false) → o ≡ Some f
first-one test low n f None (Nowhere none) a b on before = let clash : true ≡ false = sym on ∙ none f a b in cc
first-one test low n f (Some _) (First g c d found first) a b on before =
    elim (cases_eq g f) [
      | inl same ↦ ap Some same
      | inr other ↦ elim (cases_lt g f) [
        | inl l ↦ (let clash : true ≡ false = sym found ∙ before g c l in cc)
        | inr u ↦ (let clash : true ≡ false = sym on ∙ first f a (omega arith) in cc)
      ]
    ]

first-none : (test : ℕ → Bool) (low n : ℕ) (o : Option ℕ) → FirstOf test low n o → ((j : ℕ) → low ≤ j → j < low + n → test j ≡ false) → o ≡ None
first-none test low n None h none = refl
first-none test low n (Some _) (First f a b on before) none = let clash : true ≡ false = sym on ∙ none f a b in cc

pub first-is : (test : ℕ → Bool) (n f : ℕ) → f < n → test f ≡ true → ((j : ℕ) → j < f → test j ≡ false) → first_true test n 0 ≡ Some f
first-is test n f inside on before = first-one test 0 n f (first_true test n 0) (first-of test n 0) (omega arith) (omega arith) on (λ j a b. before j b)

pub first-nowhere : (test : ℕ → Bool) (n : ℕ) → ((j : ℕ) → j < n → test j ≡ false) → first_true test n 0 ≡ None
first-nowhere test n none = first-none test 0 n (first_true test n 0) (first-of test n 0) (λ j a b. none j (omega arith))

-- ---- the last

pub data LastOf (test : ℕ → Bool) (n : ℕ) : Option ℕ → Type 0 where
  Never : ((j : ℕ) → j < n → test j ≡ false) → LastOf test n None
  Last : (f : ℕ) → f < n → test f ≡ true → ((j : ℕ) → f < j → j < n → test j ≡ false) → LastOf test n (Some f)

last-go : (test : ℕ → Bool) (n : ℕ) (t : Bool) → test n ≡ t → (o : Option ℕ) → LastOf test n o → LastOf test (suc n) (cond t (Some n) o)
last-go test n true e o rest = Last n (omega arith) e (λ j a b. absurd (omega arith))
last-go test n false e None (Never none) =
    Never (λ j b. elim (cases_eq j n) [
      | inl same ↦ ap test same ∙ e
      | inr other ↦ none j (omega arith)
    ])
last-go test n false e (Some _) (Last f a on none) =
    Last f (omega arith) on (λ j l u. elim (cases_eq j n) [
      | inl same ↦ ap test same ∙ e
      | inr other ↦ none j l (omega arith)
    ])

pub last-of : (test : ℕ → Bool) (n : ℕ) → LastOf test n (last_true test n)
last-of test zero = Never (λ j b. absurd (omega arith))
last-of test (suc n) = last-go test n (test n) refl (last_true test n) (last-of test n)

last-one : (test : ℕ → Bool) (n f : ℕ) (o : Option ℕ) → LastOf test n o → f < n → test f ≡ true → ((j : ℕ) → f < j → j < n → test j ≡ false) → o ≡ Some f
last-one test n f None (Never none) b on past = let clash : true ≡ false = sym on ∙ none f b in cc
last-one test n f (Some _) (Last g d found later) b on past =
    elim (cases_eq g f) [
      | inl same ↦ ap Some same
      | inr other ↦ elim (cases_lt g f) [
        | inl l ↦ (let clash : true ≡ false = sym on ∙ later f l b in cc)
        | inr u ↦ (let clash : true ≡ false = sym found ∙ past g (omega arith) d in cc)
      ]
    ]

last-none : (test : ℕ → Bool) (n : ℕ) (o : Option ℕ) → LastOf test n o → ((j : ℕ) → j < n → test j ≡ false) → o ≡ None
last-none test n None h none = refl
last-none test n (Some _) (Last f b on past) none = let clash : true ≡ false = sym on ∙ none f b in cc

pub last-is : (test : ℕ → Bool) (n f : ℕ) → f < n → test f ≡ true → ((j : ℕ) → f < j → j < n → test j ≡ false) → last_true test n ≡ Some f
last-is test n f inside on past = last-one test n f (last_true test n) (last-of test n) inside on past

pub last-never : (test : ℕ → Bool) (n : ℕ) → ((j : ℕ) → j < n → test j ≡ false) → last_true test n ≡ None
last-never test n none = last-none test n (last_true test n) (last-of test n) none

-- ---- bytes that are not 0

bit-is_one : (t : Bool) (n : ℕ) → n ≡ cond t 1 0 → n ≡ 1 → t ≡ true
bit-is_one true n e one = refl
bit-is_one false n e one = absurd (omega arith)

bit-is_zero : (t : Bool) (n : ℕ) → n ≡ cond t 1 0 → n ≡ 0 → t ≡ false
bit-is_zero true n e none = absurd (omega arith)
bit-is_zero false n e none = refl

nonzero-true : (b : ℕ) → is_nonzero b ≡ true → 0 < b
nonzero-true zero e = cc
nonzero-true (suc b) e = omega arith

nonzero-false : (b : ℕ) → is_nonzero b ≡ false → b ≡ 0
nonzero-false b e = go (eqb b 0) refl e
  where
    go : (t : Bool) → eqb b 0 ≡ t → not t ≡ false → b ≡ 0
    go true f h = eqb-true b 0 f
    go false f h = cc

module _ (x : List ℕ) (long : length x ≡ 32) where
  nonzero-below : nonzero_bytes x < 2 ^ 32
  nonzero-below = subst (λ n. mask_l (map is_nonzero x) < 2 ^ n) (length-map x is_nonzero ∙ long) (mask_l-lt (map is_nonzero x))

  -- a byte whose bit is 1 is not 0
  byte-set : (i : ℕ) → bit_at (nonzero_bytes x) i ≡ 1 → (i < 32) × (0 < get_or x i 0)
  byte-set i one =
      elim (cases_lt i 32) [
        | inr past ↦ absurd (let none : bit_at (nonzero_bytes x) i ≡ 0 = bit_at_above (nonzero_bytes x) 32 i nonzero-below past in omega arith)
        | inl inside ↦ (
          inside,
          nonzero-true (get_or x i 0)
              (sym (get_or-map is_nonzero x i 0 false (omega arith)) ∙ bit-is_one (get_or (map is_nonzero x) i false) (bit_at (nonzero_bytes x) i) (bit_mask_l (map is_nonzero x) i) one),
        )
      ]

  byte-clear : (i : ℕ) → i < 32 → bit_at (nonzero_bytes x) i ≡ 0 → get_or x i 0 ≡ 0
  byte-clear i inside none =
      nonzero-false (get_or x i 0)
      (sym (get_or-map is_nonzero x i 0 false (omega arith)) ∙ bit-is_zero (get_or (map is_nonzero x) i false) (bit_at (nonzero_bytes x) i) (bit_mask_l (map is_nonzero x) i) none)

  bit-clear : (j : ℕ) → get_or x (j / 8) 0 ≡ 0 → bit x j ≡ false
  bit-clear j e = ap (λ b. eqb (bit_at b (j % 8)) 1) e ∙ ap (λ b. eqb b 1) (bit_at-zero (j % 8))

  all-clear : nonzero_bytes x ≡ 0 → (j : ℕ) → j < 256 → bit x j ≡ false
  all-clear none j l =
      bit-clear j (byte-clear (j / 8) (omega arith) (ap (λ m. bit_at m (j / 8)) none ∙ bit_at-zero (j / 8)))

  pub first-empty : nonzero_bytes x ≡ 0 → first_set x ≡ None
  unfolding first_set
  first-empty none = first-nowhere (bit x) 256 (all-clear none)

  pub last-empty : nonzero_bytes x ≡ 0 → last_set x ≡ None
  unfolding last_set
  last-empty none = last-never (bit x) 256 (all-clear none)

  -- the lowest bit that is set
  pub lowest : ((i : ℕ) → get_or x i 0 < 256) → 0 < nonzero_bytes x
      → let i = count_trailing_zeros 64 (nonzero_bytes x) in
      let t = count_trailing_zeros 8 (get_or x i 0) in
      (i < 32) × (t < 8) × (first_set x ≡ Some (8 * i + t))
  unfolding first_set
  lowest small some =
      let i = count_trailing_zeros 64 (nonzero_bytes x) in
      let in_bytes = bit_at-trailing_zeros w64 (nonzero_bytes x) some (omega (arith, nonzero-below)) in
      let byte = byte-set i in_bytes.1 in
      let b = get_or x i 0 in
      let t = count_trailing_zeros 8 b in
      let in_byte = bit_at-trailing_zeros w8 b byte.1 (small i) in
      let low : t < 8 = in_byte.0 in
      let place : (8 * i + t) / 8 ≡ i = omega arith in
      let rest : (8 * i + t) % 8 ≡ t = omega arith in (
        byte.0,
        low,
        first-is (bit x) 256 (8 * i + t) (omega (arith, byte.0))
            (ap₂ (λ a s. eqb (bit_at (get_or x a 0) s) 1) place rest ∙ ap (λ n. eqb n 1) in_byte.1)
            (λ j l. elim (cases_lt (j / 8) i) [
              | inl before ↦ bit-clear j (byte-clear (j / 8) (omega (arith, byte.0)) (in_bytes.2 (j / 8) before))
              | inr same ↦
                  (let here : j / 8 ≡ i = omega arith in
                  ap (λ a. eqb (bit_at (get_or x a 0) (j % 8)) 1) here ∙ ap (λ n. eqb n 1) (in_byte.2 (j % 8) (omega arith)))
            ]),
      )

  -- the highest bit that is set
  top-bit : (k a : ℕ) → 0 < a → a < 2 ^ k → let f = k - 1 - count_leading_zeros k a in (count_leading_zeros k a + 1 ≤ k) × (bit_at a f ≡ 1) × ((i : ℕ) → f < i → bit_at a i ≡ 0)
  top-bit k a some inside =
      let top = leading_top k a some inside in
      let j = top.0 in
      let f = k - 1 - count_leading_zeros k a in
      let same : j ≡ f = omega (arith, top.1) in
      let least : 2 ^ j ≤ a = top.2 in
      let most : a < 2 ^ suc j = top.3 in (
        omega (arith, top.1),
        ap (bit_at a) (sym same) ∙ top-digit j a least most,
        λ i l. bit_at_above a (suc j) i most (omega arith),
      )
    where
      top-digit : (j a : ℕ) → 2 ^ j ≤ a → a < 2 ^ suc j → bit_at a j ≡ 1
      top-digit j a least most =
          let double : 2 ^ suc j ≡ 2 ^ j * 2 = pow-suc 2 j in
          let rest : a - 2 ^ j < 2 ^ j = omega arith in
          let whole : a ≡ (a - 2 ^ j) + 2 ^ j * 1 = omega arith in
          ap (λ n. n / 2 ^ j % 2) whole ∙ ap (λ n. n % 2) (add-mul-div_left (a - 2 ^ j) 1 (omega arith) ∙ ap (λ n. n + 1) (div-eq_of_lt rest))

  pub highest : ((i : ℕ) → get_or x i 0 < 256) → 0 < nonzero_bytes x
      → let i = 63 - count_leading_zeros 64 (nonzero_bytes x) in
      let t = count_leading_zeros 8 (get_or x i 0) in
      (i < 32) × (t + 1 ≤ 8) × (last_set x ≡ Some (8 * i + 7 - t))
  unfolding last_set
  highest small some =
      let i = 63 - count_leading_zeros 64 (nonzero_bytes x) in
      let in_bytes = top-bit 64 (nonzero_bytes x) some (omega (arith, nonzero-below)) in
      let byte = byte-set i in_bytes.1 in
      let b = get_or x i 0 in
      let t = count_leading_zeros 8 b in
      let in_byte = top-bit 8 b byte.1 (small i) in
      let low : t + 1 ≤ 8 = in_byte.0 in
      let f = 8 * i + 7 - t in
      let place : f / 8 ≡ i = omega arith in
      let rest : f % 8 ≡ 7 - t = omega arith in (
        byte.0,
        low,
        last-is (bit x) 256 f (omega (arith, byte.0))
            (ap₂ (λ a s. eqb (bit_at (get_or x a 0) s) 1) place rest ∙ ap (λ n. eqb n 1) in_byte.1)
            (λ j l u. elim (cases_lt i (j / 8)) [
              | inl past ↦ bit-clear j (byte-clear (j / 8) (omega arith) (in_bytes.2 (j / 8) past))
              | inr same ↦
                  (let here : j / 8 ≡ i = omega arith in
                  ap (λ a. eqb (bit_at (get_or x a 0) (j % 8)) 1) here ∙ ap (λ n. eqb n 1) (in_byte.2 (j % 8) (omega arith)))
            ]),
      )

-- the same of the number that the code has
pub record Lowest (x : List ℕ) (n : ℕ) : Type 0 where
  pub byte : count_trailing_zeros 64 n < 32
  pub value : first_set x ≡ Some (8 * count_trailing_zeros 64 n + count_trailing_zeros 8 (get_or x (count_trailing_zeros 64 n) 0))
  pub inside : 8 * count_trailing_zeros 64 n + count_trailing_zeros 8 (get_or x (count_trailing_zeros 64 n) 0) < 256

some-value : (n : ℕ) → n ≢ 0 → 0 < n
some-value zero h = absurd (h refl)
some-value (suc n) h = omega arith

pub lowest_from : (x : List ℕ) (n : ℕ) → length x ≡ 32 → ((i : ℕ) → get_or x i 0 < 256) → n ≡ nonzero_bytes x → n ≢ 0 → Lowest x n
lowest_from x n long small is some =
    subst (Lowest x) (sym is)
    (let h = lowest x long small (some-value (nonzero_bytes x) (λ e. some (is ∙ e))) in
    record { byte = h.0; value = h.2; inside = omega (arith, h.0, h.1) })

pub record Highest (x : List ℕ) (n : ℕ) : Type 0 where
  pub byte : 63 - count_leading_zeros 64 n < 32
  pub left : count_leading_zeros 8 (get_or x (63 - count_leading_zeros 64 n) 0) ≤ 8 * (63 - count_leading_zeros 64 n) + 7
  pub value : last_set x ≡ Some (8 * (63 - count_leading_zeros 64 n) + 7 - count_leading_zeros 8 (get_or x (63 - count_leading_zeros 64 n) 0))
  pub inside : 8 * (63 - count_leading_zeros 64 n) + 7 - count_leading_zeros 8 (get_or x (63 - count_leading_zeros 64 n) 0) < 256

pub highest_from : (x : List ℕ) (n : ℕ) → length x ≡ 32 → ((i : ℕ) → get_or x i 0 < 256) → n ≡ nonzero_bytes x → n ≢ 0 → Highest x n
highest_from x n long small is some =
    subst (Highest x) (sym is)
    (let h = highest x long small (some-value (nonzero_bytes x) (λ e. some (is ∙ e))) in
    record { byte = h.0; left = omega (arith, h.1); value = h.2; inside = omega (arith, h.0) })

-- The flags that a predicate sets.
use Rattle.std.proofs.Common.{◌≡◌, ℕ, zero, suc, ◌+◌, ◌-◌, ◌*◌, ◌/◌, ◌%◌, ◌<◌, ◌≤◌, List, Bool, true, false, not, ltb, ◌&&◌, min, bit_and, refl, sym, ap, ap₂, ◌∙◌, subst, arith, inl, inr}
use Rattle.std.specs.Prelude.{Option, Some, None, option_map, is_none, is_some}
use Rattle.std.proofs.lemmas.Bool.{cases_lt, eq-eqb, lt-ltb, le-ltb, ltb-true, and_left, and_right}
use Rattle.std.proofs.Math.Nat.{mul-mod_right, mul-div_cancel_left}
use Rattle.std.proofs.Math.Bool.{and_assoc}
use lib.Lanes.{zip2}
use mir.Val.{bool_byte}
use Rattle.guest_types.specs.declared.length.Width.{Width}
use Rattle.guest_types.specs.declared.length.Width.TheVariants.{B}
use Rattle.guest_types.specs.Length.{width_bytes, all_lanes}
use Rattle.guest_types.specs.Elements.{bit, active, element_bit, predicate, first_true, last_true, true_at, both, pred_test, nzcv}
use Rattle.guest_types.specs.Lanes.{all_at, while_at}
use Rattle.guest_types.proofs.Widths.{some-bytes, whole-register, lane-inside}
use Rattle.lane_blocks.proofs.Bits.{IsBits, bits-same, bits-and, bits-made}
use Rattle.lane_preds.specs.Bits.{starts, first_set, last_set}
use Rattle.lane_preds.proofs.Places.{FirstOf, Nowhere, First, first-of, LastOf, Never, Last, last-of, first-is, first-nowhere, last-is, last-never}
use Rattle.lane_preds.proofs.Patterns.{lane-of, below-lanes}

-- the bits of the elements that are true
pub elements-of-mask : (w : Width) (n : ℕ) (g : ℕ → Bool) (p s x : List ℕ) → ((e : ℕ) → bit p (width_bytes w * e) ≡ g e) → s ≡ predicate (width_bytes w) all_at n → IsBits (bit p) x → IsBits (element_bit (width_bytes w) g n) (zip2 bit_and s x)
elements-of-mask w n g p s x same is hx =
    bits-same (element_bit (width_bytes w) g n) (bits-and (bits-made (element_bit (width_bytes w) all_at n) s is) hx)
    (λ j l. go (starts (width_bytes w) j) j refl)
  where
    drop_true : (a b : Bool) → ((a && true) && b) ≡ (a && b)
    drop_true true b = refl
    drop_true false b = refl

    go : (t : Bool) (j : ℕ) → starts (width_bytes w) j ≡ t → (element_bit (width_bytes w) all_at n j && bit p j) ≡ element_bit (width_bytes w) g n j
    go true j on = drop_true (starts (width_bytes w) j && ltb j (width_bytes w * n)) (bit p j) ∙ ap (λ b. (starts (width_bytes w) j && ltb j (width_bytes w * n)) && b) (ap (bit p) (lane-of w j on) ∙ same (j / width_bytes w))
    go false j off =
        let none : (starts (width_bytes w) j && ltb j (width_bytes w * n)) ≡ false = and_left _ _ off in
        and_left _ _ (and_left _ _ none) ∙ sym (and_left _ _ none)

-- the bit of an element, and a bit at which none begins
pub element-on : (w : Width) (g : ℕ → Bool) (n e : ℕ) → e < n → element_bit (width_bytes w) g n (width_bytes w * e) ≡ g e
element-on w g n e l =
    let k = width_bytes w in
    ap (λ t. t && g (k * e / k)) (ap₂ (λ a b. a && b) (starts-at w e) (below-lanes w e n ∙ lt-ltb e n l)) ∙ ap g (place w e)
  where
    starts-at : (w : Width) (e : ℕ) → starts (width_bytes w) (width_bytes w * e) ≡ true
    starts-at w e = eq-eqb (width_bytes w * e % width_bytes w) 0 (mul-mod_right (width_bytes w) e)

    place : (w : Width) (e : ℕ) → width_bytes w * e / width_bytes w ≡ e
    place w e = mul-div_cancel_left e (some-bytes w)

pub element-off : (w : Width) (g : ℕ → Bool) (n j : ℕ) → ((e : ℕ) → e < n → width_bytes w * e ≡ j → g e ≡ false) → element_bit (width_bytes w) g n j ≡ false
element-off w g n j none =
    let k = width_bytes w in
    go (starts k j) refl (ltb j (k * n)) refl
  where
    go : (t : Bool) → starts (width_bytes w) j ≡ t → (u : Bool) → ltb j (width_bytes w * n) ≡ u → element_bit (width_bytes w) g n j ≡ false
    go false off u e = and_left _ _ (and_left _ _ off)
    go true on false off = and_left _ _ (and_right _ _ off)
    go true on true low =
        let k = width_bytes w in
        let place = lane-of w j on in
        let inside : ltb (j / k) n ≡ true = sym (below-lanes w (j / k) n) ∙ ap (λ i. ltb i (k * n)) (sym place) ∙ low in
        and_right _ _ (none (j / k) (ltb-true (j / k) n inside) (sym place))

-- the first and the last true element, as bits
abbrev pub bit_place : Width → ℕ → ℕ
bit_place w e = width_bytes w * e

module _ (w : Width) (g : ℕ → Bool) (n : ℕ) (x : List ℕ) (fits : n ≤ all_lanes w) (is : IsBits (element_bit (width_bytes w) g n) x) where
  lane_byte_below_256 : (e : ℕ) → e < n → width_bytes w * e < 256
  lane_byte_below_256 e l = lane-inside w e (all_lanes w) (omega arith) (omega (arith, whole-register w))

  on-bit : (e : ℕ) → e < n → g e ≡ true → bit x (width_bytes w * e) ≡ true
  on-bit e l on = is.bits (width_bytes w * e) (lane_byte_below_256 e l) ∙ element-on w g n e l ∙ on

  off-bit : (j : ℕ) → j < 256 → ((e : ℕ) → e < n → width_bytes w * e ≡ j → g e ≡ false) → bit x j ≡ false
  off-bit j l none = is.bits j l ∙ element-off w g n j none

  first-go : (o : Option ℕ) → FirstOf g 0 n o → first_true (bit x) 256 0 ≡ option_map (bit_place w) o
  first-go None (Nowhere none) = first-nowhere (bit x) 256 (λ j l. off-bit j l (λ e u same. none e (omega arith) (omega arith)))
  first-go (Some _) (First f a b on before) =
      first-is (bit x) 256 (width_bytes w * f) (lane_byte_below_256 f (omega arith)) (on-bit f (omega arith) on)
      (λ j l. off-bit j (omega (arith, lane_byte_below_256 f (omega arith))) (λ e u same. before e (omega arith) (scaled w e f (subst (λ i. i < width_bytes w * f) (sym same) l))))
    where
      scaled : (w : Width) (e f : ℕ) → width_bytes w * e < width_bytes w * f → e < f
      scaled B e f l = omega arith
      scaled other e f l = omega arith

  pub first-element : first_set x ≡ option_map (bit_place w) (first_true g n 0)
  unfolding first_set
  first-element = first-go (first_true g n 0) (first-of g n 0)

  last-go : (o : Option ℕ) → LastOf g n o → last_true (bit x) 256 ≡ option_map (bit_place w) o
  last-go None (Never none) = last-never (bit x) 256 (λ j l. off-bit j l (λ e u same. none e u))
  last-go (Some _) (Last f b on past) =
      last-is (bit x) 256 (width_bytes w * f) (lane_byte_below_256 f b) (on-bit f b on)
      (λ j l u. off-bit j u (λ e v same. past e (scaled w f e (subst (λ i. width_bytes w * f < i) (sym same) l)) v))
    where
      scaled : (w : Width) (e f : ℕ) → width_bytes w * e < width_bytes w * f → e < f
      scaled B e f l = omega arith
      scaled other e f l = omega arith

  pub last-element : last_set x ≡ option_map (bit_place w) (last_true g n)
  unfolding last_set
  last-element = last-go (last_true g n) (last-of g n)

-- a question about the element that was found
pub true-at-place : (w : Width) (p : List ℕ) (o : Option ℕ) → true_at (bit p) (option_map (bit_place w) o) ≡ true_at (active w p) o
true-at-place w p None = refl
true-at-place w p (Some e) = refl

pub none-mapped : (w : Width) (o : Option ℕ) → is_none (option_map (bit_place w) o) ≡ is_none o
none-mapped w None = refl
none-mapped w (Some e) = refl

flag-number : (n z c : Bool) → 8 * bool_byte n + 4 * bool_byte z + 2 * bool_byte (not c) ≡ nzcv (record { n = n; z = z; c = not c; v = false })
flag-number true true true = refl
flag-number true true false = refl
flag-number true false true = refl
flag-number true false false = refl
flag-number false true true = refl
flag-number false true false = refl
flag-number false false true = refl
flag-number false false false = refl

-- the number of the flags, from what the code finds of a mask and an outcome
pub flags-are : (w : Width) (n : ℕ) (mask outcome s x y : List ℕ) (a b : Bool) (o : Option ℕ) → n ≤ all_lanes w → s ≡ predicate (width_bytes w) all_at n → IsBits (bit mask) x → IsBits (bit outcome) y
    → a ≡ true_at (bit outcome) (first_set (zip2 bit_and s x)) → b ≡ true_at (bit outcome) (last_set (zip2 bit_and s x)) → o ≡ first_set (zip2 bit_and (zip2 bit_and s x) y)
    → 8 * bool_byte a + 4 * bool_byte (is_none o) + 2 * bool_byte (not b) ≡ nzcv (pred_test (active w mask) (active w outcome) n)
flags-are w n mask outcome s x y a b o fits is hx hy is_a is_b is_o =
    let k = width_bytes w in
    let g = active w mask in
    let t = active w outcome in
    let h = elements-of-mask w n g mask s x (λ e. refl) is hx in
    let pair : IsBits (element_bit k (both g t) n) (zip2 bit_and (zip2 bit_and s x) y) =
    bits-same (element_bit k (both g t) n) (bits-and h hy)
    (λ j l. go g t (starts k j) j refl) in
    let first : a ≡ true_at t (first_true g n 0) = is_a ∙ ap (true_at (bit outcome)) (first-element w g n (zip2 bit_and s x) fits h) ∙ true-at-place w outcome (first_true g n 0) in
    let last : b ≡ true_at t (last_true g n) = is_b ∙ ap (true_at (bit outcome)) (last-element w g n (zip2 bit_and s x) fits h) ∙ true-at-place w outcome (last_true g n) in
    let none : is_none o ≡ is_none (first_true (both g t) n 0) = ap is_none (is_o ∙ first-element w (both g t) n (zip2 bit_and (zip2 bit_and s x) y) fits pair) ∙ none-mapped w (first_true (both g t) n 0) in
    flag-number a (is_none o) b
    ∙ ap (λ m. nzcv (record { n = m; z = is_none o; c = not b; v = false })) first
    ∙ ap (λ m. nzcv (record { n = true_at t (first_true g n 0); z = m; c = not b; v = false })) none
    ∙ ap (λ m. nzcv (record { n = true_at t (first_true g n 0); z = is_none (first_true (both g t) n 0); c = not m; v = false })) last
  where
    go : (g t : ℕ → Bool) (u : Bool) → (j : ℕ) → starts (width_bytes w) j ≡ u → (element_bit (width_bytes w) g n j && bit outcome j) ≡ element_bit (width_bytes w) (both g (active w outcome)) n j
    go g t true j on =
        let k = width_bytes w in
        ap (λ b. element_bit k g n j && b) (ap (bit outcome) (lane-of w j on))
        ∙ and_assoc (starts k j && ltb j (k * n)) (g (j / k)) (active w outcome (j / k))
    go g t false j off =
        let none : (starts (width_bytes w) j && ltb j (width_bytes w * n)) ≡ false = and_left _ _ off in
        and_left _ _ (and_left _ _ none) ∙ sym (and_left _ _ none)

pub none-is : (o : Option ℕ) (r : Bool) → is_some o ≡ not r → r ≡ is_none o
none-is o true e = sym (ap not e)
none-is o false e = sym (ap not e)

-- ---- the flags of WHILELO, by how many elements are true

flags-number : (n z c : Bool) → 8 * bool_byte n + 4 * bool_byte z + 2 * bool_byte c ≡ nzcv (record { n = n; z = z; c = c; v = false })
flags-number true true true = refl
flags-number true true false = refl
flags-number true false true = refl
flags-number true false false = refl
flags-number false true true = refl
flags-number false true false = refl
flags-number false false true = refl
flags-number false false false = refl

some-below : (m from to : ℕ) → ltb 0 (min (suc m) (to - from)) ≡ ltb (from + 0) to
some-below m from to =
    elim (cases_lt from to) [
      | inl l ↦ lt-ltb 0 (min (suc m) (to - from)) (omega arith) ∙ sym (lt-ltb (from + 0) to (omega arith))
      | inr g ↦ le-ltb 0 (min (suc m) (to - from)) (omega arith) ∙ sym (le-ltb (from + 0) to (omega arith))
    ]

none-below : (m from to : ℕ) → not (ltb 0 (min (suc m) (to - from))) ≡ is_none (first_true (both all_at (while_at from to)) (suc m) 0)
none-below m from to =
    elim (cases_lt from to) [
      | inl l ↦ ap not (lt-ltb 0 (min (suc m) (to - from)) (omega arith))
          ∙ sym (ap is_none (first-is (both all_at (while_at from to)) (suc m) 0 (omega arith) (lt-ltb (from + 0) to (omega arith)) (λ j u. absurd (omega arith))))
      | inr g ↦ ap not (le-ltb 0 (min (suc m) (to - from)) (omega arith))
          ∙ sym (ap is_none (first-nowhere (both all_at (while_at from to)) (suc m) (λ j u. le-ltb (from + j) to (omega arith))))
    ]

ends-before : (m from to : ℕ) → ltb (min (suc m) (to - from)) (suc m) ≡ not (ltb (from + m) to)
ends-before m from to =
    elim (cases_lt (from + m) to) [
      | inl l ↦ le-ltb (min (suc m) (to - from)) (suc m) (omega arith) ∙ sym (ap not (lt-ltb (from + m) to l))
      | inr g ↦ lt-ltb (min (suc m) (to - from)) (suc m) (omega arith) ∙ sym (ap not (le-ltb (from + m) to g))
    ]

pub while-flags : (n from to : ℕ) → 0 < n → let count = min n (to - from) in 8 * bool_byte (ltb 0 count) + 4 * bool_byte (not (ltb 0 count)) + 2 * bool_byte (ltb count n) ≡ nzcv (pred_test all_at (while_at from to) n)
while-flags zero from to some = absurd (omega arith)
while-flags (suc m) from to some =
    let count = min (suc m) (to - from) in
    flags-number (ltb 0 count) (not (ltb 0 count)) (ltb count (suc m))
    ∙ ap (λ b. nzcv (record { n = b; z = not (ltb 0 count); c = ltb count (suc m); v = false })) (some-below m from to)
    ∙ ap (λ b. nzcv (record { n = ltb (from + 0) to; z = b; c = ltb count (suc m); v = false })) (none-below m from to)
    ∙ ap (λ b. nzcv (record { n = ltb (from + 0) to; z = is_none (first_true (both all_at (while_at from to)) (suc m) 0); c = b; v = false })) (ends-before m from to)

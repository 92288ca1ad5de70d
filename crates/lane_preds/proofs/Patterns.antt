-- Predicates whose bits follow a rule.
use Rattle.std.proofs.Common.{◌≡◌, ℕ, zero, suc, ◌+◌, ◌-◌, ◌*◌, ◌/◌, ◌%◌, ◌<◌, ◌≤◌, List, Bool, true, false, not, cond, eqb, ltb, ◌&&◌, ◌||◌, min, length, get_or, map, replicate, bit_and, bit_or, bit_xor, refl, sym, ap, ap₂, ◌∙◌, subst, arith, inl, inr, w8}
use Rattle.std.specs.Prelude.{Option, Some, None}
use Rattle.std.specs.Int.{bit_at, bit_not}
use Rattle.std.proofs.lemmas.Bool.{cases_lt, cases_eq, eqb-true, lt-ltb, le-ltb, and_left, and_right, or_right, agree_below_at}
use Rattle.std.proofs.Math.Nat.{mod-one, div-one}
use Rattle.std.proofs.Math.Bool.{and_assoc}
use mathlib.Core.Bool.{and-true}
use mir.Val.{bool_byte}
use lib.Lanes.{zip2}
use Rattle.guest_types.specs.declared.length.Width.{Width}
use Rattle.guest_types.specs.declared.length.Width.TheVariants.{B, H, S, D}
use Rattle.guest_types.specs.declared.operation.PredOp.{PredOp}
use Rattle.guest_types.specs.declared.operation.PredOp.TheVariants.{And, Bic, Eor, Orr}
use Rattle.guest_types.specs.Length.{width_bytes}
use Rattle.guest_types.specs.Elements.{bit, bits_of, element_bit, predicate, first_true}
use Rattle.guest_types.specs.Lanes.{all_at, while_at, logic_at, logic_of, broken, brk_at, brk_of}
use Rattle.guest_types.proofs.AtWidths.{bits_of-ext}
use Rattle.guest_types.proofs.Predicates.{predicate-bytes}
use Rattle.guest_types.proofs.Folds.{broken-more, not_broken}
use Rattle.lane_blocks.specs.Blocks.{is_below}
use Rattle.lane_blocks.proofs.Lanes.{lanes-splat}
use Rattle.lane_blocks.proofs.Masks.{bits-lanes}
use Rattle.lane_blocks.proofs.Bits.{IsBits, bits-are, bits-made, bits-own, bits-is, bits-same, bits-and, bits-or, bits-xor, bits-not}
use Rattle.lane_preds.specs.Bits.{starts, first_set}
use Rattle.lane_preds.proofs.Places.{FirstOf, Nowhere, First, first-of}

-- ---- where elements begin

-- the byte of the bits at which elements of a width begin
abbrev pub start_byte : Width → ℕ
start_byte B = 255
start_byte H = 85
start_byte S = 17
start_byte D = 1

start-bit : (w : Width) (i t : ℕ) → t < 8 → eqb (bit_at (start_byte w) t) 1 ≡ starts (width_bytes w) (8 * i + t)
start-bit B i t l = agree_below_at (λ t. eqb (bit_at (start_byte B) t) 1) (λ t. eqb (t % 1) 0) 8 t refl l ∙ ap (λ r. eqb r 0) (mod-one t ∙ sym (mod-one (8 * i + t)))
start-bit H i t l = agree_below_at (λ t. eqb (bit_at (start_byte H) t) 1) (λ t. eqb (t % 2) 0) 8 t refl l ∙ ap (λ r. eqb r 0) (let same : t % 2 ≡ (8 * i + t) % 2 = omega arith in same)
start-bit S i t l = agree_below_at (λ t. eqb (bit_at (start_byte S) t) 1) (λ t. eqb (t % 4) 0) 8 t refl l ∙ ap (λ r. eqb r 0) (let same : t % 4 ≡ (8 * i + t) % 4 = omega arith in same)
start-bit D i t l = agree_below_at (λ t. eqb (bit_at (start_byte D) t) 1) (λ t. eqb (t % 8) 0) 8 t refl l ∙ ap (λ r. eqb r 0) (let same : t % 8 ≡ (8 * i + t) % 8 = omega arith in same)

start-small : (w : Width) → start_byte w < 256
start-small B = omega arith
start-small other = omega arith

pub starts-is : (w : Width) → replicate 32 (start_byte w) ≡ bits_of (starts (width_bytes w)) 32
starts-is w = bits-lanes (starts (width_bytes w)) (lanes-splat 32 (start_byte w)) (λ i. start-small w) (start-bit w)

-- ---- the first elements

pub first-elements : (k n : ℕ) (s b : List ℕ) → s ≡ bits_of (starts k) 32 → b ≡ bits_of (is_below (k * n)) 32 → zip2 bit_and s b ≡ predicate k all_at n
first-elements k n s b is_s is_b =
    bits-are (bits-same (element_bit k all_at n) (bits-and (bits-made (starts k) s is_s) (bits-made (is_below (k * n)) b is_b))
    (λ j l. sym (and-true (starts k j && ltb j (k * n)))))

-- element_bit at an element of a width
pub lane-of : (w : Width) (j : ℕ) → starts (width_bytes w) j ≡ true → j ≡ width_bytes w * (j / width_bytes w)
lane-of B j e = omega (arith, div-one j)
lane-of H j e = let none = eqb-true (j % 2) 0 e in omega arith
lane-of S j e = let none = eqb-true (j % 4) 0 e in omega arith
lane-of D j e = let none = eqb-true (j % 8) 0 e in omega arith

pub below-lanes : (w : Width) (e n : ℕ) → ltb (width_bytes w * e) (width_bytes w * n) ≡ ltb e n
below-lanes w e n =
    elim (cases_lt e n) [
      | inl l ↦ lt-ltb (width_bytes w * e) (width_bytes w * n) (scaled w e n l) ∙ sym (lt-ltb e n l)
      | inr g ↦ le-ltb (width_bytes w * e) (width_bytes w * n) (scaled_le w n e g) ∙ sym (le-ltb e n g)
    ]
  where
    scaled : (w : Width) (e n : ℕ) → e < n → width_bytes w * e < width_bytes w * n
    scaled B e n l = omega arith
    scaled other e n l = omega arith

    scaled_le : (w : Width) (e n : ℕ) → e ≤ n → width_bytes w * e ≤ width_bytes w * n
    scaled_le B e n l = omega arith
    scaled_le other e n l = omega arith

and-same : (a x y : Bool) → (a ≡ true → x ≡ y) → (a && x) ≡ (a && y)
and-same true x y same = same refl
and-same false x y same = refl

-- the bit of an element, in terms of the element
pub element-bit : (w : Width) (h g : ℕ → Bool) (n m j : ℕ) → ((e : ℕ) → (ltb e n && h e) ≡ (ltb e m && g e)) → element_bit (width_bytes w) h n j ≡ element_bit (width_bytes w) g m j
element-bit w h g n m j same =
    and_assoc (starts (width_bytes w) j) (ltb j (width_bytes w * n)) (h (j / width_bytes w))
    ∙ and-same (starts (width_bytes w) j) (ltb j (width_bytes w * n) && h (j / width_bytes w)) (ltb j (width_bytes w * m) && g (j / width_bytes w)) (λ on.
    let place = lane-of w j on in
    let e = j / width_bytes w in
    ap (λ t. t && h e) (ap (λ i. ltb i (width_bytes w * n)) place ∙ below-lanes w e n) ∙ same e
    ∙ sym (ap (λ t. t && g e) (ap (λ i. ltb i (width_bytes w * m)) place ∙ below-lanes w e m)))
    ∙ sym (and_assoc (starts (width_bytes w) j) (ltb j (width_bytes w * m)) (g (j / width_bytes w)))

pub predicate-same : (w : Width) (h g : ℕ → Bool) (n m : ℕ) → ((e : ℕ) → (ltb e n && h e) ≡ (ltb e m && g e)) → predicate (width_bytes w) h n ≡ predicate (width_bytes w) g m
predicate-same w h g n m same = bits_of-ext (element_bit (width_bytes w) h n) (element_bit (width_bytes w) g m) 32 (λ j l. element-bit w h g n m j same)

while-lane : (n from to e : ℕ) → (ltb e (min n (to - from)) && true) ≡ (ltb e n && ltb (from + e) to)
while-lane n from to e =
    and-true (ltb e (min n (to - from)))
    ∙ elim (cases_lt e n) [
      | inr past ↦ le-ltb e (min n (to - from)) (omega arith) ∙ sym (and_left (ltb e n) (ltb (from + e) to) (le-ltb e n past))
      | inl inside ↦
          elim (cases_lt (from + e) to) [
            | inl l ↦ lt-ltb e (min n (to - from)) (omega arith) ∙ sym (ap₂ (λ a b. a && b) (lt-ltb e n inside) (lt-ltb (from + e) to l))
            | inr g ↦ le-ltb e (min n (to - from)) (omega arith) ∙ sym (and_right (ltb e n) (ltb (from + e) to) (le-ltb (from + e) to g))
          ]
    ]

pub while-is : (w : Width) (n from to : ℕ) → predicate (width_bytes w) all_at (min n (to - from)) ≡ predicate (width_bytes w) (while_at from to) n
while-is w n from to = predicate-same w all_at (while_at from to) (min n (to - from)) n (while-lane n from to)

-- ---- operations bit by bit

-- a vector that was made of a predicate
pub of-predicate : (p x : List ℕ) → x ≡ p → length p ≡ 32 → ((i : ℕ) → get_or p i 0 < 256) → IsBits (bit p) x
of-predicate p x is long small = bits-is is (bits-own p long small)

module _ (pg l r x y z : List ℕ) (hg : IsBits (bit pg) x) (hl : IsBits (bit l) y) (hr : IsBits (bit r) z) where
  pub and-is : zip2 bit_and x (zip2 bit_and y z) ≡ logic_of And pg l r
  and-is = bits-are (bits-and hg (bits-and hl hr)) ∙ sym (predicate-bytes (logic_at And pg l r))

  pub bic-is : zip2 bit_and x (zip2 bit_and y (map (bit_not w8) z)) ≡ logic_of Bic pg l r
  bic-is = bits-are (bits-and hg (bits-and hl (bits-not hr))) ∙ sym (predicate-bytes (logic_at Bic pg l r))

  pub eor-is : zip2 bit_and x (zip2 bit_xor y z) ≡ logic_of Eor pg l r
  eor-is = bits-are (bits-and hg (bits-xor hl hr)) ∙ sym (predicate-bytes (logic_at Eor pg l r))

  pub orr-is : zip2 bit_and x (zip2 bit_or y z) ≡ logic_of Orr pg l r
  orr-is = bits-are (bits-and hg (bits-or hl hr)) ∙ sym (predicate-bytes (logic_at Orr pg l r))

pub by-pred : {xs : List ℕ} {op known : PredOp} (pg l r : List ℕ) → op ≡ known → xs ≡ logic_of known pg l r → xs ≡ logic_of op pg l r
by-pred {xs} pg l r is h = h ∙ ap (λ o. logic_of o pg l r) (sym is)

-- ---- the first bit at which both are set

broken-from : (pg p : List ℕ) (f n : ℕ) → f < n → (bit pg f && bit p f) ≡ true → broken pg p n ≡ true
broken-from pg p f zero l on = absurd (omega arith)
broken-from pg p f (suc n) l on =
    ap (broken pg p) (let next : suc n ≡ n + 1 = omega arith in next) ∙ broken-more pg p n
    ∙ elim (cases_eq f n) [
      | inl same ↦ or_right (broken pg p n) (bit pg n && bit p n) (ap (λ j. bit pg j && bit p j) (sym same) ∙ on)
      | inr other ↦ ap (λ b. b || (bit pg n && bit p n)) (broken-from pg p f n (omega arith) on)
    ]

-- the bits that are left below the limit
abbrev pub brk_limit : Bool → Option ℕ → ℕ
brk_limit after None = 256
brk_limit after (Some f) = f + bool_byte after

brk-below : (after : Bool) (pg p : List ℕ) (o : Option ℕ) → FirstOf (λ j. bit pg j && bit p j) 0 256 o → (j : ℕ) → j < 256 → ltb j (brk_limit after o) ≡ not (broken pg p (cond after j (j + 1)))
brk-below true pg p None (Nowhere none) j l = lt-ltb j 256 l ∙ sym (ap not (not_broken pg p j (λ i u. none i (omega arith) (omega arith))))
brk-below false pg p None (Nowhere none) j l = lt-ltb j 256 l ∙ sym (ap not (not_broken pg p (j + 1) (λ i u. none i (omega arith) (omega arith))))
brk-below true pg p (Some _) (First f a b on before) j l =
    elim (cases_lt f j) [
      | inl past ↦ le-ltb j (f + 1) (omega arith) ∙ sym (ap not (broken-from pg p f j past on))
      | inr here ↦ lt-ltb j (f + 1) (omega arith) ∙ sym (ap not (not_broken pg p j (λ i u. before i (omega arith) (omega arith))))
    ]
brk-below false pg p (Some _) (First f a b on before) j l =
    elim (cases_lt j f) [
      | inl under ↦ lt-ltb j (f + 0) (omega arith) ∙ sym (ap not (not_broken pg p (j + 1) (λ i u. before i (omega arith) (omega arith))))
      | inr here ↦ le-ltb j (f + 0) (omega arith) ∙ sym (ap not (broken-from pg p f (j + 1) (omega arith) on))
    ]

-- the first of the bits of a vector
pub set-is : (x : List ℕ) (h : ℕ → Bool) → IsBits h x → FirstOf h 0 256 (first_set x)
unfolding first_set
set-is x h is = carried h (first_true (bit x) 256 0) (λ j l. is.bits j l) (first-of (bit x) 256 0)
  where
    carried : (h : ℕ → Bool) (o : Option ℕ) → ((j : ℕ) → j < 256 → bit x j ≡ h j) → FirstOf (bit x) 0 256 o → FirstOf h 0 256 o
    carried h None same (Nowhere none) = Nowhere (λ j a b. sym (same j (omega arith)) ∙ none j a b)
    carried h (Some _) same (First f a b on before) = First f a b (sym (same f (omega arith)) ∙ on) (λ j l u. sym (same j (omega arith)) ∙ before j l u)

pub brk-is : (after : Bool) (pg p x y limits : List ℕ) (o : Option ℕ) → IsBits (bit pg) x → IsBits (bit p) y → o ≡ first_set (zip2 bit_and x y) → limits ≡ bits_of (is_below (brk_limit after o)) 32
    → zip2 bit_and x limits ≡ brk_of after pg p
brk-is after pg p x y limits o hg hp is is_limits =
    let first = subst (FirstOf (λ j. bit pg j && bit p j) 0 256) (sym is) (set-is (zip2 bit_and x y) (λ j. bit pg j && bit p j) (bits-and hg hp)) in
    bits-are (bits-same (brk_at after pg p) (bits-and hg (bits-made (is_below (brk_limit after o)) limits is_limits))
    (λ j l. ap (λ b. bit pg j && b) (brk-below after pg p o first j l)))
    ∙ sym (predicate-bytes (brk_at after pg p))

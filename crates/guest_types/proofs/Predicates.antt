-- Predicate registers, bit by bit.
use Rattle.std.proofs.Common.{◌≡◌, ℕ, zero, suc, ◌+◌, ◌-◌, ◌*◌, ◌/◌, ◌%◌, ◌^◌, ◌<◌, ◌≤◌, List, [], ◌∷◌, Bool, true, false, ◌&&◌, cond, eqb, ltb, map, length, get_or, replicate, refl, sym, ap, ap₂, ◌∙◌, subst, inl, inr, arith, add-one}
use Rattle.std.proofs.lemmas.Bool.{cases_eq, cases_lt, eq-eqb, ne_eqb, eqb-true, eqb-false, lt-ltb, le-ltb, and_left, and_right}
use Rattle.std.proofs.lemmas.List.{ext_get_or, get_or_past, get_or_append_left, get_or-append_right, get_or-map, length-append}
use Rattle.std.proofs.lemmas.Nat.Bits.{same_from_bits_below, bit_at-lt}
use Rattle.std.proofs.lemmas.Simd.{bit_mask_l, mask_l-lt}
use Rattle.std.proofs.Math.Nat.{mod-one, div-one, zero-div, zero-add, mul-suc, mul-zero, mul-le-mul_left, mul-mod_right, mul-div_cancel_left, div-add-mod}
use Rattle.std.specs.Int.{bit_at}
use Rattle.std.specs.List.{range_with_len}
use Rattle.guest_types.specs.Elements.{bit, byte_of_bits, bits_of, element_bit, predicate}

zeros : (n i : ℕ) → get_or (replicate {A = ℕ} n 0) i 0 ≡ 0
zeros zero i = refl
zeros (suc n) zero = refl
zeros (suc n) (suc i) = zeros n i

pub bit-none : (n i : ℕ) → bit (replicate n 0) i ≡ false
bit-none n i = ap (λ b. eqb (b / 2 ^ (i % 8) % 2) 1) (zeros n (i / 8)) ∙ ap (λ b. eqb (b % 2) 1) (zero-div (2 ^ (i % 8)))

-- ---- lists of bytes from bits
pub length-bits_of : (h : ℕ → Bool) (n : ℕ) → length (bits_of h n) ≡ n
unfolding bits_of
length-bits_of h zero = refl
length-bits_of h (suc n) = omega (arith, length-append (bits_of h n) (byte_of_bits h n ∷ []), length-bits_of h n)

pub byte-bits_of : (h : ℕ → Bool) (n i : ℕ) → i < n → get_or (bits_of h n) i 0 ≡ byte_of_bits h i
unfolding bits_of
byte-bits_of h zero i l = absurd (omega arith)
byte-bits_of h (suc n) i l =
    let long = length-bits_of h n in
    elim (cases_lt i n) [
      | inl b ↦ get_or_append_left (bits_of h n) (byte_of_bits h n ∷ []) 0 i (omega arith) ∙ byte-bits_of h n i b
      | inr g ↦
          let same : n ≡ i = omega arith in
          get_or-append_right (bits_of h n) (byte_of_bits h n ∷ []) n i 0 long g
          ∙ ap (λ j. get_or (byte_of_bits h n ∷ []) j 0) (let z : i - n ≡ 0 = omega arith in z) ∙ ap (byte_of_bits h) same
    ]

pub range-at : (a n t : ℕ) → t < n → get_or (range_with_len a n) t 0 ≡ a + t
range-at a zero t l = absurd (omega arith)
range-at a (suc n) zero l = omega arith
range-at a (suc n) (suc t) l = range-at (a + 1) n t (omega arith) ∙ omega arith

pub bit-of_byte : (h : ℕ → Bool) (i t : ℕ) → t < 8 → bit_at (byte_of_bits h i) t ≡ cond (h (8 * i + t)) 1 0
bit-of_byte h i t l =
    bit_mask_l (map (λ s. h (8 * i + s)) (range_with_len 0 8)) t
    ∙ ap (λ b. cond b 1 0) (get_or-map (λ s. h (8 * i + s)) (range_with_len 0 8) t 0 false l ∙ ap (λ s. h (8 * i + s)) (range-at 0 8 t l ∙ zero-add t))

pub eqb-cond : (b : Bool) → eqb (cond b 1 0) 1 ≡ b
eqb-cond true = refl
eqb-cond false = refl

pub bit-bits_of : (h : ℕ → Bool) (n j : ℕ) → j < 8 * n → bit (bits_of h n) j ≡ h j
bit-bits_of h n j l =
    let inside : j / 8 < n = omega arith in
    let whole : 8 * (j / 8) + j % 8 ≡ j = omega arith in
    ap (λ b. eqb (bit_at b (j % 8)) 1) (byte-bits_of h n (j / 8) inside)
    ∙ ap (λ b. eqb b 1) (bit-of_byte h (j / 8) (j % 8) (omega arith)) ∙ eqb-cond (h (8 * (j / 8) + j % 8)) ∙ ap h whole

pub one-bit : (n : ℕ) (b : Bool) → n < 2 → eqb n 1 ≡ b → n ≡ cond b 1 0
one-bit n true l e = eqb-true n 1 e
one-bit n false l e = let f = eqb-false n 1 e in omega arith

-- bytes with these bits
pub bits-ext : (h : ℕ → Bool) (n : ℕ) (bs : List ℕ) → length bs ≡ n → ((i : ℕ) → get_or bs i 0 < 256) → ((j : ℕ) → j < 8 * n → bit bs j ≡ h j) → bs ≡ bits_of h n
bits-ext h n bs long small each =
    ext_get_or 0 bs (bits_of h n) (long ∙ sym (length-bits_of h n)) (λ i l.
    let inside : i < n = omega arith in
    same_from_bits_below 8 (get_or bs i 0) (byte_of_bits h i) (small i) (mask_l-lt (map (λ s. h (8 * i + s)) (range_with_len 0 8))) (λ t lt.
    let div : (8 * i + t) / 8 ≡ i = omega arith in
    let rem : (8 * i + t) % 8 ≡ t = omega arith in
    one-bit (bit_at (get_or bs i 0) t) (h (8 * i + t)) (bit_at-lt (get_or bs i 0) t)
    (ap₂ (λ a s. eqb (bit_at (get_or bs a 0) s) 1) (sym div) (sym rem) ∙ each (8 * i + t) (omega arith))
    ∙ sym (bit-of_byte h i t lt))
    ∙ sym (byte-bits_of h n i inside))

-- ---- the step of a loop over elements
element_bit_at_its_place : (k e : ℕ) (h : ℕ → Bool) → 0 < k → (element_bit k h (e + 1) (k * e) ≡ h e) × (element_bit k h e (k * e) ≡ false)
element_bit_at_its_place k e h some =
    let r : k * e % k ≡ 0 = mul-mod_right k e in
    let q : k * e / k ≡ e = mul-div_cancel_left e some in
    let up : k * e < k * (e + 1) = omega (arith, mul-suc k e, ap (λ n. k * n) (add-one e)) in (
      ap (λ b. b && ltb (k * e) (k * (e + 1)) && h (k * e / k)) (eq-eqb (k * e % k) 0 r) ∙ ap (λ b. b && h (k * e / k)) (lt-ltb (k * e) (k * (e + 1)) up) ∙ ap h q,
      and_left _ _ (and_right (eqb (k * e % k) 0) (ltb (k * e) (k * e)) (le-ltb (k * e) (k * e) (omega arith))),
    )

elsewhere : (k e i : ℕ) → 0 < k → (i ≡ k * e → ⊥) → (eqb (i % k) 0 && ltb i (k * (e + 1))) ≡ (eqb (i % k) 0 && ltb i (k * e))
elsewhere k e i some ne =
    elim (cases_eq (i % k) 0) [
      | inr n ↦ and_left _ _ (ne_eqb (i % k) 0 n) ∙ sym (and_left _ _ (ne_eqb (i % k) 0 n))
      | inl z ↦
          let whole : i ≡ k * (i / k) = omega (arith, div-add-mod i k) in
          let next : k * (e + 1) ≡ k * e + k = ap (λ n. k * n) (add-one e) ∙ mul-suc k e in
          ap (λ b. eqb (i % k) 0 && b) (
          elim (cases_lt i (k * e)) [
            | inl l ↦ lt-ltb i (k * (e + 1)) (omega arith) ∙ sym (lt-ltb i (k * e) l)
            | inr g ↦
                le-ltb i (k * (e + 1)) (
                elim (cases_lt e (i / k)) [
                  | inl l ↦ (let m : k * (e + 1) ≤ k * (i / k) = mul-le-mul_left k (let u : e + 1 ≤ i / k = omega arith in u) in omega arith)
                  | inr f ↦ (let m : k * (i / k) ≤ k * e = mul-le-mul_left k f in absurd (ne (omega arith)))
                ])
                ∙ sym (le-ltb i (k * e) g)
          ])
    ]

pub element_bit-none : (k : ℕ) (h : ℕ → Bool) (i : ℕ) → element_bit k h 0 i ≡ false
element_bit-none k h i = and_left _ _ (and_right (eqb (i % k) 0) (ltb i (k * 0)) (le-ltb i (k * 0) (omega (arith, mul-zero k))))

pub bits-small : (h : ℕ → Bool) (n i : ℕ) → get_or (bits_of h n) i 0 < 256
bits-small h n i =
    elim (cases_lt i n) [
      | inl l ↦ subst (λ b. b < 256) (sym (byte-bits_of h n i l)) (mask_l-lt (map (λ s. h (8 * i + s)) (range_with_len 0 8)))
      | inr g ↦ subst (λ b. b < 256) (sym (get_or_past (bits_of h n) i 0 (omega (arith, length-bits_of h n)))) (omega arith)
    ]

pub predicate-none : (k : ℕ) (h : ℕ → Bool) → replicate 32 0 ≡ predicate k h 0
predicate-none k h = bits-ext (element_bit k h 0) 32 (replicate 32 0) refl (λ i. subst (λ n. n < 256) (sym (zeros 32 i)) (omega arith)) (λ j _. bit-none 32 j ∙ sym (element_bit-none k h j))

-- a predicate of bytes is the list of its bits
pub element_bit-bytes : (h : ℕ → Bool) (n i : ℕ) → i < n → element_bit 1 h n i ≡ h i
element_bit-bytes h n i l =
    let r : i % 1 ≡ 0 = mod-one i in
    ap (λ b. b && ltb i (1 * n) && h (i / 1)) (eq-eqb (i % 1) 0 r) ∙ ap (λ b. b && h (i / 1)) (lt-ltb i (1 * n) (omega arith)) ∙ ap h (div-one i)

-- the predicate of all bits
pub predicate-bytes : (h : ℕ → Bool) → predicate 1 h 256 ≡ bits_of h 32
predicate-bytes h =
    bits-ext h 32 (predicate 1 h 256) (length-bits_of (element_bit 1 h 256) 32) (bits-small (element_bit 1 h 256) 32) (λ j l. bit-bits_of (element_bit 1 h 256) 32 j l ∙ element_bit-bytes h 256 j (omega arith))

pub and_twice : (a b : Bool) → (a && (b && b)) ≡ (a && b)
and_twice true true = refl
and_twice true false = refl
and_twice false b = refl

-- Predicates as vectors of 32 bytes, bit by bit.
use Rattle.std.proofs.Common.{◌≡◌, ℕ, zero, suc, ◌+◌, ◌-◌, ◌/◌, ◌%◌, ◌<◌, List, Bool, not, cond, eqb, ◌&&◌, ◌||◌, map, max, length, get_or, bit_and, bit_or, bit_xor, refl, sym, ap, ap₂, ◌∙◌, subst, arith, w8}
use Rattle.std.specs.Int.{bit_at, bit_not}
use Rattle.std.proofs.lemmas.List.{get_or-map, length-map}
use Rattle.std.proofs.lemmas.Nat.{or_lt, xor_lt}
use Rattle.std.proofs.lemmas.Nat.Bits.{bit_at_or, bit_at_xor, bit_at_not, bit_at-lt}
use Rattle.std.proofs.lemmas.Simd.{length-zip2, get_or-zip2}
use lib.Lanes.{zip2}
use Rattle.guest_types.specs.Elements.{bit, bits_of}
use Rattle.guest_types.proofs.Predicates.{bits-ext, bit-bits_of, length-bits_of, bits-small}
use Rattle.lane_blocks.proofs.Lanes.{lanes-list, lanes-zip, lanes-map, lanes-small, below-at}
use Rattle.lane_blocks.proofs.Masks.{bit-and, and-small}

-- 256 bits, of which bit j is h j
pub record IsBits (h : ℕ → Bool) (xs : List ℕ) : Type 0 where
  pub long : length xs ≡ 32
  pub small : (i : ℕ) → get_or xs i 0 < 256
  pub bits : (j : ℕ) → j < 256 → bit xs j ≡ h j

pub bits-are : {h : ℕ → Bool} {xs : List ℕ} → IsBits h xs → xs ≡ bits_of h 32
bits-are {h} {xs} is = bits-ext h 32 xs is.long is.small (λ j l. is.bits j (omega arith))

pub bits-made : (h : ℕ → Bool) (xs : List ℕ) → xs ≡ bits_of h 32 → IsBits h xs
bits-made h xs is = record {
  long = ap length is ∙ length-bits_of h 32;
  small = λ i. subst (λ zs. get_or zs i 0 < 256) (sym is) (bits-small h 32 i);
  bits = λ j l. ap (λ zs. bit zs j) is ∙ bit-bits_of h 32 j (omega arith);
}

-- a list of bytes has its own bits
pub bits-own : (p : List ℕ) → length p ≡ 32 → ((i : ℕ) → get_or p i 0 < 256) → IsBits (bit p) p
bits-own p long small = record { long = long; small = small; bits = λ j l. refl }

pub bits-is : {h : ℕ → Bool} {xs ys : List ℕ} → xs ≡ ys → IsBits h ys → IsBits h xs
bits-is {h} e is = subst (IsBits h) (sym e) is

pub bits-same : {h : ℕ → Bool} {xs : List ℕ} (g : ℕ → Bool) → IsBits h xs → ((j : ℕ) → j < 256 → h j ≡ g j) → IsBits g xs
bits-same g is same = record { long = is.long; small = is.small; bits = λ j l. is.bits j l ∙ same j l }

-- ---- operations

pub bits-and : {h g : ℕ → Bool} {xs ys : List ℕ} → IsBits h xs → IsBits g ys → IsBits (λ j. h j && g j) (zip2 bit_and xs ys)
bits-and {h} {g} {xs} {ys} x y = record {
  long = length-zip2 bit_and xs ys (x.long ∙ sym y.long) ∙ x.long;
  small = and-small xs ys x.long y.long x.small;
  bits = λ j l. bit-and xs ys j x.long y.long l ∙ ap₂ (λ a b. a && b) (x.bits j l) (y.bits j l);
}

max-bits : (a b : ℕ) → a < 2 → b < 2 → eqb (max a b) 1 ≡ (eqb a 1 || eqb b 1)
max-bits zero zero p q = refl
max-bits zero (suc zero) p q = refl
max-bits (suc zero) zero p q = refl
max-bits (suc zero) (suc zero) p q = refl
max-bits zero (suc (suc b)) p q = absurd (omega arith)
max-bits (suc zero) (suc (suc b)) p q = absurd (omega arith)
max-bits (suc (suc a)) b p q = absurd (omega arith)

xor-bits : (a b : ℕ) → a < 2 → b < 2 → eqb ((a + b) % 2) 1 ≡ cond (eqb a 1) (not (eqb b 1)) (eqb b 1)
xor-bits zero zero p q = refl
xor-bits zero (suc zero) p q = refl
xor-bits (suc zero) zero p q = refl
xor-bits (suc zero) (suc zero) p q = refl
xor-bits zero (suc (suc b)) p q = absurd (omega arith)
xor-bits (suc zero) (suc (suc b)) p q = absurd (omega arith)
xor-bits (suc (suc a)) b p q = absurd (omega arith)

not-bits : (a : ℕ) → a < 2 → eqb (1 - a) 1 ≡ not (eqb a 1)
not-bits zero p = refl
not-bits (suc zero) p = refl
not-bits (suc (suc a)) p = absurd (omega arith)

pub bits-or : {h g : ℕ → Bool} {xs ys : List ℕ} → IsBits h xs → IsBits g ys → IsBits (λ j. h j || g j) (zip2 bit_or xs ys)
bits-or {h} {g} {xs} {ys} x y = record {
  long = length-zip2 bit_or xs ys (x.long ∙ sym y.long) ∙ x.long;
  small = below-at (zip2 bit_or xs ys) (lanes-small 256 (lanes-zip bit_or (lanes-list 32 xs x.long) (lanes-list 32 ys y.long)) (λ e l. or_lt 8 (get_or xs e 0) (get_or ys e 0) (x.small e) (y.small e)));
  bits = λ j l.
      let a = get_or xs (j / 8) 0 in
      let b = get_or ys (j / 8) 0 in
      ap (λ n. eqb (bit_at n (j % 8)) 1) (get_or-zip2 bit_or xs ys (j / 8) 0 0 0 (omega (arith, x.long)) (omega (arith, y.long)))
      ∙ ap (λ n. eqb n 1) (bit_at_or a b (j % 8)) ∙ max-bits (bit_at a (j % 8)) (bit_at b (j % 8)) (bit_at-lt a (j % 8)) (bit_at-lt b (j % 8))
      ∙ ap₂ (λ p q. p || q) (x.bits j l) (y.bits j l);
}

pub bits-xor : {h g : ℕ → Bool} {xs ys : List ℕ} → IsBits h xs → IsBits g ys → IsBits (λ j. cond (h j) (not (g j)) (g j)) (zip2 bit_xor xs ys)
bits-xor {h} {g} {xs} {ys} x y = record {
  long = length-zip2 bit_xor xs ys (x.long ∙ sym y.long) ∙ x.long;
  small = below-at (zip2 bit_xor xs ys) (lanes-small 256 (lanes-zip bit_xor (lanes-list 32 xs x.long) (lanes-list 32 ys y.long)) (λ e l. xor_lt 8 (get_or xs e 0) (get_or ys e 0) (x.small e) (y.small e)));
  bits = λ j l.
      let a = get_or xs (j / 8) 0 in
      let b = get_or ys (j / 8) 0 in
      ap (λ n. eqb (bit_at n (j % 8)) 1) (get_or-zip2 bit_xor xs ys (j / 8) 0 0 0 (omega (arith, x.long)) (omega (arith, y.long)))
      ∙ ap (λ n. eqb n 1) (bit_at_xor a b (j % 8)) ∙ xor-bits (bit_at a (j % 8)) (bit_at b (j % 8)) (bit_at-lt a (j % 8)) (bit_at-lt b (j % 8))
      ∙ ap₂ (λ p q. cond p (not q) q) (x.bits j l) (y.bits j l);
}

pub bits-not : {h : ℕ → Bool} {xs : List ℕ} → IsBits h xs → IsBits (λ j. not (h j)) (map (bit_not w8) xs)
bits-not {h} {xs} x = record {
  long = length-map xs (bit_not w8) ∙ x.long;
  small = below-at (map (bit_not w8) xs) (lanes-small 256 (lanes-map (bit_not w8) (lanes-list 32 xs x.long)) (λ e l. let none : bit_not w8 (get_or xs e 0) < 256 = omega arith in none));
  bits = λ j l.
      let a = get_or xs (j / 8) 0 in
      ap (λ n. eqb (bit_at n (j % 8)) 1) (get_or-map (bit_not w8) xs (j / 8) 0 0 (omega (arith, x.long)))
      ∙ ap (λ n. eqb n 1) (bit_at_not w8 a (j % 8) (x.small (j / 8)) (omega arith)) ∙ not-bits (bit_at a (j % 8)) (bit_at-lt a (j % 8))
      ∙ ap not (x.bits j l);
}

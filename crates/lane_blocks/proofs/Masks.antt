-- Bits of a predicate as lanes.
use Rattle.std.proofs.Common.{◌≡◌, ℕ, zero, suc, ◌+◌, ◌-◌, ◌*◌, ◌/◌, ◌%◌, ◌^◌, ◌<◌, ◌≤◌, ◌++◌, List, Bool, true, false, not, cond, eqb, ltb, ◌&&◌, map, min, length, get_or, take, drop, replicate, bit_and, refl, sym, ap, ◌∙◌, subst, arith, inl, inr, Fits, w8}
use mir.Syntax.{Width as Bits}
use Rattle.std.specs.List.{range_with_len}
use Rattle.std.specs.Int.{bytes_low_first, bit_at}
use Rattle.std.proofs.lemmas.Bool.{cond_both, cond-true, cond-false, cases_lt, cases_eq, eq-eqb, ne_eqb, lt-ltb, le-ltb}
use Rattle.std.proofs.lemmas.List.{get_or-map, get_or_append_left, drop_more, length-map}
use Rattle.std.proofs.lemmas.Nat.{and_mask, shr-shr, and_le_l}
use Rattle.std.proofs.lemmas.Nat.Bits.{and_pow, bit_at_and, bit_at_ones, bit_at_ones_above, bit_at-zero, bit_at_cat_low, bit_at-lt}
use Rattle.std.proofs.lemmas.List.FromFn.{length-range_with_len}
use Rattle.std.proofs.lemmas.Simd.{bitmask_splat, bit_mask_l, mask_l-lt, length-zip2, get_or-zip2}
use Rattle.std.proofs.Math.Nat.{one-le-pow, zero-add, div-one, pow-le-pow_right}
use lib.Lanes.{number_l, zip2, top, mask_l, digits_l, Each1}
use Rattle.guest_types.specs.declared.length.Width.{Width}
use Rattle.guest_types.specs.declared.length.Width.TheVariants.{B}
use Rattle.guest_types.specs.Length.{width_bytes, modulus}
use Rattle.guest_types.specs.Elements.{number_of_bytes, element, at, bit, bits_of}
use Rattle.guest_types.proofs.Predicates.{range-at, bits-ext, bit-bits_of, length-bits_of, eqb-cond}
use Rattle.guest_types.proofs.AtWidths.{bits_of-ext}
use Rattle.guest_types.proofs.Widths.{modulus-is, element-below}
use Rattle.lane_blocks.specs.Blocks.{block_lanes, bit_byte, spread_of, choose_at, choose_of, is_below, bit_below, below_of}
use Rattle.lane_blocks.proofs.Lanes.{IsLanes, lanes-is, lanes-ext, lanes-elements, lanes-small, lanes-made, lanes-list, lanes-splat, lanes-zip, lanes-select, lanes-wide, lanes-bytes, lanes-to_bytes, selected, below-at}
use Rattle.lane_blocks.proofs.BlockSteps.{lane-inside}

-- ---- bits as bytes

bit_byte-small : (p : List ℕ) (j : ℕ) → bit_byte p j < 256
bit_byte-small p j = cond_both (bit p j) 1 0 (λ b. b < 256) (λ _. omega arith) (λ _. omega arith)

-- a bit is set where the byte has its power of two
power-bit : (n k : ℕ) → eqb (bit_and n (2 ^ k)) (2 ^ k) ≡ eqb (bit_at n k) 1
power-bit n k =
    let some : 1 ≤ 2 ^ k = one-le-pow k 2 (omega arith) in
    ap (λ m. eqb m (2 ^ k)) (and_pow n k) ∙ go (bit_at n k) (2 ^ k) (bit_at-lt n k) some
  where
    go : (b m : ℕ) → b < 2 → 1 ≤ m → eqb (b * m) m ≡ eqb b 1
    go zero m l some = ne_eqb (zero * m) m (λ e. omega arith)
    go (suc zero) m l some = eq-eqb (suc zero * m) m (omega arith)
    go (suc (suc b)) m l some = absurd (omega arith)

-- each byte of a mask eight times, and the powers of two
abbrev pub repeated : List ℕ → List ℕ
repeated p = map (λ j. get_or (p ++ p) (j / 8) 0) (range_with_len 0 32)

abbrev pub powers : List ℕ
powers = map (λ j. 2 ^ (j % 8)) (range_with_len 0 32)

lanes-repeated : (p : List ℕ) → length p ≡ 4 → IsLanes 32 (λ j. get_or p (j / 8) 0) (map (λ j. get_or (p ++ p) (j / 8) 0) (range_with_len 0 32))
lanes-repeated p four = record {
  long = refl;
  lane = λ j l.
      get_or-map (λ j. get_or (p ++ p) (j / 8) 0) (range_with_len 0 32) j 0 0 l ∙ ap (λ i. get_or (p ++ p) (i / 8) 0) (range-at 0 32 j l ∙ zero-add j)
      ∙ get_or_append_left p p 0 (j / 8) (omega arith);
}

lanes-powers : IsLanes 32 (λ j. 2 ^ (j % 8)) (map (λ j. 2 ^ (j % 8)) (range_with_len 0 32))
lanes-powers = record {
  long = refl;
  lane = λ j l. get_or-map (λ j. 2 ^ (j % 8)) (range_with_len 0 32) j 0 0 l ∙ ap (λ i. 2 ^ (i % 8)) (range-at 0 32 j l ∙ zero-add j);
}

pub spread-is : (p : List ℕ) → length p ≡ 4 → selected w8 eqb (zip2 bit_and (repeated p) powers) powers (replicate 32 1) (replicate 32 0) ≡ spread_of p
spread-is p four =
    let h =
    lanes-ext (bit_byte p) (lanes-select w8 eqb (lanes-zip bit_and (lanes-repeated p four) lanes-powers) lanes-powers (lanes-splat 32 1) (lanes-splat 32 0))
    (λ j l. ap (λ b. cond b 1 0) (power-bit (get_or p (j / 8) 0) (j % 8))) in
    lanes-elements h (lanes-small 256 h (λ e l. bit_byte-small p e))

pub lanes-bits : (p s : List ℕ) → s ≡ spread_of p → IsLanes 32 (bit_byte p) s
lanes-bits p s is = lanes-is is (lanes-made (bit_byte p) 32 (λ e l. bit_byte-small p e))

low_bit_of_element : (k : ℕ) (v : List ℕ) (e : ℕ) → 0 < k → k * e < length v → element k v e % 2 ≡ get_or v (k * e) 0 % 2
low_bit_of_element zero v e some l = absurd (omega arith)
low_bit_of_element (suc k) v e some l =
    ap (λ r. number_of_bytes (take (suc k) r) % 2) (drop_more v (suc k * e) 0 l) ∙ mod-two (get_or v (suc k * e) 0) (number_l 256 (take k (drop (suc k * e + 1) v)))
  where
    mod-two : (x r : ℕ) → (x + 256 * r) % 2 ≡ x % 2
    mod-two x r = omega arith

one-cond : (b : Bool) → eqb (cond b 1 0 % 2) 1 ≡ b
one-cond true = refl
one-cond false = refl

-- the lowest bit of an element of the spread is the predicate's bit there
pub spread-active : (w : Width) (p s : List ℕ) (e : ℕ) → s ≡ spread_of p → e < block_lanes w → eqb (bit_and (at w s e) 1) 1 ≡ bit p (width_bytes w * e)
spread-active w p s e is l =
    let inside = lane-inside w e l in
    let h = lanes-bits p s is in
    ap (λ b. eqb b 1) (and_mask (at w s e) 1 ∙ low_bit_of_element (width_bytes w) s e inside.0 (omega (arith, h.long, inside.1)))
    ∙ ap (λ b. eqb (b % 2) 1) (h.lane (width_bytes w * e) inside.1) ∙ one-cond (bit p (width_bytes w * e))

-- ---- the choice by a mask

each-fits : (xs : List ℕ) → Each1 (λ x. x < 256) xs → (i : ℕ) → Fits w8 (get_or xs i 0)
each-fits xs h i = record { fits = below-at xs h i }

pub element-small : (w : Width) (z : List ℕ) (e : ℕ) → Each1 (λ x. x < 256) z → at w z e < modulus w
element-small w z e h = element-below w z e (each-fits z h)

pub chosen-small : (w : Width) (p chosen other : List ℕ) (e : ℕ) → Each1 (λ x. x < 256) chosen → Each1 (λ x. x < 256) other → choose_at w p chosen other e < modulus w
chosen-small w p chosen other e sc so =
    cond_both (bit p (width_bytes w * e)) (at w chosen e) (at w other e) (λ x. x < modulus w) (λ _. element-small w chosen e sc) (λ _. element-small w other e so)

module _ (v : Bits) (w : Width) (p s chosen other : List ℕ) (is : s ≡ spread_of p) (sc : Each1 (λ x. x < 256) chosen) (so : Each1 (λ x. x < 256) other) where
  -- the lanes of the choice, from those of the spread and of the two blocks
  lanes-choice : (bits new old : List ℕ) → IsLanes (block_lanes w) (at w s) bits → IsLanes (block_lanes w) (at w chosen) new → IsLanes (block_lanes w) (at w other) old
      → IsLanes (block_lanes w) (choose_at w p chosen other) (selected v eqb (zip2 bit_and bits (replicate (block_lanes w) 1)) (replicate (block_lanes w) 1) new old)
  lanes-choice bits new old hb hc ho =
      lanes-ext (choose_at w p chosen other)
      (lanes-select v eqb (lanes-zip bit_and hb (lanes-splat (block_lanes w) 1)) (lanes-splat (block_lanes w) 1) hc ho)
      (λ e l. ap (λ b. cond b (at w chosen e) (at w other e)) (spread-active w p s e is l))

  pub choose-wide : (q : ℕ) → q ≡ modulus w
      → let n = block_lanes w in
      let wide : List ℕ → List ℕ = λ l. digits_l q n (number_l 256 l) in
      digits_l 256 (width_bytes w * n) (number_l q (selected v eqb (zip2 bit_and (wide s) (replicate n 1)) (replicate n 1) (wide chosen) (wide other))) ≡ choose_of w p chosen other
  choose-wide q eq =
      let n = block_lanes w in
      let power : q ≡ 256 ^ width_bytes w = eq ∙ modulus-is w in
      let ss : Each1 (λ x. x < 256) s = lanes-small 256 (lanes-bits p s is) (λ e l. bit_byte-small p e) in
      let wide : List ℕ → List ℕ = λ l. digits_l q n (number_l 256 l) in
      let h = lanes-choice (wide s) (wide chosen) (wide other) (lanes-wide (width_bytes w) q n s power ss) (lanes-wide (width_bytes w) q n chosen power sc) (lanes-wide (width_bytes w) q n other power so) in
      lanes-to_bytes (width_bytes w) q power h (lanes-small q h (λ e l. subst (λ m. choose_at w p chosen other e < m) (sym eq) (chosen-small w p chosen other e sc so)))

pub choose-bytes : (p s chosen other : List ℕ) → s ≡ spread_of p → length chosen ≡ 32 → length other ≡ 32 → Each1 (λ x. x < 256) chosen → Each1 (λ x. x < 256) other
    → selected w8 eqb (zip2 bit_and s (replicate 32 1)) (replicate 32 1) chosen other ≡ choose_of B p chosen other
choose-bytes p s chosen other is lc lo sc so =
    let h = lanes-choice w8 B p s chosen other is sc so s chosen other (lanes-bytes 32 s (lanes-bits p s is).long) (lanes-bytes 32 chosen lc) (lanes-bytes 32 other lo) in
    lanes-elements h (lanes-small 256 h (λ e l. chosen-small B p chosen other e sc so))

-- ---- which bytes are not 0

byte-bit : (x i t : ℕ) → t < 8 → bit_at (x / 2 ^ (8 * i) % 256) t ≡ bit_at x (8 * i + t)
byte-bit x i t l =
    let n = x / 2 ^ (8 * i) in
    let whole : n / 256 * 2 ^ 8 + n % 256 ≡ n = omega arith in
    sym (bit_at_cat_low (n / 256) 8 (n % 256) t l) ∙ ap (λ m. bit_at m t) whole ∙ ap (λ m. m % 2) (shr-shr x (8 * i) t)

byte-of : (n i : ℕ) → i < 4 → get_or (bytes_low_first 0 4 n) i 0 ≡ n / 2 ^ (8 * i) % 256
byte-of n zero l = ap (λ m. m % 256) (sym (div-one n))
byte-of n (suc zero) l = refl
byte-of n (suc (suc zero)) l = refl
byte-of n (suc (suc (suc zero))) l = refl
byte-of n (suc (suc (suc (suc i)))) l = absurd (omega arith)

four-small : (n i : ℕ) → get_or (bytes_low_first 0 4 n) i 0 < 256
four-small n zero = omega arith
four-small n (suc zero) = omega arith
four-small n (suc (suc zero)) = omega arith
four-small n (suc (suc (suc zero))) = omega arith
four-small n (suc (suc (suc (suc i)))) = omega arith

bits-of_mask : (ms : List Bool) → bytes_low_first 0 4 (mask_l ms) ≡ bits_of (λ j. get_or ms j false) 4
bits-of_mask ms =
    let n = mask_l ms in
    bits-ext (λ j. get_or ms j false) 4 (bytes_low_first 0 4 n) refl (four-small n) (λ j l.
    let whole : 8 * (j / 8) + j % 8 ≡ j = omega arith in
    ap (λ b. eqb (bit_at b (j % 8)) 1) (byte-of n (j / 8) (omega arith)) ∙ ap (λ b. eqb b 1) (byte-bit n (j / 8) (j % 8) (omega arith) ∙ ap (bit_at n) whole ∙ bit_mask_l ms j)
    ∙ eqb-cond (get_or ms j false))

-- the bits of the bytes that are not 0
pub nonzero-bits : (v : List ℕ) → length v ≡ 32
    → bytes_low_first 0 4 (mask_l (map (top 7) (zip2 (λ a b. cond (not (eqb a b)) 255 0) v (replicate 32 0))) % 2 ^ 64) ≡ bits_of (λ j. not (eqb (get_or v j 0) 0)) 4
nonzero-bits v long =
    ap (bytes_low_first 0 4) (bitmask_splat w8 (λ a b. not (eqb a b)) v 32 0 long (omega arith))
    ∙ bits-of_mask (map (λ x. not (eqb x 0)) v)
    ∙ bits_of-ext (λ j. get_or (map (λ x. not (eqb x 0)) v) j false) (λ j. not (eqb (get_or v j 0) 0)) 4 (λ j l. get_or-map (λ x. not (eqb x 0)) v j 0 false (omega arith))

pub nonzero-fits : (v : List ℕ) → length v ≡ 32 → mask_l (map (top 7) (zip2 (λ a b. cond (not (eqb a b)) 255 0) v (replicate 32 0))) % 2 ^ 64 < 2 ^ 32
nonzero-fits v long =
    let ms = map (λ x. not (eqb x 0)) v in
    let few : length ms ≡ 32 = length-map v (λ x. not (eqb x 0)) ∙ long in
    subst (λ n. n < 2 ^ 32) (sym (bitmask_splat w8 (λ a b. not (eqb a b)) v 32 0 long (omega arith))) (subst (λ n. mask_l ms < 2 ^ n) few (mask_l-lt ms))

-- ---- bits below a limit

-- byte i of the bits below a limit
abbrev pub below_byte : ℕ → ℕ → ℕ
below_byte limit i = cond (ltb i (limit / 8)) 255 (cond (eqb i (limit / 8)) (2 ^ (limit % 8) - 1) 0)

below_byte-small : (limit i : ℕ) → below_byte limit i < 256
below_byte-small limit i =
    cond_both (ltb i (limit / 8)) 255 (cond (eqb i (limit / 8)) (2 ^ (limit % 8) - 1) 0) (λ b. b < 256) (λ _. omega arith)
    (λ _. cond_both (eqb i (limit / 8)) (2 ^ (limit % 8) - 1) 0 (λ b. b < 256) (λ _. let up : 2 ^ (limit % 8) ≤ 2 ^ 8 = pow-le-pow_right {n = 2} (omega arith) {i = limit % 8} {j = 8} (omega arith) in omega (arith, up)) (λ _. omega arith))

below-bit : (limit i t : ℕ) → t < 8 → eqb (bit_at (below_byte limit i) t) 1 ≡ ltb (8 * i + t) limit
below-bit limit i t l =
    elim (cases_lt i (limit / 8)) [
      | inl under ↦
          ap (λ b. eqb (bit_at b t) 1) (cond-true _ _ _ (lt-ltb i (limit / 8) under)) ∙ ap (λ b. eqb b 1) (bit_at_ones 8 t l)
          ∙ sym (lt-ltb (8 * i + t) limit (omega arith))
      | inr over ↦
          ap (λ b. eqb (bit_at b t) 1) (cond-false _ _ _ (le-ltb i (limit / 8) over))
          ∙ elim (cases_eq i (limit / 8)) [
            | inl same ↦
                ap (λ b. eqb (bit_at b t) 1) (cond-true _ _ _ (eq-eqb i (limit / 8) same))
                ∙ elim (cases_lt t (limit % 8)) [
                  | inl in_it ↦ ap (λ b. eqb b 1) (bit_at_ones (limit % 8) t in_it) ∙ sym (lt-ltb (8 * i + t) limit (omega arith))
                  | inr past ↦ ap (λ b. eqb b 1) (bit_at_ones_above (limit % 8) t past) ∙ sym (le-ltb (8 * i + t) limit (omega arith))
                ]
            | inr other ↦
                ap (λ b. eqb (bit_at b t) 1) (cond-false _ _ _ (ne_eqb i (limit / 8) other)) ∙ ap (λ b. eqb b 1) (bit_at-zero t)
                ∙ sym (le-ltb (8 * i + t) limit (omega arith))
          ]
    ]

-- a vector of bytes as bits
pub bits-lanes : {f : ℕ → ℕ} {xs : List ℕ} (h : ℕ → Bool) → IsLanes 32 f xs → ((i : ℕ) → f i < 256) → ((i t : ℕ) → t < 8 → eqb (bit_at (f i) t) 1 ≡ h (8 * i + t)) → xs ≡ bits_of h 32
bits-lanes {f} {xs} h lanes small each =
    bits-ext h 32 xs lanes.long (below-at xs (lanes-small 256 lanes (λ e l. small e))) (λ j l.
    let whole : 8 * (j / 8) + j % 8 ≡ j = omega arith in
    ap (λ b. eqb (bit_at b (j % 8)) 1) (lanes.lane (j / 8) (omega arith)) ∙ each (j / 8) (j % 8) (omega arith) ∙ ap h whole)

pub lanes-below : (limit : ℕ) (xs : List ℕ) → IsLanes 32 (below_byte limit) xs → xs ≡ bits_of (is_below limit) 32
lanes-below limit xs h = bits-lanes (is_below limit) h (below_byte-small limit) (below-bit limit)

-- ---- operations on bits, a byte at a time

min-bits : (a b : ℕ) → a < 2 → b < 2 → eqb (min a b) 1 ≡ (eqb a 1 && eqb b 1)
min-bits zero zero p q = refl
min-bits zero (suc zero) p q = refl
min-bits (suc zero) zero p q = refl
min-bits (suc zero) (suc zero) p q = refl
min-bits zero (suc (suc b)) p q = absurd (omega arith)
min-bits (suc zero) (suc (suc b)) p q = absurd (omega arith)
min-bits (suc (suc a)) b p q = absurd (omega arith)

pub bit-and : (a b : List ℕ) (j : ℕ) → length a ≡ 32 → length b ≡ 32 → j < 256 → bit (zip2 bit_and a b) j ≡ (bit a j && bit b j)
bit-and a b j la lb l =
    ap (λ x. eqb (bit_at x (j % 8)) 1) (get_or-zip2 bit_and a b (j / 8) 0 0 0 (omega arith) (omega arith))
    ∙ ap (λ x. eqb x 1) (bit_at_and (get_or a (j / 8) 0) (get_or b (j / 8) 0) (j % 8))
    ∙ min-bits (bit_at (get_or a (j / 8) 0) (j % 8)) (bit_at (get_or b (j / 8) 0) (j % 8)) (bit_at-lt (get_or a (j / 8) 0) (j % 8)) (bit_at-lt (get_or b (j / 8) 0) (j % 8))

pub and-small : (a b : List ℕ) → length a ≡ 32 → length b ≡ 32 → ((i : ℕ) → get_or a i 0 < 256) → (i : ℕ) → get_or (zip2 bit_and a b) i 0 < 256
and-small a b la lb small =
    below-at (zip2 bit_and a b) (lanes-small 256 (lanes-zip bit_and (lanes-list 32 a la) (lanes-list 32 b lb)) (λ e l. omega (arith, small e, and_le_l (get_or a e 0) (get_or b e 0))))

pub below-is : (p b : List ℕ) (limit : ℕ) → length p ≡ 32 → ((i : ℕ) → get_or p i 0 < 256) → b ≡ bits_of (is_below limit) 32 → zip2 bit_and p b ≡ below_of p limit
below-is p b limit long small is =
    let lb : length b ≡ 32 = ap length is ∙ length-bits_of (is_below limit) 32 in
    bits-ext (bit_below p limit) 32 (zip2 bit_and p b) (length-zip2 bit_and p b (long ∙ sym lb) ∙ long) (and-small p b long lb small)
    (λ j l. bit-and p b j long lb (omega arith) ∙ ap (λ x. bit p j && x) (ap (λ z. bit z j) is ∙ bit-bits_of (is_below limit) 32 j l))

pub lanes-places : (n : ℕ) → IsLanes n (λ e. e) (range_with_len 0 n)
lanes-places n = record { long = length-range_with_len 0 n; lane = λ e l. range-at 0 n e l ∙ zero-add e }

pub edge-power : (limit : ℕ) → 1 * 2 ^ (limit % 8) % 65536 ≡ 2 ^ (limit % 8)
edge-power limit =
    let up : 2 ^ (limit % 8) ≤ 2 ^ 7 = pow-le-pow_right {n = 2} (omega arith) {i = limit % 8} {j = 7} (omega arith) in
    omega (arith, up)

-- Comparisons, block by block.
use Rattle.std.proofs.Common.{◌≡◌, ℕ, zero, suc, ◌+◌, ◌-◌, ◌*◌, ◌/◌, ◌%◌, ◌<◌, ◌≤◌, ◌++◌, List, [], Bool, true, false, not, cond, eqb, ltb, ◌&&◌, length, get_or, take, drop, bit_and, refl, sym, ap, ap₂, ◌∙◌, subst, arith, inl, inr, ◌⊎◌}
use Rattle.std.specs.Int.{bit_at}
use Rattle.std.proofs.lemmas.Bool.{cond-false, cases_lt, ne_eqb, lt-ltb, le-ltb, and_left, and_right}
use Rattle.std.proofs.lemmas.List.{append-nil}
use Rattle.std.proofs.lemmas.Simd.{get_or-chunk, get_or-zip2, put_chunk_is, get_or-put_chunk_below, get_or-put_chunk_at, get_or-put_chunk_above, length-put_chunk, Each1-put_chunk, Each1-from_get_or}
use Rattle.std.proofs.Math.Nat.{div-one, mod-one}
use lib.Lanes.{zip2, put_chunk}
use Rattle.guest_types.specs.declared.length.Width.{Width}
use Rattle.guest_types.specs.declared.length.Width.TheVariants.{B, H, S, D}
use Rattle.guest_types.specs.declared.operation.LaneCompare.{LaneCompare}
use Rattle.guest_types.specs.Length.{IsLength, width_bytes, modulus, lanes}
use Rattle.guest_types.specs.Elements.{at, bit, bits_of, bytes_of, elements, element_bit, predicate}
use Rattle.guest_types.specs.Lanes.{is_true, compare_at, compare_of}
use Rattle.guest_types.proofs.AtWidths.{bits_of-ext, width_bytes-lanes}
use Rattle.guest_types.proofs.Predicates.{bit-bits_of, length-bits_of, bits-small, element_bit-none}
use Rattle.guest_types.proofs.Registers.{chunk-elements, length-elements}
use Rattle.lane_blocks.specs.Blocks.{block_lanes, block_of, mask_of, with_mask, bit_below, below_of, spread_of}
use Rattle.lane_blocks.proofs.Lanes.{IsLanes, below-at}
use Rattle.lane_blocks.proofs.Masks.{lanes-bits}
use Rattle.lane_blocks.proofs.BlockSteps.{at-block, bit-mask, block-bytes}
use Rattle.lane_blocks.proofs.Bits.{bits-are, bits-made}
use Rattle.lane_preds.specs.Bits.{starts, flag_at, flags_of, compare_bit, compare_bits_of}
use Rattle.lane_preds.proofs.Patterns.{lane-of}

-- the flags of one comparison are those of the comparison that it is
pub by-compare : {n : ℕ} {xs : List ℕ} {op known : LaneCompare} (w : Width) (a b : List ℕ) → op ≡ known → IsLanes n (flag_at known w a b) xs → IsLanes n (flag_at op w a b) xs
by-compare {n} {xs} w a b is h = subst (λ o. IsLanes n (flag_at o w a b) xs) (sym is) h

-- ---- the bytes of small elements

no-bytes : (k t : ℕ) → get_or (bytes_of k 0) t 0 ≡ 0
no-bytes zero t = refl
no-bytes (suc k) zero = refl
no-bytes (suc k) (suc t) = no-bytes k t

small-bytes : (k x t : ℕ) → x < 256 → t < k → get_or (bytes_of k x) t 0 ≡ cond (eqb t 0) x 0
small-bytes zero x t small l = absurd (omega arith)
small-bytes (suc k) x zero small l = omega arith
small-bytes (suc k) x (suc t) small l = ap (λ n. get_or (bytes_of k n) t 0) (let none : x / 256 ≡ 0 = omega arith in none) ∙ no-bytes k t ∙ sym (cond-false _ _ _ (ne_eqb (suc t) 0 (λ e. omega arith)))

-- where a byte stands among elements
lane-in : (w : Width) (j : ℕ) → j < 32 → j / width_bytes w < block_lanes w
lane-in B j l = omega (arith, div-one j)
lane-in other j l = omega arith

rest-in : (w : Width) (j : ℕ) → j % width_bytes w < width_bytes w
rest-in B j = omega (arith, mod-one j)
rest-in other j = omega arith

whole-place : (w : Width) (j : ℕ) → width_bytes w * (j / width_bytes w) + j % width_bytes w ≡ j
whole-place B j = omega (arith, div-one j, mod-one j)
whole-place other j = omega arith

byte-of-elements : (w : Width) (f : ℕ → ℕ) (j : ℕ) → j < 32 → f (j / width_bytes w) < 256 → get_or (elements (width_bytes w) f (block_lanes w)) j 0 ≡ cond (starts (width_bytes w) j) (f (j / width_bytes w)) 0
byte-of-elements w f j l small =
    let k = width_bytes w in
    let e = j / k in
    let t = j % k in
    let z = elements k f (block_lanes w) in
    ap (λ i. get_or z i 0) (sym (whole-place w j))
    ∙ sym (get_or-chunk (k * e) k z t 0 (rest-in w j))
    ∙ ap (λ l. get_or (lib.Lanes.chunk (k * e) k l) t 0) (sym (append-nil z))
    ∙ ap (λ l. get_or l t 0) (chunk-elements k f (block_lanes w) e [] (lane-in w j l))
    ∙ small-bytes k (f e) t small (rest-in w j)

-- ---- the bits of a block

flag-bits : (s h b : Bool) → not (eqb (bit_and (cond s (cond h 1 0) 0) (cond b 1 0)) 0) ≡ (s && b && h)
flag-bits true true true = refl
flag-bits true true false = refl
flag-bits true false true = refl
flag-bits true false false = refl
flag-bits false h true = refl
flag-bits false h false = refl

flag-small : (t : Bool) → cond t 1 0 < 256
flag-small true = omega arith
flag-small false = omega arith

pub block-bits : (op : LaneCompare) (w : Width) (p a b flags mask : List ℕ) → flags ≡ flags_of op w a b → mask ≡ spread_of p → bits_of (λ j. not (eqb (get_or (zip2 bit_and flags mask) j 0) 0)) 4 ≡ compare_bits_of op w p a b
block-bits op w p a b flags mask is_flags is_mask =
    let k = width_bytes w in
    let long : length flags ≡ 32 = ap length is_flags ∙ length-elements k (flag_at op w a b) (block_lanes w) ∙ block-bytes w in
    let m = lanes-bits p mask is_mask in
    bits_of-ext (λ j. not (eqb (get_or (zip2 bit_and flags mask) j 0) 0)) (compare_bit op w p a b) 4 (λ j l.
    let inside : j < 32 = omega arith in
    let e = j / k in
    ap (λ n. not (eqb n 0))
    (get_or-zip2 bit_and flags mask j 0 0 0 (omega arith) (omega (arith, m.long))
    ∙ ap₂ bit_and
    (ap (λ z. get_or z j 0) is_flags ∙ byte-of-elements w (flag_at op w a b) j inside (flag-small (is_true op (modulus w) (at w a e) (at w b e))))
    (m.lane j inside))
    ∙ flag-bits (starts k j) (is_true op (modulus w) (at w a e) (at w b e)) (bit p j))

-- ---- a predicate that is written block by block

-- the bits below a limit
abbrev pub up_to : (ℕ → Bool) → ℕ → ℕ → Bool
up_to h limit j = h j && ltb j limit

pub none-yet : (h : ℕ → Bool) (z : List ℕ) → z ≡ predicate 1 h 0 → z ≡ bits_of (up_to h (32 * 0)) 32
none-yet h z is =
    is ∙ bits_of-ext (element_bit 1 h 0) (up_to h (32 * 0)) 32 (λ j l. element_bit-none 1 h j ∙ sym (and_right (h j) (ltb j (32 * 0)) (le-ltb j (32 * 0) (omega arith))))

module _ (was part : List ℕ) (i : ℕ) (long : length was ≡ 32) (four : length part ≡ 4) (l : i < 8) where
  is-put : with_mask was i part ≡ put_chunk (4 * i) was part
  is-put = sym (put_chunk_is (4 * i) was part (omega arith) ∙ ap (λ n. take (4 * i) was ++ (part ++ drop n (drop (4 * i) was))) four)

  written-inside : (j : ℕ) → j < 32 → bit (with_mask was i part) (32 * i + j) ≡ bit part j
  written-inside j u =
      let place : (32 * i + j) / 8 ≡ 4 * i + j / 8 = omega arith in
      let rest : (32 * i + j) % 8 ≡ j % 8 = omega arith in
      ap (λ z. bit z (32 * i + j)) is-put
      ∙ ap₂ (λ a s. eqb (bit_at (get_or (put_chunk (4 * i) was part) a 0) s) 1) place rest
      ∙ ap (λ b. eqb (bit_at b (j % 8)) 1) (get_or-put_chunk_at (4 * i) was part (j / 8) 0 (omega arith) (omega arith))

  written-outside : (j : ℕ) → j < 32 * i ⊎ (32 * i + 32 ≤ j) → bit (with_mask was i part) j ≡ bit was j
  written-outside j (inl u) =
      ap (λ z. bit z j) is-put ∙ ap (λ b. eqb (bit_at b (j % 8)) 1) (get_or-put_chunk_below (4 * i) was part (j / 8) 0 (omega arith))
  written-outside j (inr u) =
      ap (λ z. bit z j) is-put ∙ ap (λ b. eqb (bit_at b (j % 8)) 1) (get_or-put_chunk_above (4 * i) was part (j / 8) 0 (omega arith))

  written-small : ((j : ℕ) → get_or was j 0 < 256) → ((j : ℕ) → get_or part j 0 < 256) → (j : ℕ) → get_or (with_mask was i part) j 0 < 256
  written-small sw sp j =
      subst (λ z. get_or z j 0 < 256) (sym is-put)
      (below-at (put_chunk (4 * i) was part) (Each1-put_chunk (λ b. b < 256) (4 * i) was part (Each1-from_get_or (λ b. b < 256) was 0 (λ j u. sw j)) (Each1-from_get_or (λ b. b < 256) part 0 (λ j u. sp j))) j)

-- the step of a loop that writes the bits g as those of block i
pub mask-step : (h g : ℕ → Bool) (i : ℕ) (was now part : List ℕ) → i < 8 → was ≡ bits_of (up_to h (32 * i)) 32 → part ≡ bits_of g 4 → now ≡ with_mask was i part → ((j : ℕ) → j < 32 → g j ≡ h (32 * i + j)) → now ≡ bits_of (up_to h (32 * (i + 1))) 32
mask-step h g i was now part l is_was is_part put each =
    let w = bits-made (up_to h (32 * i)) was is_was in
    let four : length part ≡ 4 = ap length is_part ∙ length-bits_of g 4 in
    let sp : (j : ℕ) → get_or part j 0 < 256 = λ j. subst (λ z. get_or z j 0 < 256) (sym is_part) (bits-small g 4 j) in
    put ∙ bits-are (record {
      long = ap length (is-put was part i w.long four l) ∙ length-put_chunk (4 * i) was part ∙ w.long;
      small = written-small was part i w.long four l w.small sp;
      bits = λ j u. go j u (cases_lt j (32 * i)) (cases_lt j (32 * i + 32));
    })
  where
    go : (j : ℕ) → j < 256 → (j < 32 * i) ⊎ (32 * i ≤ j) → (j < 32 * i + 32) ⊎ (32 * i + 32 ≤ j) → bit (with_mask was i part) j ≡ up_to h (32 * (i + 1)) j
    go j u (inl before) x =
        let w = bits-made (up_to h (32 * i)) was is_was in
        let four : length part ≡ 4 = ap length is_part ∙ length-bits_of g 4 in
        written-outside was part i w.long four l j (inl before) ∙ w.bits j u
        ∙ ap (λ b. h j && b) (lt-ltb j (32 * i) before ∙ sym (lt-ltb j (32 * (i + 1)) (omega arith)))
    go j u (inr from) (inr past) =
        let w = bits-made (up_to h (32 * i)) was is_was in
        let four : length part ≡ 4 = ap length is_part ∙ length-bits_of g 4 in
        written-outside was part i w.long four l j (inr past) ∙ w.bits j u
        ∙ ap (λ b. h j && b) (le-ltb j (32 * i) from ∙ sym (le-ltb j (32 * (i + 1)) (omega arith)))
    go j u (inr from) (inl in_it) =
        let w = bits-made (up_to h (32 * i)) was is_was in
        let four : length part ≡ 4 = ap length is_part ∙ length-bits_of g 4 in
        let place : j ≡ 32 * i + (j - 32 * i) = omega arith in
        let low : j - 32 * i < 32 = omega arith in
        ap (bit (with_mask was i part)) place ∙ written-inside was part i w.long four l (j - 32 * i) low
        ∙ ap (λ z. bit z (j - 32 * i)) is_part ∙ bit-bits_of g 4 (j - 32 * i) low ∙ each (j - 32 * i) low ∙ ap h (sym place)
        ∙ sym (ap (λ b. h j && b) (lt-ltb j (32 * (i + 1)) (omega arith)) ∙ keep (h j))
      where
        keep : (b : Bool) → (b && true) ≡ b
        keep true = refl
        keep false = refl

-- ---- a comparison under a mask that ends with the vector length

starts-block : (w : Width) (i j : ℕ) → starts (width_bytes w) (32 * i + j) ≡ starts (width_bytes w) j
starts-block B i j = ap (λ r. eqb r 0) (mod-one (32 * i + j) ∙ sym (mod-one j))
starts-block H i j = ap (λ r. eqb r 0) (let same : (32 * i + j) % 2 ≡ j % 2 = omega arith in same)
starts-block S i j = ap (λ r. eqb r 0) (let same : (32 * i + j) % 4 ≡ j % 4 = omega arith in same)
starts-block D i j = ap (λ r. eqb r 0) (let same : (32 * i + j) % 8 ≡ j % 8 = omega arith in same)

lane-block : (w : Width) (i j : ℕ) → (32 * i + j) / width_bytes w ≡ block_lanes w * i + j / width_bytes w
lane-block B i j = omega (arith, div-one (32 * i + j), div-one j)
lane-block other i j = omega arith

regroup : (s b l h : Bool) → (s && (b && l) && h) ≡ (s && l && (b && h))
regroup true true true h = refl
regroup true true false h = refl
regroup true false true h = refl
regroup true false false h = refl
regroup false b l h = refl

module _ (op : LaneCompare) (w : Width) (vl : ℕ) (pg l r : List ℕ) (valid : IsLength vl) where
  block-bit : (i j : ℕ) → i < 8 → j < 32
      → compare_bit op w (mask_of (below_of pg (vl / 8)) i) (block_of l i) (block_of r i) j ≡ element_bit (width_bytes w) (compare_at op w pg l r) (lanes vl w) (32 * i + j)
  block-bit i j li lj =
      let k = width_bytes w in
      let m = modulus w in
      let e = j / k in
      let f = block_lanes w * i + e in
      let in_block = lane-in w j lj in
      let holds = is_true op m (at w l f) (at w r f) in
      ap₂ (λ b h. starts k j && b && h)
      (bit-mask (below_of pg (vl / 8)) i j lj ∙ bit-bits_of (bit_below pg (vl / 8)) 32 (32 * i + j) (omega arith))
      (ap₂ (is_true op m) (at-block w l i e in_block) (at-block w r i e in_block))
      ∙ regroup (starts k j) (bit pg (32 * i + j)) (ltb (32 * i + j) (vl / 8)) holds
      ∙ go (starts k j) refl
    where
      go : (t : Bool) → starts (width_bytes w) j ≡ t
          → (starts (width_bytes w) j && ltb (32 * i + j) (vl / 8) && (bit pg (32 * i + j) && is_true op (modulus w) (at w l (block_lanes w * i + j / width_bytes w)) (at w r (block_lanes w * i + j / width_bytes w)))) ≡ element_bit (width_bytes w) (compare_at op w pg l r) (lanes vl w) (32 * i + j)
      go false off =
          and_left _ _ (and_left _ _ off)
          ∙ sym (and_left _ _ (and_left _ _ (starts-block w i j ∙ off)))
      go true on =
          let k = width_bytes w in
          let place = lane-of w (32 * i + j) (starts-block w i j ∙ on) in
          ap₂ (λ a b. a && b)
          (ap₂ (λ a n. a && ltb (32 * i + j) n) (sym (starts-block w i j)) (sym (width_bytes-lanes vl w valid)))
          (ap₂ (λ p f. bit pg p && is_true op (modulus w) (at w l f) (at w r f)) place (sym (lane-block w i j)))

  pub compare-step : (i : ℕ) (used p a b was now part : List ℕ) → i < 8 → was ≡ bits_of (up_to (element_bit (width_bytes w) (compare_at op w pg l r) (lanes vl w)) (32 * i)) 32
      → used ≡ below_of pg (vl / 8) → p ≡ mask_of used i → a ≡ block_of l i → b ≡ block_of r i → part ≡ compare_bits_of op w p a b → now ≡ with_mask was i part
      → now ≡ bits_of (up_to (element_bit (width_bytes w) (compare_at op w pg l r) (lanes vl w)) (32 * (i + 1))) 32
  compare-step i used p a b was now part li inv is_used is_p is_a is_b is put =
      let mask = mask_of (below_of pg (vl / 8)) i in
      mask-step (element_bit (width_bytes w) (compare_at op w pg l r) (lanes vl w)) (compare_bit op w mask (block_of l i) (block_of r i)) i was now part li inv
      (is ∙ ap (λ m. compare_bits_of op w m a b) (is_p ∙ ap (λ u. mask_of u i) is_used) ∙ ap₂ (compare_bits_of op w mask) is_a is_b)
      put (λ j lj. block-bit i j li lj)

  pub compare-end : (i : ℕ) (z : List ℕ) → z ≡ bits_of (up_to (element_bit (width_bytes w) (compare_at op w pg l r) (lanes vl w)) (32 * i)) 32 → (vl / 8 + 31) / 32 ≤ i → z ≡ compare_of op w (lanes vl w) pg l r
  compare-end i z inv all =
      let h = element_bit (width_bytes w) (compare_at op w pg l r) (lanes vl w) in
      inv ∙ bits_of-ext (up_to h (32 * i)) h 32 (λ j u. go j (cases_lt j (32 * i)))
    where
      keep : (b : Bool) → (b && true) ≡ b
      keep true = refl
      keep false = refl

      go : (j : ℕ) → (j < 32 * i) ⊎ (32 * i ≤ j) → up_to (element_bit (width_bytes w) (compare_at op w pg l r) (lanes vl w)) (32 * i) j ≡ element_bit (width_bytes w) (compare_at op w pg l r) (lanes vl w) j
      go j (inl low) = ap (λ b. element_bit (width_bytes w) (compare_at op w pg l r) (lanes vl w) j && b) (lt-ltb j (32 * i) low) ∙ keep (element_bit (width_bytes w) (compare_at op w pg l r) (lanes vl w) j)
      go j (inr past) =
          let k = width_bytes w in
          let end : ltb j (k * lanes vl w) ≡ false = le-ltb j (k * lanes vl w) (omega (arith, width_bytes-lanes vl w valid)) in
          and_right _ _ (le-ltb j (32 * i) past) ∙ sym (and_left _ _ (and_right (starts k j) (ltb j (k * lanes vl w)) end))

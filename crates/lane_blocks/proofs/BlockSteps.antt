-- The step of a loop over blocks of 32 bytes.
use Rattle.std.proofs.Common.{subst, length-append, ◌≡◌, ℕ, zero, suc, ◌+◌, ◌-◌, ◌*◌, ◌/◌, ◌%◌, ◌^◌, ◌<◌, ◌≤◌, eqb, List, [], ◌++◌, length, get_or, take, drop, refl, sym, ap, ap₂, ◌∙◌, arith, add-one, append_assoc, replicate}
use Rattle.std.specs.Simd.{first_chunks}
use Rattle.std.proofs.lemmas.Simd.{get_or-chunk, put_chunk_whole}
use Rattle.std.proofs.lemmas.List.{drop-drop, append-nil, take_at, take_all, take-take, length-take-le, length-drop}
use Rattle.std.proofs.Math.Nat.{mul-suc, mul-zero, mul-add, mul_assoc, mod-eq_of_lt}
use lib.Lanes.{chunk, put_chunk}
use borrow.Rule.Slice.PartMut.{put_mid, mid_of}
use Rattle.guest_types.specs.declared.length.Width.{Width}
use Rattle.guest_types.specs.declared.length.Width.TheVariants.{B}
use Rattle.guest_types.specs.Length.{IsLength, width_bytes, modulus, lanes, all_lanes}
use Rattle.guest_types.specs.Elements.{number_of_bytes, elements, register, at, bit}
use Rattle.guest_types.proofs.Registers.{elements-ext, elements-split, element-block, chunk-elements, length-elements}
use Rattle.guest_types.proofs.AtWidths.{width_bytes-lanes}
use Rattle.guest_types.proofs.Numbers.{number-bytes_of}
use Rattle.guest_types.proofs.Widths.{modulus-is, whole-register}
use Rattle.lane_blocks.specs.Blocks.{block_lanes, block_of, with_block, cleared_above}

pub block-bytes : (w : Width) → width_bytes w * block_lanes w ≡ 32
block-bytes B = refl
block-bytes other = refl

pub all-blocks : (w : Width) → block_lanes w * 8 ≡ all_lanes w
all-blocks B = refl
all-blocks other = refl

pub lane-inside : (w : Width) (e : ℕ) → e < block_lanes w → (0 < width_bytes w) × (width_bytes w * e < 32)
lane-inside B e l = (omega arith, omega arith)
lane-inside other e l = (omega arith, omega arith)

-- ---- parts of a list

get_or-first_chunks : (n k i : ℕ) (z d : List ℕ) → i < k → get_or (first_chunks n k z) i d ≡ chunk (n * i) n z
get_or-first_chunks n zero i z d l = absurd (omega arith)
get_or-first_chunks n (suc k) zero z d l = ap (λ j. take n (drop j z)) (sym (mul-zero n))
get_or-first_chunks n (suc k) (suc i) z d l = get_or-first_chunks n k i (drop n z) d (omega arith) ∙ ap (take n) (drop-drop (n * i) n z ∙ ap (λ j. drop j z) (omega (arith, mul-suc n i)))

pub part-of : (n : ℕ) (z : List ℕ) (parts : List (List ℕ)) (i : ℕ) → parts ≡ first_chunks n (length z / n) z → i < length z / n → get_or parts i [] ≡ chunk (n * i) n z
part-of n z parts i e l = ap (λ bs. get_or bs i []) e ∙ get_or-first_chunks n (length z / n) i z [] l

-- an element of block i
pub at-block : (w : Width) (z : List ℕ) (i e : ℕ) → e < block_lanes w → at w (block_of z i) e ≡ at w z (block_lanes w * i + e)
at-block w z i e l =
    ap (λ b. at w (chunk (b * i) b z) e) (sym (block-bytes w)) ∙ element-block (width_bytes w) (block_lanes w) i e z l

-- bit j of the mask of block i
pub bit-mask : (p : List ℕ) (i j : ℕ) → j < 32 → bit (chunk (4 * i) 4 p) j ≡ bit p (32 * i + j)
bit-mask p i j l =
    ap (λ b. eqb (b / 2 ^ (j % 8) % 2) 1) (get_or-chunk (4 * i) 4 p (j / 8) 0 (omega arith))
    ∙ ap₂ (λ a s. eqb (get_or p a 0 / 2 ^ s % 2) 1) (let d : 4 * i + j / 8 ≡ (32 * i + j) / 8 = omega arith in d) (let r : j % 8 ≡ (32 * i + j) % 8 = omega arith in r)

pub active-block : (w : Width) (p : List ℕ) (i e : ℕ) → e < block_lanes w → bit (chunk (4 * i) 4 p) (width_bytes w * e) ≡ bit p (width_bytes w * (block_lanes w * i + e))
active-block w p i e l =
    bit-mask p i (width_bytes w * e) (lane-inside w e l).1
    ∙ ap (bit p) (ap (λ n. n * i + width_bytes w * e) (sym (block-bytes w)) ∙ omega (arith, mul-add (width_bytes w) (block_lanes w * i) e, mul_assoc (width_bytes w) (block_lanes w) i))

-- an element of a block that was made
pub at-elements : (w : Width) (f : ℕ → ℕ) (n e : ℕ) → e < n → f e < modulus w → at w (elements (width_bytes w) f n) e ≡ f e
at-elements w f n e l below =
    let k = width_bytes w in
    ap (λ z. at w z e) (sym (append-nil (elements k f n))) ∙ ap number_of_bytes (chunk-elements k f n e [] l) ∙ number-bytes_of k (f e)
    ∙ ap (λ m. f e % m) (sym (modulus-is w)) ∙ mod-eq_of_lt below

-- ---- a register that is written block by block

-- the first i blocks of a register are the elements f
pub record Begins (w : Width) (f : ℕ → ℕ) (i : ℕ) (z : List ℕ) : Type 0 where
  pub blocks : take (32 * i) z ≡ elements (width_bytes w) f (block_lanes w * i)

pub begins-none : (w : Width) (f : ℕ → ℕ) (z : List ℕ) → Begins w f 0 z
unfolding elements
begins-none w f z = record { blocks = ap (elements (width_bytes w) f) (sym (mul-zero (block_lanes w))) }

pub written : (w : Width) (f : ℕ → ℕ) (i : ℕ) (was now block : List ℕ) → Begins w f i was → now ≡ with_block was i block → block ≡ elements (width_bytes w) (λ e. f (block_lanes w * i + e)) (block_lanes w)
    → (now ≡ elements (width_bytes w) f (block_lanes w * (i + 1)) ++ drop 32 (drop (32 * i) was)) × (length (elements (width_bytes w) f (block_lanes w * (i + 1))) ≡ 32 * (i + 1))
written w f i was now block h put same =
    let k = width_bytes w in
    let q = block_lanes w in
    let front = elements k f (q * i) in
    let back = elements k (λ e. f (q * i + e)) q in
    let rest = drop 32 (drop (32 * i) was) in
    let next : q * i + q ≡ q * (i + 1) = omega (arith, mul-suc q i, ap (λ j. q * j) (add-one i)) in
    let joined : front ++ back ≡ elements k f (q * (i + 1)) = sym (elements-split k f (q * i) q) ∙ ap (elements k f) next in (
      put ∙ ap₂ (λ a b. a ++ (b ++ rest)) h.blocks same ∙ sym (append_assoc front back rest) ∙ ap (λ l. l ++ rest) joined,
      length-elements k f (q * (i + 1)) ∙ sym (mul_assoc k q (i + 1)) ∙ ap (λ b. b * (i + 1)) (block-bytes w),
    )

pub begins-more : (w : Width) (f g : ℕ → ℕ) (i : ℕ) (was now block : List ℕ) → Begins w f i was → now ≡ with_block was i block → block ≡ elements (width_bytes w) g (block_lanes w)
    → ((e : ℕ) → e < block_lanes w → g e ≡ f (block_lanes w * i + e)) → Begins w f (i + 1) now
begins-more w f g i was now block h put is each =
    let k = width_bytes w in
    let q = block_lanes w in
    let made = written w f i was now block h put (is ∙ elements-ext k g (λ e. f (q * i + e)) q each) in
    record { blocks = ap (take (32 * (i + 1))) made.0 ∙ take_at (elements k f (q * (i + 1))) (drop 32 (drop (32 * i) was)) (32 * (i + 1)) made.1 }

-- the same of a register whose length is known
pub record Holds (w : Width) (f : ℕ → ℕ) (i : ℕ) (z : List ℕ) : Type 0 where
  pub long : length z ≡ 256
  pub begins : Begins w f i z

pub holds-none : (w : Width) (f : ℕ → ℕ) (z : List ℕ) → length z ≡ 256 → Holds w f 0 z
holds-none w f z long = record { long = long; begins = begins-none w f z }

pub holds-more : (w : Width) (f g : ℕ → ℕ) (i : ℕ) (was now block : List ℕ) → i < 8 → Holds w f i was → now ≡ with_block was i block → block ≡ elements (width_bytes w) g (block_lanes w)
    → ((e : ℕ) → e < block_lanes w → g e ≡ f (block_lanes w * i + e)) → Holds w f (i + 1) now
holds-more w f g i was now block l h put is each =
    let k = width_bytes w in
    let q = block_lanes w in
    let made = written w f i was now block h.begins put (is ∙ elements-ext k g (λ e. f (q * i + e)) q each) in
    let rest = drop 32 (drop (32 * i) was) in
    record {
      long = ap length made.0 ∙ length-append (elements k f (q * (i + 1))) rest ∙ omega (arith, made.1, length-drop 32 (drop (32 * i) was), length-drop (32 * i) was, h.long);
      begins = begins-more w f g i was now block h.begins put is each;
    }

-- all eight blocks are the register
pub holds-all : (w : Width) (f : ℕ → ℕ) (z : List ℕ) → Holds w f 8 z → z ≡ register (width_bytes w) f (all_lanes w)
holds-all w f z h =
    let k = width_bytes w in
    sym (take_all 256 z (omega (arith, h.long))) ∙ h.begins.blocks ∙ ap (elements k f) (all-blocks w) ∙ sym (append-nil (elements k f (all_lanes w)))
    ∙ ap (λ r. elements k f (all_lanes w) ++ replicate r 0) (let none : 0 ≡ 256 - k * all_lanes w = omega (arith, whole-register w) in none)

-- a vector written over n items
pub put-part : (n at m : ℕ) (z part : List ℕ) → m ≡ n → at + n ≤ length z → length part ≡ n → put_mid at m z (put_chunk 0 (mid_of at m z) part) ≡ take at z ++ (part ++ drop n (drop at z))
put-part n at m z part size fits long =
    let inside : length (take m (drop at z)) ≡ length part = omega (arith, length-take-le m (drop at z) (omega (arith, length-drop at z))) in
    ap₂ (λ n ys. take at z ++ (ys ++ drop n (drop at z))) size (put_chunk_whole (take m (drop at z)) part inside)

-- the same after a loop to 8
pub holds-end : (w : Width) (f : ℕ → ℕ) (i : ℕ) (z : List ℕ) → Holds w f i z → i ≤ 8 → 8 ≤ i → z ≡ register (width_bytes w) f (all_lanes w)
holds-end w f i z h most least =
    let last : i ≡ 8 = omega arith in
    holds-all w f z (subst (λ j. Holds w f j z) last h)

-- ---- a register of a vector length

pub shorter : (w : Width) (vl i : ℕ) → IsLength vl → (vl / 8 + 31) / 32 ≤ i → lanes vl w ≤ block_lanes w * i
shorter B vl i h all = omega arith
shorter other vl i h all = omega arith

-- the blocks of the length, and zeros past it
pub begins-cleared : (w : Width) (f : ℕ → ℕ) (vl i : ℕ) (z now : List ℕ) → IsLength vl → Begins w f i z → (vl / 8 + 31) / 32 ≤ i → now ≡ cleared_above z (vl / 8) → now ≡ register (width_bytes w) f (lanes vl w)
begins-cleared w f vl i z now valid h all is =
    let k = width_bytes w in
    let n = lanes vl w in
    let size : k * n ≡ vl / 8 = width_bytes-lanes vl w valid in
    let room : n ≤ block_lanes w * i = shorter w vl i valid all in
    let more : block_lanes w * i ≡ n + (block_lanes w * i - n) = omega arith in
    let rest = elements k (λ e. f (n + e)) (block_lanes w * i - n) in
    let whole : take (32 * i) z ≡ elements k f n ++ rest = h.blocks ∙ ap (elements k f) more ∙ elements-split k f n (block_lanes w * i - n) in
    let short : vl / 8 ≤ 32 * i = omega arith in
    let front : take (vl / 8) z ≡ elements k f n =
    sym (take-take (vl / 8) (32 * i) z short) ∙ ap (take (vl / 8)) whole ∙ take_at (elements k f n) rest (vl / 8) (length-elements k f n ∙ size) in
    is ∙ ap₂ (λ l r. l ++ replicate (256 - r) 0) front (sym size)

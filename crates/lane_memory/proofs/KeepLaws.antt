-- The active elements of a register, block by block.
use Rattle.std.proofs.Common.{◌≡◌, ℕ, zero, suc, ◌+◌, ◌-◌, ◌*◌, ◌/◌, ◌<◌, ◌≤◌, true, ◌&&◌, cond, List, [], ◌++◌, length, get_or, take, drop, replicate, append_assoc, refl, sym, ap, ap₂, ◌∙◌, subst, arith}
use Rattle.std.specs.Prelude.{nat_lt}
use Rattle.std.proofs.lemmas.Bool.{lt-ltb, le-ltb, cond-true, cond-false, and_right}
use Rattle.std.proofs.lemmas.List.{take_at, drop-drop, drop-take, take-take, append-nil, drop-replicate, length-take-le, length-drop, length-append}
use Rattle.std.proofs.Math.Seq.{drop-append-add}
use Rattle.std.proofs.Math.Nat.{mul_assoc, mul-le-mul_left}
use mathlib.Core.Bool.{and-true}
use Rattle.guest_types.specs.declared.length.Width.{Width}
use Rattle.guest_types.specs.declared.length.Width.TheVariants.{B}
use Rattle.guest_types.specs.Length.{width_bytes, all_lanes}
use Rattle.guest_types.specs.Elements.{number_of_bytes, bytes_of, at, active, elements, register}
use Rattle.guest_types.specs.Lanes.{select_at}
use lib.Lanes.{chunk}
use Rattle.guest_types.proofs.AtWidths.{register-zeros, register-of}
use Rattle.guest_types.proofs.Predicates.{bit-bits_of}
use Rattle.guest_types.proofs.Registers.{register-ext, elements-ext, elements-split, length-elements, chunk-elements}
use Rattle.guest_types.proofs.Widths.{whole-register, lane-inside}
use Rattle.lane_blocks.specs.Blocks.{block_lanes, block_of, mask_of, with_block, cleared_above, choose_at, choose_of, bit_below, below_of}
use Rattle.lane_blocks.proofs.BlockSteps.{Begins, block-bytes, all-blocks, at-block, active-block, begins-more}
use Rattle.lane_memory.specs.Readings.{masked_at, masked_of}

-- ---- one block more

zeros_number : (k m : ℕ) → number_of_bytes (take k (replicate {A = ℕ} m 0)) ≡ 0
zeros_number zero m = refl
zeros_number (suc k) zero = refl
zeros_number (suc k) (suc m) = ap (λ n. 0 + 256 * n) (zeros_number k m)

at-zeros : (w : Width) (n e : ℕ) → at w (replicate n 0) e ≡ 0
at-zeros w n e =
    let k = width_bytes w in
    ap (λ l. number_of_bytes (take k l)) (drop-replicate (k * e) n 0) ∙ zeros_number k (n - k * e)

-- as far as a loop has come: blocks that hold the elements f, and the rest as it was
pub record Built (w : Width) (f : ℕ → ℕ) (old : List ℕ) (i : ℕ) (z : List ℕ) : Type 0 where
  pub long : length z ≡ 256
  pub done : Begins w f i z
  pub rest : drop (32 * i) z ≡ drop (32 * i) old

pub built-more : (w : Width) (f g : ℕ → ℕ) (old was now block : List ℕ) (i : ℕ) → Built w f old i was → i < 8 → block ≡ elements (width_bytes w) g (block_lanes w) → ((e : ℕ) → e < block_lanes w → g e ≡ f (block_lanes w * i + e)) → now ≡ with_block was i block → Built w f old (i + 1) now
built-more w f g old was now block i h l is each put =
    let size : length block ≡ 32 = ap length is ∙ length-elements (width_bytes w) g (block_lanes w) ∙ block-bytes w in
    let front = take (32 * i) was in
    let tail = drop 32 (drop (32 * i) was) in
    let before : length front ≡ 32 * i = length-take-le (32 * i) was (omega (arith, h.long)) in
    let up : 32 * (i + 1) ≡ 32 * i + 32 = omega arith in
    record {
      long = ap length put ∙ omega (arith, length-append front (block ++ tail), length-append block tail, before, size, length-drop 32 (drop (32 * i) was), length-drop (32 * i) was, h.long);
      done = begins-more w f g i was now block h.done put is each;
      rest = ap₂ drop up put
          ∙ ap (λ n. drop (n + 32) (front ++ (block ++ tail))) (sym before) ∙ drop-append-add front (block ++ tail) 32
          ∙ ap (λ n. drop n (block ++ tail)) (sym size ∙ (let q : length block ≡ length block + 0 = omega arith in q)) ∙ drop-append-add block tail 0
          ∙ ap (drop 32) h.rest ∙ drop-drop 32 (32 * i) old ∙ ap (λ n. drop n old) (sym up);
    }

-- a block of which the active elements are kept
pub kept-more : (w : Width) (pg old : List ℕ) (i : ℕ) (was now mask part block : List ℕ) → Built w (masked_at w pg old) old i was → i < 8 → mask ≡ mask_of pg i → part ≡ block_of was i → block ≡ choose_of w mask part (replicate 32 0) → now ≡ with_block was i block → Built w (masked_at w pg old) old (i + 1) now
kept-more w pg old i was now mask part block h l bits bytes is put =
    built-more w (masked_at w pg old) (choose_at w (mask_of pg i) (block_of old i) (replicate 32 0)) old was now block i h l
    (is ∙ ap₂ (λ m p. choose_of w m p (replicate 32 0)) bits (bytes ∙ ap (take 32) h.rest))
    (λ e inside. ap₂ (λ b x. cond b x (at w (replicate 32 0) e)) (active-block w pg i e inside) (at-block w old i e inside) ∙ ap (cond (active w pg (block_lanes w * i + e)) (at w old (block_lanes w * i + e))) (at-zeros w 32 e))
    put

-- a block of which the active elements are those of another register
pub merged-more : (w : Width) (pg z old : List ℕ) (i : ℕ) (was now mask part other block : List ℕ) → Built w (select_at w pg z old) old i was → i < 8 → mask ≡ mask_of pg i → part ≡ block_of z i → other ≡ block_of was i → block ≡ choose_of w mask part other → now ≡ with_block was i block → Built w (select_at w pg z old) old (i + 1) now
merged-more w pg z old i was now mask part other block h l bits bytes others is put =
    built-more w (select_at w pg z old) (choose_at w (mask_of pg i) (block_of z i) (block_of old i)) old was now block i h l
    (is ∙ ap₂ (λ m p. choose_of w m p other) bits bytes ∙ ap (choose_of w (mask_of pg i) (block_of z i)) (others ∙ ap (take 32) h.rest))
    (λ e inside. ap₂ (λ b x. cond b x (at w (block_of old i) e)) (active-block w pg i e inside) (at-block w z i e inside)
    ∙ ap (cond (active w pg (block_lanes w * i + e)) (at w z (block_lanes w * i + e))) (at-block w old i e inside))
    put

lane_of_byte : (w : Width) (e n : ℕ) → width_bytes w * e < 32 * n → (e < block_lanes w * n) × (width_bytes w * e + width_bytes w ≤ 32 * n)
lane_of_byte B e n h = (omega arith, omega arith)
lane_of_byte other e n h = (omega arith, omega arith)

-- the bytes of an element of the blocks
pub built-chunk : (w : Width) (f : ℕ → ℕ) (old : List ℕ) (n : ℕ) (z : List ℕ) (e : ℕ) → Built w f old n z → width_bytes w * e < 32 * n → chunk (width_bytes w * e) (width_bytes w) z ≡ bytes_of (width_bytes w) (f e)
built-chunk w f old n z e h l =
    let k = width_bytes w in
    let inside = lane_of_byte w e n l in
    let rest : 32 * n ≡ k * e + (32 * n - k * e) = omega (arith, inside.1) in
    sym (
    ap (λ m. take k (drop (k * e) (take m z))) rest ∙ ap (take k) (drop-take (k * e) (32 * n - k * e) z) ∙ take-take k (32 * n - k * e) (drop (k * e) z) (omega (arith, inside.1))
    )
    ∙ ap (chunk (k * e) k) (h.done.blocks ∙ sym (append-nil (elements k f (block_lanes w * n))))
    ∙ chunk-elements k f (block_lanes w * n) e [] inside.0

-- and zeros above the blocks
pub kept-whole : (w : Width) (pg old : List ℕ) (n : ℕ) (z now : List ℕ) → Built w (masked_at w pg old) old n z → now ≡ cleared_above z (32 * n) → now ≡ masked_of w pg old (block_lanes w * n)
kept-whole w pg old n z now h is =
    let size : 32 * n ≡ width_bytes w * (block_lanes w * n) = ap (λ b. b * n) (sym (block-bytes w)) ∙ mul_assoc (width_bytes w) (block_lanes w) n in
    is ∙ ap₂ (λ l r. l ++ replicate (256 - r) 0) h.done.blocks size

-- ---- the first elements of a predicate

-- the blocks that so many elements fill
pub lanes_within_blocks : (w : Width) (n : ℕ) → n ≤ block_lanes w * ((width_bytes w * n + 31) / 32)
lanes_within_blocks B n = omega arith
lanes_within_blocks other n = omega arith

pub few : (w : Width) (n : ℕ) → n ≤ all_lanes w → (width_bytes w * n + 31) / 32 ≤ 8
few B n h = omega arith
few other n h = omega arith

active-below : (w : Width) (pg : List ℕ) (n e : ℕ) → e < all_lanes w → active w (below_of pg (width_bytes w * n)) e ≡ (active w pg e && nat_lt (width_bytes w * e) (width_bytes w * n))
active-below w pg n e inside =
    let low = lane-inside w e (all_lanes w) inside (omega (arith, whole-register w)) in
    bit-bits_of (bit_below pg (width_bytes w * n)) 32 (width_bytes w * e) low

pub scaled_lt : (w : Width) (e n : ℕ) → e < n → width_bytes w * e < width_bytes w * n
scaled_lt B e n h = omega arith
scaled_lt other e n h = omega arith

pub masked-below : (w : Width) (pg z kept : List ℕ) (n blocks : ℕ) → n ≤ all_lanes w → kept ≡ below_of pg (width_bytes w * n) → blocks ≡ (width_bytes w * n + 31) / 32 → masked_of w kept z (block_lanes w * blocks) ≡ masked_of w pg z n
masked-below w pg z kept n blocks fits is count =
    let k = width_bytes w in
    let m = block_lanes w * blocks in
    let up : n ≤ m = subst (λ b. n ≤ block_lanes w * b) (sym count) (lanes_within_blocks w n) in
    let most : m ≤ all_lanes w = omega (arith, mul-le-mul_left (block_lanes w) (let b : blocks ≤ 8 = omega (arith, count, few w n fits) in b), all-blocks w) in
    let split : n + (m - n) ≡ m = omega arith in
    let f = masked_at w kept z in
    ap (register k f) (sym split)
    ∙ register-zeros k f n (m - n) (subst (λ m. k * m ≤ 256) (sym split) (omega (arith, whole-register w, mul-le-mul_left k most)))
    (λ e least below. cond-false _ _ _ (ap (λ p. active w p e) is ∙ active-below w pg n e (omega arith) ∙ and_right (active w pg e) (nat_lt (k * e) (k * n)) (le-ltb (k * e) (k * n) (mul-le-mul_left k least))))
    ∙ register-ext k f (masked_at w pg z) n
    (λ e below. ap (λ b. cond b (at w z e) 0) (ap (λ p. active w p e) is ∙ active-below w pg n e (omega arith) ∙ ap (λ t. active w pg e && t) (lt-ltb (k * e) (k * n) (scaled_lt w e n below)) ∙ and-true (active w pg e)))

-- the first elements, where all of them are active
pub first-kept : (w : Width) (pg z : List ℕ) (n : ℕ) → n ≤ all_lanes w → length z ≡ 256 → ((i : ℕ) → get_or z i 0 < 256) → ((e : ℕ) → e < n → active w pg e ≡ true) → cleared_above z (width_bytes w * n) ≡ masked_of w pg z n
first-kept w pg z n fits long small on =
    let k = width_bytes w in
    let f = at w z in
    let d = all_lanes w - n in
    let rest = elements k (λ e. f (n + e)) d in
    let none = replicate {A = ℕ} (256 - k * all_lanes w) 0 in
    let split : all_lanes w ≡ n + d = omega arith in
    let whole : z ≡ elements k f n ++ (rest ++ none) =
    register-of w z long small ∙ ap (λ l. l ++ none) (ap (elements k f) split ∙ elements-split k f n d) ∙ append_assoc (elements k f n) rest none in
    let front : take (k * n) z ≡ elements k (masked_at w pg z) n =
    ap (take (k * n)) whole ∙ take_at (elements k f n) (rest ++ none) (k * n) (length-elements k f n)
    ∙ elements-ext k f (masked_at w pg z) n (λ e below. sym (cond-true _ _ _ (on e below))) in
    ap (λ l. l ++ replicate (256 - k * n) 0) front

-- The fold of a block by halves.
use Rattle.std.proofs.Common.{◌≡◌, ℕ, ◌+◌, ◌-◌, ◌*◌, ◌/◌, ◌<◌, ◌≤◌, List, ◌++◌, length, take, drop, refl, sym, ap, ◌∙◌, subst, arith, length-append}
use Rattle.std.specs.List.{range_with_len}
use Rattle.std.proofs.lemmas.List.{drop-drop, take_at}
use Rattle.std.proofs.lemmas.Simd.{pick_l-range_with_len, length-chunk}
use lib.Lanes.{Each1, chunk, pick_l}
use Rattle.guest_types.specs.declared.length.Width.{Width}
use Rattle.guest_types.specs.declared.length.Width.TheVariants.{B, H, S, D}
use Rattle.guest_types.specs.declared.operation.LaneOp.{LaneOp}
use Rattle.guest_types.specs.declared.operation.ReduceOp.{ReduceOp}
use Rattle.guest_types.specs.Length.{width_bytes, modulus}
use Rattle.guest_types.specs.Elements.{at, number_of_bytes}
use Rattle.guest_types.specs.Lanes.{lane, binary_at, folded, joined, identity, fold_limit}
use Rattle.guest_types.proofs.Folds.{folded-none, folded-more}
use Rattle.guest_types.proofs.Registers.{chunk-take}
use Rattle.lane_blocks.specs.Blocks.{block_lanes}
use Rattle.lane_blocks.proofs.Masks.{element-small}
use Rattle.lane_blocks.proofs.BlockSteps.{at-elements}
use Rattle.lane_arith.specs.Blocks.{binary_block_of, bytes_fold}
use Rattle.lane_arith.proofs.Joins.{joins-of, element-joins, folded-ext, folded-split, folded-zip}

-- ---- a block that is turned

-- the bytes of a block from byte n on, and then those below
abbrev pub from_byte : ℕ → List ℕ → List ℕ
from_byte n x = pick_l 0 (x ++ x) (range_with_len n (32 - n)) ++ pick_l 0 (x ++ x) (range_with_len 0 n)

-- part of a part, and of the front of a list
part-part : (i k n m : ℕ) (z : List ℕ) → i + k ≤ m → chunk i k (chunk n m z) ≡ chunk (n + i) k z
part-part i k n m z fits = chunk-take i k m (drop n z) fits ∙ ap (take k) (drop-drop i n z)

part-front : (i k n : ℕ) (x y : List ℕ) → length x ≡ n → i + k ≤ n → chunk i k (x ++ y) ≡ chunk i k x
part-front i k n x y long fits = sym (chunk-take i k n (x ++ y) fits) ∙ ap (chunk i k) (take_at x y n long)

room : (w : Width) (h e : ℕ) → h + e < block_lanes w → width_bytes w * h + (width_bytes w * e + width_bytes w) ≤ 32
room B h e l = omega arith
room other h e l = omega arith

place : (w : Width) (h e : ℕ) → width_bytes w * h + width_bytes w * e ≡ width_bytes w * (h + e)
place B h e = omega arith
place other h e = omega arith

-- its elements are those from the h-th on
at-above : (w : Width) (x : List ℕ) (n h e : ℕ) → length x ≡ 32 → width_bytes w * h ≡ n → h + e < block_lanes w → at w (from_byte n x) e ≡ at w x (h + e)
at-above w x n h e long is inside =
    let k = width_bytes w in
    let fits : n + (k * e + k) ≤ 32 = subst (λ j. j + (k * e + k) ≤ 32) is (room w h e inside) in
    let double : length (x ++ x) ≡ 64 = omega (arith, length-append x x) in
    let some : n + (32 - n) ≤ length (x ++ x) = omega arith in
    let upper : pick_l 0 (x ++ x) (range_with_len n (32 - n)) ≡ chunk n (32 - n) (x ++ x) = pick_l-range_with_len 0 (x ++ x) n (32 - n) some in
    ap (λ z. number_of_bytes (chunk (k * e) k (z ++ pick_l 0 (x ++ x) (range_with_len 0 n)))) upper
    ∙ ap number_of_bytes (
    part-front (k * e) k (32 - n) (chunk n (32 - n) (x ++ x)) (pick_l 0 (x ++ x) (range_with_len 0 n)) (length-chunk n (32 - n) (x ++ x) some) (omega arith)
    ∙ part-part (k * e) k n (32 - n) (x ++ x) (omega arith) ∙ part-front (n + k * e) k 32 x x long (omega arith)
    ∙ ap (λ j. chunk j k x) (ap (λ j. j + k * e) (sym is) ∙ place w h e))

-- ---- halves

-- n bytes are some elements, and twice as many are a block at most
pub record IsHalf (w : Width) (n : ℕ) : Type 0 where
  pub whole : width_bytes w * (n / width_bytes w) ≡ n
  pub twice : (n + n) / width_bytes w ≡ n / width_bytes w + n / width_bytes w
  pub inside : n / width_bytes w + n / width_bytes w ≤ block_lanes w

half-16 : (w : Width) → IsHalf w 16
half-16 B = record { whole = refl; twice = refl; inside = omega arith }
half-16 other = record { whole = refl; twice = refl; inside = omega arith }

half-8 : (w : Width) → IsHalf w 8
half-8 B = record { whole = refl; twice = refl; inside = omega arith }
half-8 other = record { whole = refl; twice = refl; inside = omega arith }

half-4 : (w : Width) → width_bytes w ≤ 4 → IsHalf w 4
half-4 D narrow = absurd (omega arith)
half-4 other narrow = record { whole = refl; twice = refl; inside = omega arith }

half-2 : (w : Width) → width_bytes w ≤ 2 → IsHalf w 2
half-2 B narrow = record { whole = refl; twice = refl; inside = omega arith }
half-2 H narrow = record { whole = refl; twice = refl; inside = omega arith }
half-2 S narrow = absurd (omega arith)
half-2 D narrow = absurd (omega arith)

half-1 : IsHalf B 1
half-1 = record { whole = refl; twice = refl; inside = omega arith }

module _ (op : ReduceOp) (w : Width) (join : LaneOp) (same : (m a b : ℕ) → joined op m a b ≡ lane join m a b) (element : (m : ℕ) → fold_limit op m ≡ m) where
  lane_below_fold_limit : (x : List ℕ) → Each1 (λ b. b < 256) x → (e : ℕ) → at w x e < fold_limit op (modulus w)
  lane_below_fold_limit x sx e = element-joins op w (at w x e) (element-small w x e sx)

  -- the elements of n bytes, joined with those of the next n, fold to the same
  halved : (n : ℕ) (x now : List ℕ) → IsHalf w n → length x ≡ 32 → Each1 (λ b. b < 256) x → now ≡ binary_block_of join w x (from_byte n x) → bytes_fold op w n now ≡ bytes_fold op w (n + n) x
  halved n x now half long sx is =
      let m = modulus w in
      let h = n / width_bytes w in
      let j = joined op m in
      let id = identity op m in
      let both : ℕ → ℕ = λ e. j (at w x e) (at w x (h + e)) in
      folded-ext j id (at w now) both h
      (λ e l.
      let l2 : h + e < block_lanes w = omega (arith, half.inside) in
      let l1 : e < block_lanes w = omega (arith, half.inside) in
      let value : binary_at join w x (from_byte n x) e ≡ both e = ap (lane join m (at w x e)) (at-above w x n h e long half.whole l2) ∙ sym (same m (at w x e) (at w x (h + e))) in
      let below : both e < m = subst (λ b. both e < b) (element m) ((joins-of op w).closed (at w x e) (at w x (h + e)) (lane_below_fold_limit x sx e) (lane_below_fold_limit x sx (h + e))) in
      ap (λ z. at w z e) is ∙ at-elements w (binary_at join w x (from_byte n x)) (block_lanes w) e l1 (subst (λ v. v < m) (sym value) below) ∙ value)
      ∙ folded-zip j id (fold_limit op m) (joins-of op w) (at w x) (λ e. at w x (h + e)) h (lane_below_fold_limit x sx) (λ e. lane_below_fold_limit x sx (h + e))
      ∙ sym (folded-split j id (fold_limit op m) (joins-of op w) (at w x) h h (lane_below_fold_limit x sx)) ∙ ap (folded j id (at w x)) (sym half.twice)

  pub halved-16 : (x now : List ℕ) → length x ≡ 32 → Each1 (λ b. b < 256) x → now ≡ binary_block_of join w x (from_byte 16 x) → bytes_fold op w 16 now ≡ bytes_fold op w 32 x
  halved-16 x now long sx is = halved 16 x now (half-16 w) long sx is

  pub halved-8 : (x now : List ℕ) → length x ≡ 32 → Each1 (λ b. b < 256) x → now ≡ binary_block_of join w x (from_byte 8 x) → bytes_fold op w 8 now ≡ bytes_fold op w 16 x
  halved-8 x now long sx is = halved 8 x now (half-8 w) long sx is

  pub halved-4 : (x now : List ℕ) → width_bytes w ≤ 4 → length x ≡ 32 → Each1 (λ b. b < 256) x → now ≡ binary_block_of join w x (from_byte 4 x) → bytes_fold op w 4 now ≡ bytes_fold op w 8 x
  halved-4 x now narrow long sx is = halved 4 x now (half-4 w narrow) long sx is

  pub halved-2 : (x now : List ℕ) → width_bytes w ≤ 2 → length x ≡ 32 → Each1 (λ b. b < 256) x → now ≡ binary_block_of join w x (from_byte 2 x) → bytes_fold op w 2 now ≡ bytes_fold op w 4 x
  halved-2 x now narrow long sx is = halved 2 x now (half-2 w narrow) long sx is

pub halved-1 : (op : ReduceOp) (join : LaneOp) → ((m a b : ℕ) → joined op m a b ≡ lane join m a b) → ((m : ℕ) → fold_limit op m ≡ m)
    → (x now : List ℕ) → length x ≡ 32 → Each1 (λ b. b < 256) x → now ≡ binary_block_of join B x (from_byte 1 x) → bytes_fold op B 1 now ≡ bytes_fold op B 2 x
halved-1 op join same element x now long sx is = halved op B join same element 1 x now half-1 long sx is

-- the fold of one element
pub one-element : (op : ReduceOp) (w : Width) (x : List ℕ) → Each1 (λ b. b < 256) x → at w x 0 ≡ bytes_fold op w (width_bytes w) x
one-element op w x sx =
    let j = joined op (modulus w) in
    let id = identity op (modulus w) in
    let joins = joins-of op w in
    let little = element-joins op w (at w x 0) (element-small w x 0 sx) in
    sym (
    ap (folded j id (at w x)) (one w) ∙ folded-more j id (at w x) 0 ∙ ap (λ a. j a (at w x 0)) (folded-none j id (at w x)) ∙ joins.comm id (at w x 0) joins.inside little
    ∙ joins.unit (at w x 0) little)
  where
    one : (w : Width) → width_bytes w / width_bytes w ≡ 1
    one B = refl
    one other = refl

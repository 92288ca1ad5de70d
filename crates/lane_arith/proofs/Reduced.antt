-- Reductions, block by block.
use Rattle.std.proofs.Common.{◌≡◌, ℕ, ◌+◌, ◌-◌, ◌*◌, ◌/◌, ◌%◌, ◌^◌, ◌<◌, ◌≤◌, List, Bool, true, false, cond, ltb, ◌&&◌, get_or, refl, sym, ap, ap₂, ◌∙◌, subst, arith, add-one}
use Rattle.std.proofs.lemmas.Bool.{cond_both, cond-false, lt-ltb, le-ltb, and_right}
use Rattle.std.proofs.Math.Nat.{mul-suc}
use lib.Lanes.{Each1, fold_l}
use Rattle.guest_types.specs.declared.length.Width.{Width}
use Rattle.guest_types.specs.declared.length.Width.TheVariants.{B}
use Rattle.guest_types.specs.declared.operation.LaneOp.{LaneOp}
use Rattle.guest_types.specs.declared.operation.ReduceOp.{ReduceOp}
use Rattle.guest_types.specs.declared.operation.ReduceOp.TheVariants.{UAdd}
use Rattle.guest_types.specs.Length.{IsLength, width_bytes, modulus, lanes}
use Rattle.guest_types.specs.Elements.{at, active, elements}
use Rattle.guest_types.specs.Lanes.{lane, binary_at, dup_at, folded, joined, identity, fold_limit, reduce_at, reduce_of}
use Rattle.guest_types.proofs.AtWidths.{width_bytes-lanes}
use Rattle.guest_types.proofs.Folds.{folded-none, folded-more}
use Rattle.guest_types.proofs.Predicates.{bit-bits_of}
use Rattle.guest_types.proofs.Registers.{elements-ext}
use Rattle.guest_types.proofs.Widths.{element-below}
use Rattle.lane_blocks.specs.Blocks.{block_lanes, block_of, mask_of, choose_at, choose_of, bit_below, below_of}
use Rattle.lane_blocks.proofs.Lanes.{IsLanes}
use Rattle.lane_blocks.proofs.Masks.{chosen-small}
use Rattle.lane_blocks.proofs.BlockSteps.{at-block, at-elements, active-block, shorter}
use Rattle.lane_arith.specs.Blocks.{binary_block_of, dup_block_of, block_fold, sum_step_of, fold_step_at, fold_step_of}
use Rattle.lane_arith.proofs.Joins.{joins-of, element-joins, identity-element, folded-ext, folded-below, folded-split, folded-tail, folded-partials, folded-list}

-- ---- one block

-- a sum of wide lanes
pub sum-lanes : {n : ℕ} {f : ℕ → ℕ} {xs : List ℕ} (w : Width) → IsLanes n f xs → fold_l (λ a b. (a + b) % 2 ^ 64) 0 xs ≡ folded (joined UAdd (modulus w)) 0 f n
sum-lanes {n} {f} {xs} w h =
    folded-list (joined UAdd (modulus w)) 0 xs ∙ ap (folded (joined UAdd (modulus w)) 0 (λ e. get_or xs e 0)) h.long
    ∙ folded-ext (joined UAdd (modulus w)) 0 (λ e. get_or xs e 0) f n h.lane

module _ (w : Width) (p x start c : List ℕ) (sx : Each1 (λ n. n < 256) x) (ss : Each1 (λ n. n < 256) start) (is : c ≡ choose_of w p x start) where
  at-choice : (e : ℕ) → e < block_lanes w → at w c e ≡ choose_at w p x start e
  at-choice e l = ap (λ z. at w z e) is ∙ at-elements w (choose_at w p x start) (block_lanes w) e l (chosen-small w p x start e sx ss)

  pub sum-step-is : block_fold UAdd w c ≡ sum_step_of w p x start
  sum-step-is = folded-ext (joined UAdd (modulus w)) 0 (at w c) (choose_at w p x start) (block_lanes w) at-choice

  pub fold-step-is : (join : LaneOp) (partial : List ℕ) → binary_block_of join w partial c ≡ fold_step_of join w p partial x start
  fold-step-is join partial =
      elements-ext (width_bytes w) (binary_at join w partial c) (fold_step_at join w p partial x start) (block_lanes w) (λ e l. ap (lane join (modulus w) (at w partial e)) (at-choice e l))

-- ---- a register

module _ (op : ReduceOp) (w : Width) (vl : ℕ) (pg z start : List ℕ) (valid : IsLength vl) (small : (i : ℕ) → get_or z i 0 < 256) (is_start : start ≡ dup_block_of w (identity op (modulus w))) where
  at-start : (e : ℕ) → e < block_lanes w → at w start e ≡ identity op (modulus w)
  at-start e l = ap (λ s. at w s e) is_start ∙ at-elements w (dup_at (identity op (modulus w))) (block_lanes w) e l (identity-element op w)

  pub used-block : (i e : ℕ) → e < block_lanes w → choose_at w (mask_of (below_of pg (vl / 8)) i) (block_of z i) start e ≡ reduce_at op w (below_of pg (vl / 8)) z (block_lanes w * i + e)
  used-block i e l =
      ap (λ t. cond t (at w (block_of z i) e) (at w start e)) (active-block w (below_of pg (vl / 8)) i e l)
      ∙ ap₂ (cond (active w (below_of pg (vl / 8)) (block_lanes w * i + e))) (at-block w z i e l) (at-start e l)

  element-of : (e : ℕ) → at w z e < modulus w
  element-of e = element-below w z e (λ i. record { fits = small i })

  pub used-element : (e : ℕ) → reduce_at op w (below_of pg (vl / 8)) z e < modulus w
  used-element e =
      cond_both (active w (below_of pg (vl / 8)) e) (at w z e) (identity op (modulus w)) (λ x. x < modulus w) (λ _. element-of e) (λ _. identity-element op w)

  pub used-joins : (e : ℕ) → reduce_at op w (below_of pg (vl / 8)) z e < fold_limit op (modulus w)
  used-joins e = element-joins op w (reduce_at op w (below_of pg (vl / 8)) z e) (used-element e)

  active-used : (e : ℕ) → width_bytes w * e < 256 → active w (below_of pg (vl / 8)) e ≡ (active w pg e && ltb (width_bytes w * e) (vl / 8))
  active-used e l = bit-bits_of (bit_below pg (vl / 8)) 32 (width_bytes w * e) (omega arith)

  keep : (b : Bool) → (b && true) ≡ b
  keep true = refl
  keep false = refl

  -- the fold of whole blocks is that of the elements of the length
  pub whole-fold : (i : ℕ) → i ≤ 8 → (vl / 8 + 31) / 32 ≤ i
      → folded (joined op (modulus w)) (identity op (modulus w)) (reduce_at op w (below_of pg (vl / 8)) z) (block_lanes w * i) ≡ reduce_of op w (lanes vl w) pg z
  whole-fold i few all =
      let n = lanes vl w in
      let f = reduce_at op w (below_of pg (vl / 8)) z in
      let j = joins-of op w in
      let room : n ≤ block_lanes w * i = shorter w vl i valid all in
      let more : block_lanes w * i ≡ n + (block_lanes w * i - n) = omega arith in
      ap (folded (joined op (modulus w)) (identity op (modulus w)) f) more
      ∙ folded-tail (joined op (modulus w)) (identity op (modulus w)) (fold_limit op (modulus w)) j f n (block_lanes w * i - n) used-joins
      (λ e least most.
      let inside : width_bytes w * e < 256 = low w e i few (let under : e < block_lanes w * i = omega arith in under) in
      cond-false _ _ _ (active-used e inside ∙ and_right (active w pg e) (ltb (width_bytes w * e) (vl / 8)) (le-ltb (width_bytes w * e) (vl / 8) (past w e (vl / 8) n (width_bytes-lanes vl w valid) least))))
      ∙ folded-ext (joined op (modulus w)) (identity op (modulus w)) f (reduce_at op w pg z) n
      (λ e l.
      let inside : width_bytes w * e < vl / 8 = under w e (vl / 8) n (width_bytes-lanes vl w valid) l in
      ap (λ t. cond t (at w z e) (identity op (modulus w)))
      (active-used e (omega (arith, inside, valid)) ∙ ap (λ t. active w pg e && t) (lt-ltb (width_bytes w * e) (vl / 8) inside) ∙ keep (active w pg e)))
    where
      low : (w : Width) (e i : ℕ) → i ≤ 8 → e < block_lanes w * i → width_bytes w * e < 256
      low B e i a b = omega arith
      low other e i a b = omega arith

      past : (w : Width) (e m n : ℕ) → width_bytes w * n ≡ m → n ≤ e → m ≤ width_bytes w * e
      past B e m n a b = omega arith
      past other e m n a b = omega arith

      under : (w : Width) (e m n : ℕ) → width_bytes w * n ≡ m → e < n → width_bytes w * e < m
      under B e m n a b = omega arith
      under other e m n a b = omega arith

  -- ---- a sum that grows by that of each block

  pub sum-step : (i total step : ℕ) (p x : List ℕ) → total ≡ folded (joined op (modulus w)) (identity op (modulus w)) (reduce_at op w (below_of pg (vl / 8)) z) (block_lanes w * i)
      → p ≡ mask_of (below_of pg (vl / 8)) i → x ≡ block_of z i → step ≡ folded (joined op (modulus w)) (identity op (modulus w)) (choose_at w p x start) (block_lanes w)
      → joined op (modulus w) total step ≡ folded (joined op (modulus w)) (identity op (modulus w)) (reduce_at op w (below_of pg (vl / 8)) z) (block_lanes w * (i + 1))
  sum-step i total step p x inv is_p is_x is =
      let f = reduce_at op w (below_of pg (vl / 8)) z in
      let q = block_lanes w in
      let id = identity op (modulus w) in
      let j = joined op (modulus w) in
      let block : step ≡ folded j id (λ e. f (q * i + e)) q =
      is ∙ ap (λ m. folded j id (choose_at w m x start) q) is_p ∙ ap (λ b. folded j id (choose_at w (mask_of (below_of pg (vl / 8)) i) b start) q) is_x
      ∙ folded-ext j id (choose_at w (mask_of (below_of pg (vl / 8)) i) (block_of z i) start) (λ e. f (q * i + e)) q (used-block i) in
      ap₂ j inv block ∙ sym (folded-split j id (fold_limit op (modulus w)) (joins-of op w) f (q * i) q used-joins)
      ∙ ap (folded j id f) (let next : q * i + q ≡ q * (i + 1) = omega (arith, mul-suc q i, ap (λ m. q * m) (add-one i)) in next)

  -- ---- one block of partial results

  pub partial-none : start ≡ elements (width_bytes w) (λ e. folded (joined op (modulus w)) (identity op (modulus w)) (λ j. reduce_at op w (below_of pg (vl / 8)) z (block_lanes w * j + e)) 0) (block_lanes w)
  partial-none =
      is_start
      ∙ elements-ext (width_bytes w) (dup_at (identity op (modulus w))) (λ e. folded (joined op (modulus w)) (identity op (modulus w)) (λ j. reduce_at op w (below_of pg (vl / 8)) z (block_lanes w * j + e)) 0) (block_lanes w)
      (λ e l. sym (folded-none (joined op (modulus w)) (identity op (modulus w)) (λ j. reduce_at op w (below_of pg (vl / 8)) z (block_lanes w * j + e))))

  module _ (element : fold_limit op (modulus w) ≡ modulus w) where
    partial-below : (i e : ℕ) → folded (joined op (modulus w)) (identity op (modulus w)) (λ j. reduce_at op w (below_of pg (vl / 8)) z (block_lanes w * j + e)) i < modulus w
    partial-below i e =
        let f = reduce_at op w (below_of pg (vl / 8)) z in
        subst (λ m. folded (joined op (modulus w)) (identity op (modulus w)) (λ j. f (block_lanes w * j + e)) i < m) element
        (folded-below (joined op (modulus w)) (identity op (modulus w)) (fold_limit op (modulus w)) (joins-of op w) (λ j. f (block_lanes w * j + e)) i (λ j. used-joins (block_lanes w * j + e)))

    pub partial-step : (join : LaneOp) (i : ℕ) (partial p x now : List ℕ) → ((a b : ℕ) → joined op (modulus w) a b ≡ lane join (modulus w) a b)
        → partial ≡ elements (width_bytes w) (λ e. folded (joined op (modulus w)) (identity op (modulus w)) (λ j. reduce_at op w (below_of pg (vl / 8)) z (block_lanes w * j + e)) i) (block_lanes w)
        → p ≡ mask_of (below_of pg (vl / 8)) i → x ≡ block_of z i → now ≡ fold_step_of join w p partial x start
        → now ≡ elements (width_bytes w) (λ e. folded (joined op (modulus w)) (identity op (modulus w)) (λ j. reduce_at op w (below_of pg (vl / 8)) z (block_lanes w * j + e)) (i + 1)) (block_lanes w)
    partial-step join i partial p x now same inv is_p is_x is =
        let f = reduce_at op w (below_of pg (vl / 8)) z in
        let j = joined op (modulus w) in
        let id = identity op (modulus w) in
        let before : ℕ → ℕ = λ e. folded j id (λ b. f (block_lanes w * b + e)) i in
        is ∙ ap (λ m. fold_step_of join w m partial x start) is_p ∙ ap (λ b. fold_step_of join w (mask_of (below_of pg (vl / 8)) i) partial b start) is_x
        ∙ elements-ext (width_bytes w) (fold_step_at join w (mask_of (below_of pg (vl / 8)) i) partial (block_of z i) start) (λ e. folded j id (λ b. f (block_lanes w * b + e)) (i + 1)) (block_lanes w)
        (λ e l.
        sym (same (at w partial e) (choose_at w (mask_of (below_of pg (vl / 8)) i) (block_of z i) start e))
        ∙ ap₂ j (ap (λ b. at w b e) inv ∙ at-elements w before (block_lanes w) e l (partial-below i e)) (used-block i e l)
        ∙ sym (folded-more j id (λ b. f (block_lanes w * b + e)) i))

    pub partial-end : (i result : ℕ) (partial : List ℕ)
        → partial ≡ elements (width_bytes w) (λ e. folded (joined op (modulus w)) (identity op (modulus w)) (λ j. reduce_at op w (below_of pg (vl / 8)) z (block_lanes w * j + e)) i) (block_lanes w)
        → result ≡ block_fold op w partial → i ≤ 8 → (vl / 8 + 31) / 32 ≤ i → result ≡ reduce_of op w (lanes vl w) pg z
    partial-end i result partial inv is few all =
        let f = reduce_at op w (below_of pg (vl / 8)) z in
        let j = joined op (modulus w) in
        let id = identity op (modulus w) in
        let before : ℕ → ℕ = λ e. folded j id (λ b. f (block_lanes w * b + e)) i in
        is ∙ folded-ext j id (at w partial) before (block_lanes w) (λ e l. ap (λ b. at w b e) inv ∙ at-elements w before (block_lanes w) e l (partial-below i e))
        ∙ folded-partials j id (fold_limit op (modulus w)) (joins-of op w) f (block_lanes w) i used-joins
        ∙ whole-fold i few all

-- The step of a loop over the blocks of registers.
use Rattle.std.proofs.Common.{◌≡◌, ℕ, ◌*◌, ◌+◌, ◌<◌, List, cond, ap, ap₂, ◌∙◌}
use lib.Lanes.{Each1}
use Rattle.guest_types.specs.declared.length.Width.{Width}
use Rattle.guest_types.specs.declared.operation.LaneOp.{LaneOp}
use Rattle.guest_types.specs.declared.operation.LaneUnary.{LaneUnary}
use Rattle.guest_types.specs.declared.operation.ShiftOp.{ShiftOp}
use Rattle.guest_types.specs.Length.{width_bytes, width_bits, modulus}
use Rattle.guest_types.specs.Elements.{at, active, bit}
use Rattle.guest_types.specs.Lanes.{lane, binary_at, merge_at, select_at, unary, merge_one_at, source_bits, shifted, shift_at}
use Rattle.guest_types.proofs.Registers.{elements-ext}
use Rattle.lane_blocks.specs.Blocks.{block_lanes, block_of, with_block, mask_of, choose_at, choose_of}
use Rattle.lane_blocks.proofs.BlockSteps.{Holds, holds-more, at-block, at-elements, active-block}
use Rattle.lane_arith.specs.Blocks.{binary_block_of, merge_block_at, merge_block_of, unary_at, unary_block_of, merge_one_block_at, merge_one_block_of, shift_block_of}
use Rattle.lane_blocks.proofs.Masks.{element-small}
use Rattle.lane_arith.proofs.Operations.{binary-below}
use Rattle.lane_arith.proofs.Shifted.{unary-below}

pub binary-step : (op : LaneOp) (w : Width) (l r : List ℕ) (i : ℕ) (a b was now block : List ℕ) → i < 8 → Holds w (binary_at op w l r) i was → a ≡ block_of l i → b ≡ block_of r i → block ≡ binary_block_of op w a b → now ≡ with_block was i block
    → Holds w (binary_at op w l r) (i + 1) now
binary-step op w x y i a b was now block l h is_a is_b is put =
    holds-more w (binary_at op w x y) (binary_at op w (block_of x i) (block_of y i)) i was now block l h put (is ∙ ap₂ (binary_block_of op w) is_a is_b)
    (λ e inside. ap₂ (lane op (modulus w)) (at-block w x i e inside) (at-block w y i e inside))

pub merge-is : (op : LaneOp) (w : Width) (p a b made : List ℕ) → Each1 (λ x. x < 256) a → Each1 (λ x. x < 256) b → made ≡ binary_block_of op w a b → choose_of w p made a ≡ merge_block_of op w p a b
merge-is op w p a b made sa sb is =
    ap (λ m. choose_of w p m a) is
    ∙ elements-ext (width_bytes w) (choose_at w p (binary_block_of op w a b) a) (merge_block_at op w p a b) (block_lanes w)
    (λ e inside. ap (λ x. cond (bit p (width_bytes w * e)) x (at w a e)) (at-elements w (binary_at op w a b) (block_lanes w) e inside (binary-below op w a b e sa sb)))

pub merge-step : (op : LaneOp) (w : Width) (pg l r : List ℕ) (i : ℕ) (p a b was now block : List ℕ) → i < 8 → Holds w (merge_at op w pg l r) i was → p ≡ mask_of pg i → a ≡ block_of l i → b ≡ block_of r i → block ≡ merge_block_of op w p a b → now ≡ with_block was i block
    → Holds w (merge_at op w pg l r) (i + 1) now
merge-step op w pg x y i p a b was now block l h is_p is_a is_b is put =
    holds-more w (merge_at op w pg x y) (merge_block_at op w (mask_of pg i) (block_of x i) (block_of y i)) i was now block l h put
    (is ∙ ap (λ m. merge_block_of op w m a b) is_p ∙ ap₂ (merge_block_of op w (mask_of pg i)) is_a is_b)
    (λ e inside.
    ap (λ t. cond t (binary_at op w (block_of x i) (block_of y i) e) (at w (block_of x i) e)) (active-block w pg i e inside)
    ∙ ap₂ (cond (active w pg (block_lanes w * i + e))) (ap₂ (lane op (modulus w)) (at-block w x i e inside) (at-block w y i e inside)) (at-block w x i e inside))

pub select-step : (w : Width) (pg l r : List ℕ) (i : ℕ) (p a b was now block : List ℕ) → i < 8 → Holds w (select_at w pg l r) i was → p ≡ mask_of pg i → a ≡ block_of l i → b ≡ block_of r i → block ≡ choose_of w p a b → now ≡ with_block was i block
    → Holds w (select_at w pg l r) (i + 1) now
select-step w pg x y i p a b was now block l h is_p is_a is_b is put =
    holds-more w (select_at w pg x y) (choose_at w (mask_of pg i) (block_of x i) (block_of y i)) i was now block l h put
    (is ∙ ap (λ m. choose_of w m a b) is_p ∙ ap₂ (choose_of w (mask_of pg i)) is_a is_b)
    (λ e inside.
    ap (λ t. cond t (at w (block_of x i) e) (at w (block_of y i) e)) (active-block w pg i e inside)
    ∙ ap₂ (cond (active w pg (block_lanes w * i + e))) (at-block w x i e inside) (at-block w y i e inside))

pub shift-step : (op : ShiftOp) (w : Width) (z : List ℕ) (count i : ℕ) (a was now block : List ℕ) → i < 8 → Holds w (shift_at op w z count) i was → a ≡ block_of z i → block ≡ shift_block_of op w a count → now ≡ with_block was i block
    → Holds w (shift_at op w z count) (i + 1) now
shift-step op w z count i a was now block l h is_a is put =
    holds-more w (shift_at op w z count) (shift_at op w (block_of z i) count) i was now block l h put (is ∙ ap (λ b. shift_block_of op w b count) is_a)
    (λ e inside. ap (λ n. shifted op (modulus w) n count) (at-block w z i e inside))

pub merge_one-is : (op : LaneUnary) (w : Width) (p old z made : List ℕ) → source_bits op < width_bits w → Each1 (λ x. x < 256) z → made ≡ unary_block_of op w z → choose_of w p made old ≡ merge_one_block_of op w p old z
merge_one-is op w p old z made narrower sz is =
    ap (λ m. choose_of w p m old) is
    ∙ elements-ext (width_bytes w) (choose_at w p (unary_block_of op w z) old) (merge_one_block_at op w p old z) (block_lanes w)
    (λ e inside. ap (λ x. cond (bit p (width_bytes w * e)) x (at w old e)) (at-elements w (unary_at op w z) (block_lanes w) e inside (unary-below op w (at w z e) narrower (element-small w z e sz))))

pub merge_one-step : (op : LaneUnary) (w : Width) (pg old z : List ℕ) (i : ℕ) (p a b was now block : List ℕ) → i < 8 → Holds w (merge_one_at op w pg old z) i was → p ≡ mask_of pg i → a ≡ block_of old i → b ≡ block_of z i → block ≡ merge_one_block_of op w p a b → now ≡ with_block was i block
    → Holds w (merge_one_at op w pg old z) (i + 1) now
merge_one-step op w pg old z i p a b was now block l h is_p is_a is_b is put =
    holds-more w (merge_one_at op w pg old z) (merge_one_block_at op w (mask_of pg i) (block_of old i) (block_of z i)) i was now block l h put
    (is ∙ ap (λ m. merge_one_block_of op w m a b) is_p ∙ ap₂ (merge_one_block_of op w (mask_of pg i)) is_a is_b)
    (λ e inside.
    ap (λ t. cond t (unary op (modulus w) (at w (block_of z i) e)) (at w (block_of old i) e)) (active-block w pg i e inside)
    ∙ ap₂ (cond (active w pg (block_lanes w * i + e))) (ap (unary op (modulus w)) (at-block w z i e inside)) (at-block w old i e inside))

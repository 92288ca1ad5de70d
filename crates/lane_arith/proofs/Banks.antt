-- The step of a loop over the blocks of one of many registers.
use Rattle.std.proofs.Common.{◌≡◌, ℕ, ◌+◌, ◌*◌, ◌<◌, List, length, cond, ap, ap₂, ◌∙◌}
use Rattle.std.specs.Prelude.{slice_set}
use Rattle.guest_types.specs.declared.length.Width.{Width}
use Rattle.guest_types.specs.declared.register.ZReg.{ZReg}
use Rattle.guest_types.specs.declared.operation.LaneOp.{LaneOp}
use Rattle.guest_types.specs.declared.operation.LaneUnary.{LaneUnary}
use Rattle.guest_types.specs.declared.operation.ShiftOp.{ShiftOp}
use Rattle.guest_types.specs.Length.{modulus}
use Rattle.guest_types.specs.Elements.{at, active}
use Rattle.guest_types.specs.Lanes.{lane, binary_at, merge_at, select_at, unary, merge_one_at, shifted, shift_at}
use Rattle.lane_blocks.specs.Blocks.{block_lanes, block_of, with_block, mask_of, choose_at, choose_of}
use Rattle.lane_blocks.specs.Banks.{bytes_at}
use Rattle.lane_blocks.proofs.BlockSteps.{at-block, active-block}
use Rattle.lane_blocks.proofs.Banks.{InBank, block-kept, bank-more}
use Rattle.lane_arith.specs.Blocks.{binary_block_of, merge_block_at, merge_block_of, merge_one_block_at, merge_one_block_of, shift_block_of}

-- block i of register d is replaced
abbrev pub Put : (d i : ℕ) → (was : List ZReg) → (block : List ℕ) → (now : List ZReg) → Type 0
Put d i was block now = now ≡ slice_set was d (record { bytes = with_block (bytes_at was d) i block })

pub binary-bank : (op : LaneOp) (w : Width) (l r d i : ℕ) (old was now : List ZReg) (a b block : List ℕ) → d < length old → InBank w (binary_at op w (bytes_at old l) (bytes_at old r)) d i old was → a ≡ block_of (bytes_at was l) i → b ≡ block_of (bytes_at was r) i → block ≡ binary_block_of op w a b → Put d i was block now
    → InBank w (binary_at op w (bytes_at old l) (bytes_at old r)) d (i + 1) old now
binary-bank op w l r d i old was now a b block inside h is_a is_b is put =
    let x = bytes_at old l in
    let y = bytes_at old r in
    let f = binary_at op w x y in
    bank-more w f (binary_at op w (block_of x i) (block_of y i)) d i old was now block inside h put
    (is ∙ ap₂ (binary_block_of op w) (is_a ∙ block-kept w f d i old was l h) (is_b ∙ block-kept w f d i old was r h))
    (λ e below. ap₂ (lane op (modulus w)) (at-block w x i e below) (at-block w y i e below))

pub merge-bank : (op : LaneOp) (w : Width) (pg : List ℕ) (l r d i : ℕ) (old was now : List ZReg) (p a b block : List ℕ) → d < length old → InBank w (merge_at op w pg (bytes_at old l) (bytes_at old r)) d i old was → p ≡ mask_of pg i → a ≡ block_of (bytes_at was l) i → b ≡ block_of (bytes_at was r) i → block ≡ merge_block_of op w p a b → Put d i was block now
    → InBank w (merge_at op w pg (bytes_at old l) (bytes_at old r)) d (i + 1) old now
merge-bank op w pg l r d i old was now p a b block inside h is_p is_a is_b is put =
    let x = bytes_at old l in
    let y = bytes_at old r in
    let f = merge_at op w pg x y in
    bank-more w f (merge_block_at op w (mask_of pg i) (block_of x i) (block_of y i)) d i old was now block inside h put
    (is ∙ ap (λ m. merge_block_of op w m a b) is_p ∙ ap₂ (merge_block_of op w (mask_of pg i)) (is_a ∙ block-kept w f d i old was l h) (is_b ∙ block-kept w f d i old was r h))
    (λ e below.
    ap (λ t. cond t (binary_at op w (block_of x i) (block_of y i) e) (at w (block_of x i) e)) (active-block w pg i e below)
    ∙ ap₂ (cond (active w pg (block_lanes w * i + e))) (ap₂ (lane op (modulus w)) (at-block w x i e below) (at-block w y i e below)) (at-block w x i e below))

pub merge_one-bank : (op : LaneUnary) (w : Width) (pg : List ℕ) (l r d i : ℕ) (old was now : List ZReg) (p a b block : List ℕ) → d < length old → InBank w (merge_one_at op w pg (bytes_at old l) (bytes_at old r)) d i old was → p ≡ mask_of pg i → a ≡ block_of (bytes_at was l) i → b ≡ block_of (bytes_at was r) i → block ≡ merge_one_block_of op w p a b → Put d i was block now
    → InBank w (merge_one_at op w pg (bytes_at old l) (bytes_at old r)) d (i + 1) old now
merge_one-bank op w pg l r d i old was now p a b block inside h is_p is_a is_b is put =
    let x = bytes_at old l in
    let y = bytes_at old r in
    let f = merge_one_at op w pg x y in
    bank-more w f (merge_one_block_at op w (mask_of pg i) (block_of x i) (block_of y i)) d i old was now block inside h put
    (is ∙ ap (λ m. merge_one_block_of op w m a b) is_p ∙ ap₂ (merge_one_block_of op w (mask_of pg i)) (is_a ∙ block-kept w f d i old was l h) (is_b ∙ block-kept w f d i old was r h))
    (λ e below.
    ap (λ t. cond t (unary op (modulus w) (at w (block_of y i) e)) (at w (block_of x i) e)) (active-block w pg i e below)
    ∙ ap₂ (cond (active w pg (block_lanes w * i + e))) (ap (unary op (modulus w)) (at-block w y i e below)) (at-block w x i e below))

pub select-bank : (w : Width) (pg : List ℕ) (l r d i : ℕ) (old was now : List ZReg) (p a b block : List ℕ) → d < length old → InBank w (select_at w pg (bytes_at old l) (bytes_at old r)) d i old was → p ≡ mask_of pg i → a ≡ block_of (bytes_at was l) i → b ≡ block_of (bytes_at was r) i → block ≡ choose_of w p a b → Put d i was block now
    → InBank w (select_at w pg (bytes_at old l) (bytes_at old r)) d (i + 1) old now
select-bank w pg l r d i old was now p a b block inside h is_p is_a is_b is put =
    let x = bytes_at old l in
    let y = bytes_at old r in
    let f = select_at w pg x y in
    bank-more w f (choose_at w (mask_of pg i) (block_of x i) (block_of y i)) d i old was now block inside h put
    (is ∙ ap (λ m. choose_of w m a b) is_p ∙ ap₂ (choose_of w (mask_of pg i)) (is_a ∙ block-kept w f d i old was l h) (is_b ∙ block-kept w f d i old was r h))
    (λ e below.
    ap (λ t. cond t (at w (block_of x i) e) (at w (block_of y i) e)) (active-block w pg i e below)
    ∙ ap₂ (cond (active w pg (block_lanes w * i + e))) (at-block w x i e below) (at-block w y i e below))

pub shift-bank : (op : ShiftOp) (w : Width) (l count d i : ℕ) (old was now : List ZReg) (a block : List ℕ) → d < length old → InBank w (shift_at op w (bytes_at old l) count) d i old was → a ≡ block_of (bytes_at was l) i → block ≡ shift_block_of op w a count → Put d i was block now
    → InBank w (shift_at op w (bytes_at old l) count) d (i + 1) old now
shift-bank op w l count d i old was now a block inside h is_a is put =
    let x = bytes_at old l in
    let f = shift_at op w x count in
    bank-more w f (shift_at op w (block_of x i) count) d i old was now block inside h put
    (is ∙ ap (λ b. shift_block_of op w b count) (is_a ∙ block-kept w f d i old was l h))
    (λ e below. ap (λ n. shifted op (modulus w) n count) (at-block w x i e below))

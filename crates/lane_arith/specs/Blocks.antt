-- What each kernel gives for one block of 32 bytes, or the mask of one.
use Rattle.std.specs.Prelude.{ℕ, ◌*◌, ◌/◌, List, cond}
use Rattle.guest_types.specs.declared.length.Width.{Width}
use Rattle.guest_types.specs.declared.operation.LaneOp.{LaneOp}
use Rattle.guest_types.specs.declared.operation.LaneUnary.{LaneUnary}
use Rattle.guest_types.specs.declared.operation.ReduceOp.{ReduceOp}
use Rattle.guest_types.specs.declared.operation.ShiftOp.{ShiftOp}
use Rattle.guest_types.specs.Length.{width_bytes, modulus}
use Rattle.guest_types.specs.Elements.{at, bit, elements}
use Rattle.guest_types.specs.Lanes.{lane, unary, binary_at, shift_at, dup_at, index_at, folded, joined, identity}
use Rattle.guest_types.specs.declared.operation.ReduceOp.TheVariants.{UAdd}
use Rattle.lane_blocks.specs.Blocks.{block_lanes, choose_at}

abbrev pub binary_block_of : LaneOp → Width → List ℕ → List ℕ → List ℕ
binary_block_of op w a b = elements (width_bytes w) (binary_at op w a b) (block_lanes w)

abbrev pub shift_block_of : ShiftOp → Width → List ℕ → ℕ → List ℕ
shift_block_of op w a count = elements (width_bytes w) (shift_at op w a count) (block_lanes w)

-- the operation at the elements of the mask p, the first operand elsewhere
abbrev pub merge_block_at : LaneOp → Width → List ℕ → List ℕ → List ℕ → ℕ → ℕ
merge_block_at op w p a b e = cond (bit p (width_bytes w * e)) (binary_at op w a b e) (at w a e)

abbrev pub merge_block_of : LaneOp → Width → List ℕ → List ℕ → List ℕ → List ℕ
merge_block_of op w p a b = elements (width_bytes w) (merge_block_at op w p a b) (block_lanes w)

abbrev pub unary_at : LaneUnary → Width → List ℕ → ℕ → ℕ
unary_at op w z e = unary op (modulus w) (at w z e)

abbrev pub unary_block_of : LaneUnary → Width → List ℕ → List ℕ
unary_block_of op w z = elements (width_bytes w) (unary_at op w z) (block_lanes w)

-- the operation at the elements of the mask p, the old ones elsewhere
abbrev pub merge_one_block_at : LaneUnary → Width → List ℕ → List ℕ → List ℕ → ℕ → ℕ
merge_one_block_at op w p old z e = cond (bit p (width_bytes w * e)) (unary_at op w z e) (at w old e)

abbrev pub merge_one_block_of : LaneUnary → Width → List ℕ → List ℕ → List ℕ → List ℕ
merge_one_block_of op w p old z = elements (width_bytes w) (merge_one_block_at op w p old z) (block_lanes w)

abbrev pub dup_block_of : Width → ℕ → List ℕ
dup_block_of w value = elements (width_bytes w) (dup_at value) (block_lanes w)

abbrev pub index_block_of : Width → ℕ → ℕ → List ℕ
index_block_of w from by = elements (width_bytes w) (index_at from by) (block_lanes w)

-- the fold of all elements of a block
abbrev pub block_fold : ReduceOp → Width → List ℕ → ℕ
block_fold op w x = folded (joined op (modulus w)) (identity op (modulus w)) (at w x) (block_lanes w)

-- the fold of the elements of its first n bytes
abbrev pub bytes_fold : ReduceOp → Width → ℕ → List ℕ → ℕ
bytes_fold op w n x = folded (joined op (modulus w)) (identity op (modulus w)) (at w x) (n / width_bytes w)

-- the sum of the elements of one block at which the mask p is true, and of those of another elsewhere
abbrev pub sum_step_of : Width → List ℕ → List ℕ → List ℕ → ℕ
sum_step_of w p x zero = folded (joined UAdd (modulus w)) 0 (choose_at w p x zero) (block_lanes w)

-- partial results joined with such elements
abbrev pub fold_step_at : LaneOp → Width → List ℕ → List ℕ → List ℕ → List ℕ → ℕ → ℕ
fold_step_at join w p partial x start e = lane join (modulus w) (at w partial e) (choose_at w p x start e)

abbrev pub fold_step_of : LaneOp → Width → List ℕ → List ℕ → List ℕ → List ℕ → List ℕ
fold_step_of join w p partial x start = elements (width_bytes w) (fold_step_at join w p partial x start) (block_lanes w)

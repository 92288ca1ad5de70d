-- The vector code of an item of a loop, by the registers of the loop's values, and what it leaves.
use Rattle.std.specs.Prelude.{ℕ, ◌+◌, ◌<◌, ◌≤◌, ℤ, pos, Bool, true, false, List, [], Option, Some, None, if◌then◌else◌}
use Rattle.guest_types.specs.declared.length.Width.{Width}
use Rattle.guest_types.specs.Length.{width_bits, lanes}
use Rattle.kernel_tree.specs.declared.ops.Ty.{Ty}
use Rattle.kernel_tree.specs.Wrap.{bits_of}
use Rattle.kernel_meaning.specs.Operators.{shift_count}
use Rattle.kernel_meaning.specs.Eval.{Names}
use Rattle.machine_model.specs.Machine.{State, z_at, p_at}
use Rattle.vector_order.specs.Orders.{Lane, Lanes, Effect, Halts, Keeps, Writes}
use Rattle.loop_form.specs.declared.loop_item.Operand.{Operand}
use Rattle.loop_form.specs.LoopItems.{Op}
use Rattle.loop_form.specs.LoopItems as ops
use Rattle.vector_order.specs.Operands.{operand_value, on_mask}
use Rattle.vector_order.specs.Items.{op_effect}
use Rattle.lane_emit.specs.Right.{IsOf, ZRight, PRight, within}
use Rattle.lane_emit.specs.Stretch.{VectorInstruction, Ready, MakesZ, MakesP}
use Rattle.lane_emit.specs.LaneCode.{unary_code, binary_code, shift_code, cast_code, copy_code, pick_code, test_code, invert_code, same_code, any_code}
use Rattle.label_fix.specs.Registers.{lanes_left}

-- the vector registers of operands and of items, and the predicate registers of items
pub record Registers : Type 0 where
  pub source : Operand → ℕ
  pub z : ℕ → ℕ
  pub p : ℕ → ℕ

-- the register of a mask: P0 where an item has none
abbrev pub mask_register : Registers → Option ℕ → ℕ
mask_register r None = lanes_left
mask_register r (Some q) = r.p q

-- the code of an item that makes a value, and of one that makes a condition under the mask in predicate register m
abbrev pub value_code : Width → Registers → (q : ℕ) → Op → List VectorInstruction
value_code w r q (ops.Unary op (Some t) x) = unary_code w op t (r.z q) (r.source x)
value_code w r q (ops.Binary op (Some t) x y) = binary_code w op t (r.z q) (r.source x) (r.source y)
value_code w r q (ops.Shift left k (Some t) x) = shift_code w left k t (r.z q) (r.source x)
value_code w r q (ops.Cast (Some t) to x) = cast_code w t to (r.z q) (r.source x)
value_code w r q (ops.Let t x) = copy_code (r.z q) (r.source x)
value_code w r q (ops.Select t c x y) = pick_code w (r.z q) (r.p c) (r.source x) (r.source y)
value_code w r q _ = []

abbrev pub truth_code : Width → Registers → (q m : ℕ) → Op → List VectorInstruction
truth_code w r q m (ops.Compare op (Some t) x y) = test_code w op t (r.p q) m (r.source x) (r.source y)
truth_code w r q m (ops.Not c) = invert_code (r.p q) m (r.p c)
truth_code w r q m (ops.And c) = same_code (r.p q) m (r.p c)
truth_code w r q m (ops.Or c d) = any_code (r.p q) m (r.p c) (r.p d)
truth_code w r q m _ = []

-- whether an operation is an operator with one operand or two
abbrev pub is_operator : Op → Bool
is_operator (ops.Unary op t x) = true
is_operator (ops.Binary op t x y) = true
is_operator _ = false

-- Whether an operation makes a condition. Reads, stores, updates and breaks have code of their own.
abbrev pub makes_truth : Op → Bool
makes_truth (ops.Compare op t x y) = true
makes_truth (ops.Not b) = true
makes_truth (ops.And b) = true
makes_truth (ops.Or a b) = true
makes_truth _ = false

-- the code of item q
abbrev pub op_code : Width → Registers → (q m : ℕ) → Op → List VectorInstruction
op_code w r q m op = if makes_truth op then truth_code w r q m op else value_code w r q op

-- ---- a chunk of n lanes from iteration i on, at width w, with what the lanes hold

pub record Chunk : Type 0 where
  pub w : Width
  pub names : Names
  pub i : ℕ
  pub n : ℕ
  pub lanes : Lanes

abbrev pub lane_at : Chunk → ℕ → Lane
lane_at c e = c.lanes.lane (c.i + e)

abbrev pub operand : Chunk → Operand → ℕ → ℤ
operand c x e = operand_value c.names (c.i + e) (lane_at c e) x

abbrev pub truth_of : Chunk → ℕ → ℕ → Bool
truth_of c q e = (lane_at c e).truth q

abbrev pub mask_of : Chunk → Option ℕ → ℕ → Bool
mask_of c mask e = on_mask mask (lane_at c e)

-- what an operation does in each lane, under a mask
abbrev pub effect : Chunk → Op → ℕ → Option ℕ → ℕ → Effect
effect c op q mask e = op_effect op c.names q (c.i + e) (mask_of c mask e) c.lanes.memory (lane_at c e)

-- what an effect leaves as the value of an item, and as its truth
abbrev pub value_after : ℕ → Effect → ℤ
value_after q (Keeps l) = l.value q
value_after q (Writes a k v) = pos 0
value_after q Halts = pos 0

abbrev pub truth_after : ℕ → Effect → Bool
truth_after q (Keeps l) = l.truth q
truth_after q (Writes a k v) = false
truth_after q Halts = false

abbrev pub new_value : Chunk → Op → ℕ → Option ℕ → ℕ → ℤ
new_value c op q mask e = value_after q (effect c op q mask e)

abbrev pub new_truth : Chunk → Op → ℕ → Option ℕ → ℕ → Bool
new_truth c op q mask e = truth_after q (effect c op q mask e)

-- the values of n lanes are of a type
abbrev pub AllOf : Ty → (n : ℕ) → (ℕ → ℤ) → Type 0
AllOf t n v = (e : ℕ) → e < n → IsOf t (v e)

-- an operand is right in its register, of a type that is no wider than the lane
pub record OperandRight (c : Chunk) (r : Registers) (s : State) (t : Ty) (x : Operand) : Type 0 where
  pub number : r.source x < 32
  pub wide : bits_of t ≤ width_bits c.w
  pub right : ZRight c.w c.n (z_at s (r.source x)) (operand c x)
  pub typed : AllOf t c.n (operand c x)

-- a condition is right in its register, in the lanes
abbrev pub TruthRight : Chunk → Registers → State → ℕ → Type 0
TruthRight c r s q = PRight c.w c.n (p_at s (r.p q)) (truth_of c q)

-- a mask is exact in predicate register m
abbrev pub MaskRight : Chunk → State → ℕ → Option ℕ → Type 0
MaskRight c s m mask = PRight c.w (lanes s.vl c.w) (p_at s m) (within c.n (mask_of c mask))

-- the operands of an operation are right
abbrev pub OperandsRight : Chunk → Registers → State → Op → Type 0
OperandsRight c r s (ops.Unary op (Some t) x) = OperandRight c r s t x
OperandsRight c r s (ops.Binary op (Some t) x y) = OperandRight c r s t x × OperandRight c r s t y
OperandsRight c r s (ops.Shift left k (Some t) x) = OperandRight c r s t x × (shift_count k < width_bits c.w)
OperandsRight c r s (ops.Cast (Some t) to x) = OperandRight c r s t x × (bits_of to ≤ width_bits c.w)
OperandsRight c r s (ops.Let (Some t) x) = OperandRight c r s t x
OperandsRight c r s (ops.Select (Some t) b x y) = TruthRight c r s b × OperandRight c r s t x × OperandRight c r s t y
OperandsRight c r s (ops.Compare op (Some t) x y) = OperandRight c r s t x × OperandRight c r s t y
OperandsRight c r s (ops.Not b) = TruthRight c r s b
OperandsRight c r s (ops.And b) = TruthRight c r s b
OperandsRight c r s (ops.Or a b) = TruthRight c r s a × TruthRight c r s b
OperandsRight c r s _ = ⊥

-- what the code of an item leaves: the item's value right in the lanes, or its truth exact
abbrev pub Makes : Bool → Chunk → Registers → State → (q m : ℕ) → Option ℕ → Op → Type 0
Makes false c r s q m mask op = MakesZ (op_code c.w r q m op) s (r.z q) c.w c.n (new_value c op q mask)
Makes true c r s q m mask op = MakesP (op_code c.w r q m op) s (r.p q) c.w (within c.n (new_truth c op q mask))

-- the type of what an operation makes, where it makes a value
abbrev pub made_type : Op → Option Ty
made_type (ops.Load a base t k) = t
made_type (ops.Gather a base t r u x) = t
made_type (ops.Unary op t x) = t
made_type (ops.Binary op t x y) = t
made_type (ops.Shift left k t x) = t
made_type (ops.Cast from t x) = Some t
made_type (ops.Let t x) = t
made_type (ops.Select t b x y) = t
made_type _ = None

-- values of n lanes are of a type, where there is one
abbrev pub AllTyped : Option Ty → (n : ℕ) → (ℕ → ℤ) → Type 0
AllTyped None n v = Unit {0}
AllTyped (Some t) n v = AllOf t n v

-- The code of an item, from a state in which its operands and its mask are right, makes what the item makes in each lane;
-- and a value that is made is one of the item's type.
pub record ItemRuns (c : Chunk) (r : Registers) (s : State) (q m : ℕ) (mask : Option ℕ) (op : Op) : Type 0 where
  pub makes : Makes (makes_truth op) c r s q m mask op
  pub typed : AllTyped (made_type op) c.n (new_value c op q mask)

abbrev pub LanesRight : Type 0
LanesRight =
    (c : Chunk) (r : Registers) (s : State) (q m : ℕ) (mask : Option ℕ) (op : Op) → Ready c.w c.n s → r.z q < 32 → r.p q < 16 → MaskRight c s m mask → OperandsRight c r s op → ItemRuns c r s q m mask op

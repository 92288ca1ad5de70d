-- When a layout fits the items of a loop: what the listing and the registers of live intervals give.
use Rattle.std.specs.Prelude.{◌≡◌, ◌≢◌, ℕ, ◌+◌, ◌<◌, ◌≤◌, ℤ, true, false, List, [], ◌∷◌, Option, Some, None, slice_index, bytes_eq, unsigned_abs}
use Rattle.guest_types.specs.declared.length.Width.{Width}
use Rattle.guest_types.specs.declared.length.Width.TheVariants.{D}
use Rattle.guest_types.specs.Length.{width_bits}
use Rattle.kernel_tree.specs.declared.ops.Ty.{Ty}
use Rattle.kernel_tree.specs.Wrap.{bits_of}
use Rattle.kernel_meaning.specs.Operators.{word, shift_count}
use Rattle.loop_form.specs.declared.loop_item.Operand.{Operand}
use Rattle.loop_form.specs.declared.loop_item.Operand.TheVariants.{Constant, Outer, LoopIndex, Made}
use Rattle.loop_form.specs.Reaches.{reach_of_type}
use Rattle.vector_order.specs.Operands.{nth_value}
use Rattle.loop_form.specs.LoopItems.{Op, Item}
use Rattle.loop_form.specs.LoopItems as ops
use Rattle.chunk_emit.specs.Registers.{Layout, z_of, p_of, IsValueUsed, IsTruthUsed}
use Rattle.chunk_emit.specs.ChunkCode.{past_cast}
use Rattle.chunk_emit.specs.Chunk.{Setting}
use Rattle.label_fix.specs.Registers.{first_condition_register}

-- Registers in range, and none for two things that are needed at once: Z0 to Z29, and P2 to P7.
pub record Assigned (l : Layout) : Type 0 where
  pub made : (q : ℕ) → l.registers.source (Made q) ≡ z_of l q
  pub z_small : (q : ℕ) → z_of l q < 32
  pub p_small : (q : ℕ) → p_of l q < 16
  pub p_low : (q : ℕ) → IsTruthUsed l q → first_condition_register ≤ p_of l q
  pub held_small : (x : Operand) → l.held x ≡ true → l.registers.source x < 32
  pub sum_small : (x : List ℕ) → l.updated x ≡ true → l.sum x < 32
  pub z_apart : (p q : ℕ) → q < p → p < l.z_last_use q → IsValueUsed l p → z_of l p ≢ z_of l q
  pub p_apart : (p q : ℕ) → q < p → p < l.p_last_use q → IsTruthUsed l p → p_of l p ≢ p_of l q
  pub held_apart : (x : Operand) (q : ℕ) → l.held x ≡ true → IsValueUsed l q → z_of l q ≢ l.registers.source x
  pub sum_apart : (x : List ℕ) (q : ℕ) → l.updated x ≡ true → IsValueUsed l q → z_of l q ≢ l.sum x
  pub sum_made : (x : List ℕ) (p q : ℕ) → l.updated x ≡ true → q < p → p < l.z_last_use q → l.sum x ≢ z_of l q
  pub sum_held : (x : List ℕ) (y : Operand) → l.updated x ≡ true → l.held y ≡ true → l.sum x ≢ l.registers.source y
  pub sums_apart : (x y : List ℕ) → l.updated x ≡ true → l.updated y ≡ true → bytes_eq x y ≡ false → l.sum x ≢ l.sum y

-- the value of an item is made before item p, and needed there
abbrev pub IsLive : Layout → (q p : ℕ) → Type 0
IsLive l q p = (q < p) × (p ≤ l.z_last_use q)

-- an operand of item p is in a register, and of a type
abbrev pub FitsInRegister : Layout → ℕ → Ty → Operand → Type 0
FitsInRegister l p t (Constant s z) = (l.held (Constant s z) ≡ true) × (s ≡ Some t)
FitsInRegister l p t (Outer x) = (l.held (Outer x) ≡ true) × (l.type (Outer x) ≡ t)
FitsInRegister l p t LoopIndex = (l.held LoopIndex ≡ true) × (l.type LoopIndex ≡ t)
FitsInRegister l p t (Made q) = IsLive l q p × (l.type (Made q) ≡ t)

-- the same of a type that is no wider than the lanes
abbrev pub FitsOperand : Layout → Width → ℕ → Ty → Operand → Type 0
FitsOperand l w p t x = FitsInRegister l p t x × (bits_of t ≤ width_bits w)

abbrev pub FitsTruth : Layout → ℕ → ℕ → Type 0
FitsTruth l p q = (q < p) × (p ≤ l.p_last_use q)

abbrev pub FitsMask : Layout → ℕ → Option ℕ → Type 0
FitsMask l p None = Unit {0}
FitsMask l p (Some q) = FitsTruth l p q

-- the address of an array is in the general register of its parameter
abbrev pub FitsBase : Setting → Operand → Type 0
FitsBase f (Outer p) = (p < 8) × (slice_index f.x p ≡ word (nth_value f.names p))
FitsBase f (Constant t z) = ⊥
FitsBase f LoopIndex = ⊥
FitsBase f (Made q) = ⊥

-- a reach that a type has, or none
abbrev pub IsReach : Option ℕ → Type 0
IsReach r = (o : Option Ty) × (r ≡ reach_of_type o)

-- an offset that one word adds
abbrev pub IsNear : ℤ → Type 0
IsNear c = unsigned_abs c ≤ 1024

-- item p makes a value of a type, or a condition, or neither
abbrev pub MakesValue : Layout → ℕ → Ty → Type 0
MakesValue l p t = (l.p_last_use p ≤ p) × (l.type (Made p) ≡ t)

abbrev pub MakesTruth : Layout → ℕ → Type 0
MakesTruth l p = l.z_last_use p ≤ p

abbrev pub MakesNothing : Layout → ℕ → Type 0
MakesNothing l p = (l.z_last_use p ≤ p) × (l.p_last_use p ≤ p)

abbrev pub FitsOp : Layout → Setting → ℕ → Op → Type 0
FitsOp l f p (ops.Load a base (Some t) c) = FitsBase f base × IsNear c × (bits_of t ≤ width_bits f.w) × IsValueUsed l p × MakesValue l p t
FitsOp l f p (ops.Gather a base (Some t) r (Some u) x) = FitsBase f base × (f.w ≡ D) × IsReach r × FitsOperand l f.w p u x × IsValueUsed l p × MakesValue l p t
FitsOp l f p (ops.Unary op (Some t) x) = FitsOperand l f.w p t x × MakesValue l p t
FitsOp l f p (ops.Binary op (Some t) x y) = FitsOperand l f.w p t x × FitsOperand l f.w p t y × MakesValue l p t
FitsOp l f p (ops.Shift left k (Some t) x) = FitsOperand l f.w p t x × (shift_count k < width_bits f.w) × MakesValue l p t
FitsOp l f p (ops.Cast (Some s) t x) = FitsOperand l f.w p s x × (bits_of t ≤ width_bits f.w) × MakesValue l p t
FitsOp l f p (ops.Let (Some t) x) = FitsOperand l f.w p t x × MakesValue l p t
FitsOp l f p (ops.Select (Some t) c x y) = FitsTruth l p c × FitsOperand l f.w p t x × FitsOperand l f.w p t y × MakesValue l p t
FitsOp l f p (ops.Store a base (Some t) c v) = FitsBase f base × IsNear c × FitsOperand l f.w p t v × MakesNothing l p
FitsOp l f p (ops.Update x op (Some t) v) = (l.updated x ≡ true) × (l.update x ≡ op) × (l.sum_type x ≡ t) × FitsOperand l f.w p t v × MakesNothing l p
FitsOp l f p (ops.Compare op (Some t) x y) = FitsOperand l f.w p t x × FitsOperand l f.w p t y × MakesTruth l p
FitsOp l f p (ops.Not c) = FitsTruth l p c × MakesTruth l p
FitsOp l f p (ops.And c) = FitsTruth l p c × MakesTruth l p
FitsOp l f p (ops.Or c d) = FitsTruth l p c × FitsTruth l p d × MakesTruth l p
FitsOp l f p _ = ⊥

-- no item with a number from p until q makes anything
abbrev pub NoneBetween : Layout → (p q : ℕ) → Type 0
NoneBetween l p q = (r : ℕ) → p ≤ r → r < q → MakesNothing l r

-- a cast that the store after it takes is used there last
abbrev pub FitsCast : Layout → Item → List Item → Type 0
FitsCast l it [] = Unit {0}
FitsCast l it (next ∷ items) = (op : Op) → past_cast it.item it.op next.op ≡ Some op → l.z_last_use it.item ≤ next.item

-- items without a break, with ascending numbers from p on
abbrev pub FitsItems : Layout → Setting → ℕ → List Item → Type 0
FitsItems l f p [] = Unit {0}
FitsItems l f p (it ∷ items) =
    (p ≤ it.item) × NoneBetween l p it.item × FitsMask l it.item it.mask × FitsOp l f it.item it.op × FitsCast l it items × FitsItems l f (it.item + 1) items

-- the number after the last item
abbrev pub following_items : ℕ → List Item → ℕ
following_items p [] = p
following_items p (it ∷ items) = following_items (it.item + 1) items

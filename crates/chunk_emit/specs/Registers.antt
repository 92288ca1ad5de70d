-- Where the values of a loop are kept while its items are done over the lanes of a chunk.
use Rattle.std.specs.Prelude.{ℕ, ◌<◌, Bool, List, nat_lt, if◌then◌else◌}
use Rattle.kernel_tree.specs.declared.ops.Ty.{Ty}
use Rattle.kernel_tree.specs.declared.ops.UpdateOp.{UpdateOp}
use Rattle.loop_form.specs.declared.loop_item.Operand.{Operand}
use Rattle.loop_form.specs.declared.loop_item.Operand.TheVariants.{Constant, Outer, LoopIndex, Made}
use Rattle.loop_form.specs.LoopItems.{Op}
use Rattle.lane_emit.specs.ItemCode.{Registers, makes_truth}

-- `registers` has the registers of items and operands, `type` the types of operands that are no literals. By item, the one that
-- uses its value last, and the one that uses its condition last. By value from before the loop, whether it has a register
-- throughout; by accumulator, whether the loop updates it, by which operator, its type, and its vector register.
pub record Layout : Type 0 where
  pub registers : Registers
  pub type : Operand → Ty
  pub z_last_use : ℕ → ℕ
  pub p_last_use : ℕ → ℕ
  pub held : Operand → Bool
  pub updated : List ℕ → Bool
  pub update : List ℕ → UpdateOp
  pub sum_type : List ℕ → Ty
  pub sum : List ℕ → ℕ

-- the vector register and the predicate register of an item
abbrev pub z_of : Layout → ℕ → ℕ
z_of l q = l.registers.z q

abbrev pub p_of : Layout → ℕ → ℕ
p_of l q = l.registers.p q

-- an item with a value, or with a condition, that is used after it
abbrev pub IsValueUsed : Layout → ℕ → Type 0
IsValueUsed l q = q < l.z_last_use q

abbrev pub IsTruthUsed : Layout → ℕ → Type 0
IsTruthUsed l q = q < l.p_last_use q

-- whether what an operation makes is used
abbrev pub is_used : Layout → Op → ℕ → Bool
is_used l op q = nat_lt q (if makes_truth op then l.p_last_use q else l.z_last_use q)

-- the general register of an array's address: that of the parameter
abbrev pub base_of : Operand → ℕ
base_of (Outer p) = p
base_of (Constant t z) = 0
base_of LoopIndex = 0
base_of (Made q) = 0

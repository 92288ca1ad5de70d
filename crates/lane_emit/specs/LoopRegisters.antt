-- Where the values of a kernel's loop are kept, by the registers of their intervals. Vector register j is Z j, and predicate
-- register j is P (2 + j), since P0 holds the chunk and P1 is all true.
use Rattle.std.specs.Prelude.{ℕ, suc, ◌+◌, ◌-◌, ◌<◌, List, [], ◌∷◌, Option, Some, None, Bool, true, false, ◌&&◌, option_map, bytes_eq, slice_get, slice_index, if◌then◌else◌}
use Rattle.kernel_tree.specs.Plain.{Program}
use Rattle.kernel_tree.specs.Items.{loop_start}
use Rattle.reg_assign.specs.declared.interval.RegClass.{RegClass}
use Rattle.reg_assign.specs.declared.interval.RegClass.TheVariants.{Z, P}
use Rattle.reg_assign.specs.Registers.{Assignment}
use Rattle.label_fix.specs.Registers.{first_condition_register, scratch_vector}
use Rattle.loop_form.specs.declared.loop_item.Operand.{Operand}
use Rattle.loop_form.specs.declared.loop_item.Operand.TheVariants.{Constant, Outer, LoopIndex, Made}
use Rattle.loop_form.specs.Needs as needs
use Rattle.loop_form.specs.Needs.{Throughout, scalar_of, same_type, same_number, throughout}
use Rattle.loop_form.specs.Places.{value_places}
use Rattle.lane_emit.specs.ItemCode.{Registers}

-- ---- intervals

-- the register of the interval with this place, and another number where there is none
abbrev pub register_of : ℕ → Assignment → Option ℕ → ℕ
register_of other a None = other
register_of other a (Some m) = slice_index a.registers m

abbrev pub flat : Option (Option ℕ) → Option ℕ
flat None = None
flat (Some o) = o

-- a place, where there is one, among so many
abbrev pub IsWithin : ℕ → Option ℕ → Type 0
IsWithin n None = Unit {0}
IsWithin n (Some m) = m < n

-- the place of the interval of an item's value among those of a class
abbrev pub item_place : Program → RegClass → ℕ → Option ℕ
item_place k class q = flat (slice_get (value_places k class) (q - loop_start k))

-- ---- values from before the loop

-- what is held throughout the loop for an operand, where it is no value of an item
abbrev pub throughout_of : Program → Operand → Option Throughout
throughout_of k (Constant t n) = Some (needs.Constant t n)
throughout_of k (Outer p) = option_map scalar_of (slice_get k.params p)
throughout_of k LoopIndex = Some needs.Index
throughout_of k (Made q) = None

abbrev pub is_same : Throughout → Throughout → Bool
is_same (needs.Scalar x) (needs.Scalar y) = bytes_eq x y
is_same (needs.Constant s m) (needs.Constant t n) = same_type s t && same_number m n
is_same needs.Index needs.Index = true
is_same (needs.Accumulating x) (needs.Accumulating y) = bytes_eq x y
is_same _ _ = false

abbrev pub next_place : Option ℕ → Option ℕ
next_place None = None
next_place (Some m) = Some (suc m)

-- the place of a value in a list of them
abbrev pub place_in : Throughout → List Throughout → Option ℕ
place_in t [] = None
place_in t (u ∷ us) = if is_same u t then Some 0 else next_place (place_in t us)

abbrev pub place_of_one : List Throughout → Option Throughout → Option ℕ
place_of_one ts None = None
place_of_one ts (Some t) = place_in t ts

-- the place of an operand's interval, and of an accumulator's
abbrev pub held_place : Program → Operand → Option ℕ
held_place k x = place_of_one (throughout k Z) (throughout_of k x)

abbrev pub sum_place : Program → List ℕ → Option ℕ
sum_place k x = place_in (needs.Accumulating x) (throughout k Z)

-- ---- registers

-- each value has the register of its interval, the one of a condition two more than its number
abbrev pub operand_register : Program → Assignment → Operand → ℕ
operand_register k a (Made q) = register_of scratch_vector a (item_place k Z q)
operand_register k a x = register_of scratch_vector a (held_place k x)

abbrev pub predicate_register : Program → Assignment → ℕ → ℕ
predicate_register k b q = first_condition_register + register_of 0 b (item_place k P q)

-- by the registers of the intervals of class Z and of class P
abbrev pub loop_registers : Program → (a b : Assignment) → Registers
loop_registers k a b = record { source = operand_register k a; z = λ q. operand_register k a (Made q); p = predicate_register k b }

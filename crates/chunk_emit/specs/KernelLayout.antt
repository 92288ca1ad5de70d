-- Where the values of a kernel's loop are kept, by the registers of their intervals: Z0 to Z29, and P2 to P7.
use Rattle.std.specs.Prelude.{ℕ, ◌-◌, Bool, false, List, [], ◌∷◌, map, Option, Some, None, is_some, unwrap_or, nat_eq, slice_get, slice_index, if◌then◌else◌}
use Rattle.std.specs.List.{find}
use Rattle.kernel_tree.specs.declared.ops.Ty.{Ty}
use Rattle.kernel_tree.specs.declared.ops.Ty.TheVariants.{U64}
use Rattle.kernel_tree.specs.declared.ops.UpdateOp.{UpdateOp}
use Rattle.kernel_tree.specs.declared.ops.UpdateOp.TheVariants as update
use Rattle.kernel_tree.specs.declared.ast.Shape.{Shape}
use Rattle.kernel_tree.specs.declared.ast.Shape.TheVariants as shape
use Rattle.kernel_tree.specs.Plain.{Parameter, Program}
use Rattle.kernel_tree.specs.Items.{loop_start}
use Rattle.reg_assign.specs.declared.interval.RegClass.{RegClass}
use Rattle.reg_assign.specs.declared.interval.RegClass.TheVariants.{Z, P}
use Rattle.reg_assign.specs.Registers.{Assignment}
use Rattle.label_fix.specs.Registers.{scratch_vector}
use Rattle.loop_form.specs.declared.loop_item.Operand.{Operand}
use Rattle.loop_form.specs.declared.loop_item.Operand.TheVariants.{Constant, Outer, LoopIndex, Made}
use Rattle.loop_form.specs.Entries.{Content, IsUpdate, Entry, entries_of, loop_entries}
use Rattle.loop_form.specs.Lanes.{var_type}
use Rattle.loop_form.specs.Listing.{last_use_in}
use Rattle.loop_form.specs.LoopItems.{Item, loop_items_of}
use Rattle.loop_form.specs.Needs.{updates}
use Rattle.lane_emit.specs.ItemCode.{made_type, makes_truth}
pub use Rattle.lane_emit.specs.LoopRegisters.{register_of, flat, item_place, throughout_of, is_same, next_place, place_in, place_of_one, held_place, sum_place, operand_register, predicate_register}
use Rattle.chunk_emit.specs.Registers.{Layout}

-- ---- values of items

-- the item that uses an item's value last, or 0 where it makes none in the class
abbrev pub last_in : RegClass → List Entry → Entry → ℕ
last_in class all e = unwrap_or (last_use_in class all e) 0

abbrev pub item_last_use : Program → RegClass → ℕ → ℕ
item_last_use k class q = slice_index (map (last_in class (entries_of k)) (loop_entries k)) (q - loop_start k)

-- the type of what the item with a number makes
abbrev pub type_in : List Item → ℕ → Option Ty
type_in [] q = None
type_in (it ∷ items) q = if nat_eq it.item q then made_type it.op else type_in items q

-- whether the item with a number makes a condition
abbrev pub tests_in : List Item → ℕ → Bool
tests_in [] q = false
tests_in (it ∷ items) q = if nat_eq it.item q then makes_truth it.op else tests_in items q

-- The item that uses the condition of an item last, or 0 where it makes none: so it is of the mark and of the `||` of a break, in
-- whose places there are breaks.
abbrev pub truth_last_use : Program → ℕ → ℕ
truth_last_use k q = if tests_in (loop_items_of k) q then item_last_use k P q else 0

-- ---- values from before the loop

abbrev pub scalar_type : Option Parameter → Ty
scalar_type None = U64
scalar_type (Some p) = by_shape p.shape
  where
    by_shape : Shape → Ty
    by_shape (shape.Scalar t) = t
    by_shape (shape.Array t) = U64

-- ---- accumulators

abbrev pub operator_in : Content → UpdateOp
operator_in (IsUpdate x op) = op
operator_in _ = update.Add

abbrev pub operator_of : Option Entry → UpdateOp
operator_of None = update.Add
operator_of (Some e) = operator_in e.content

-- the operator of the first update of an accumulator
abbrev pub update_of : Program → List ℕ → UpdateOp
update_of k x = operator_of (find (updates x) (loop_entries k))

-- ---- the layout

abbrev pub operand_type : Program → Operand → Ty
operand_type k (Constant t n) = unwrap_or t U64
operand_type k (Outer p) = scalar_type (slice_get k.params p)
operand_type k LoopIndex = U64
operand_type k (Made q) = unwrap_or (type_in (loop_items_of k) q) U64

-- The layout of a kernel's loop, by the registers of its intervals of class Z and of class P. Each value has the register of
-- its interval, the one of a condition two more than its number; what is held throughout comes first among the intervals.
abbrev pub layout_of_loop : Program → (a b : Assignment) → Layout
layout_of_loop k a b = record {
  registers = record { source = operand_register k a; z = λ q. operand_register k a (Made q); p = predicate_register k b };
  type = operand_type k;
  z_last_use = item_last_use k Z;
  p_last_use = truth_last_use k;
  held = λ x. is_some (held_place k x);
  updated = λ x. is_some (sum_place k x);
  update = update_of k;
  sum_type = λ x. unwrap_or (var_type x k.vars) U64;
  sum = λ x. register_of scratch_vector a (sum_place k x);
}

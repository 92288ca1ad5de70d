-- What a resolved kernel does with a memory and the values of its slots.
use Rattle.std.specs.Prelude.{ℕ, ℤ, pos, ◌+ℤ◌, List, Option, Some, None, option_map, option_and_then, Result, Ok, Err, Bool, true, false, not, slice_index_or, slice_set}
use Rattle.kernel_tree.specs.declared.ops.Ty.{Ty}
use Rattle.kernel_tree.specs.declared.ops.Ty.TheVariants as ty
use Rattle.guest_types.specs.declared.memory.AccessFault.{AccessFault}
use Rattle.guest_types.specs.Memory.{Memory, stored}
use Rattle.kernel_tree.specs.Wrap.{wrap, byte_count}
use Rattle.kernel_meaning.specs.Ends.{BlockEnd, Next, Broke, Faulted}
use Rattle.kernel_meaning.specs.Operators.{word, unary_value, binary_value, shift_value, compare_on}
use Rattle.kernel_meaning.specs.Eval.{read_element, on_both, chosen, and_then, or_else, address}
use Rattle.kernel_plan.specs.Trees.{Tree, Constant, Slot, Stream, Element, Unary, Binary, Shift, Cast, Select, Compare, And, Or, Not, Task, Set, Put, Store, If, Break, Tasks, Done, Then}
use Rattle.kernel_eval.specs.declared.block_end.BlockEnd.{BlockEnd as CodeEnd}
use Rattle.kernel_eval.specs.declared.block_end.BlockEnd.TheVariants as code

abbrev pub Slots : Type 0
Slots = List ℤ

-- the value of a slot, and 0 past the last one
abbrev pub slot_at : Slots → ℕ → ℤ
slot_at slots n = slice_index_or slots n (pos 0)

-- the number of the element at an offset from the loop variable, modulo 2^64
abbrev pub stream_number : ℤ → ℤ → ℤ
stream_number i c = wrap ty.U64 (i +ℤ c)

abbrev mutual
  pub tree_value : Tree → Memory → Slots → Option ℤ
  tree_value (Constant z) memory slots = Some z
  tree_value (Slot n) memory slots = Some (slot_at slots n)
  tree_value (Stream base t n c) memory slots = read_element t memory (slot_at slots base) (stream_number (slot_at slots n) c)
  tree_value (Element base t e) memory slots = option_and_then (read_element t memory (slot_at slots base)) (tree_value e memory slots)
  tree_value (Unary op t e) memory slots = option_map (unary_value op t) (tree_value e memory slots)
  tree_value (Binary op t a b) memory slots = on_both (binary_value op t) (tree_value a memory slots) (tree_value b memory slots)
  tree_value (Shift left n t e) memory slots = option_map (shift_value left n t) (tree_value e memory slots)
  tree_value (Cast t e) memory slots = option_map (wrap t) (tree_value e memory slots)
  tree_value (Select c a b) memory slots = chosen (tree_value a memory slots) (tree_value b memory slots) (tree_holds c memory slots)
  tree_value other memory slots = Some (pos 0)

  pub tree_holds : Tree → Memory → Slots → Option Bool
  tree_holds (Compare op a b) memory slots = on_both (compare_on op) (tree_value a memory slots) (tree_value b memory slots)
  tree_holds (And a b) memory slots = and_then (tree_holds a memory slots) (tree_holds b memory slots)
  tree_holds (Or a b) memory slots = or_else (tree_holds a memory slots) (tree_holds b memory slots)
  tree_holds (Not e) memory slots = option_map not (tree_holds e memory slots)
  tree_holds other memory slots = Some false

-- the value of an element of an array, and 0 of another tree
abbrev pub element_value : Tree → Memory → Slots → Option ℤ
element_value (Stream base t n c) memory slots = tree_value (Stream base t n c) memory slots
element_value (Element base t e) memory slots = tree_value (Element base t e) memory slots
element_value other memory slots = Some (pos 0)

-- the code's answer with the memory and the slots that it leaves
abbrev pub block_end_of : CodeEnd → Memory → Slots → BlockEnd Slots
block_end_of code.Next memory slots = Next memory slots
block_end_of code.Broke memory slots = Broke memory slots
block_end_of code.Faulted memory slots = Faulted memory

abbrev pub set_slot : ℕ → Memory → Slots → Option ℤ → BlockEnd Slots
set_slot n memory slots None = Faulted memory
set_slot n memory slots (Some v) = Next memory (slice_set slots n v)

abbrev pub write : Memory → Slots → Result Memory AccessFault → BlockEnd Slots
write memory slots (Ok after) = Next after slots
write memory slots (Err fault) = Faulted memory

abbrev pub store : Option Ty → ℤ → Memory → Slots → Option ℤ → Option ℤ → BlockEnd Slots
store t base memory slots None x = Faulted memory
store t base memory slots (Some v) None = Faulted memory
store None base memory slots (Some v) (Some x) = Faulted memory
store (Some t) base memory slots (Some v) (Some x) = write memory slots (stored memory (address t base x) (byte_count t) (word v))

abbrev pub branch : Memory → Option Bool → BlockEnd Slots → BlockEnd Slots → BlockEnd Slots
branch memory None one other = Faulted memory
branch memory (Some true) one other = one
branch memory (Some false) one other = other

abbrev pub quit : Memory → Slots → Option Bool → BlockEnd Slots
quit memory slots None = Faulted memory
quit memory slots (Some true) = Broke memory slots
quit memory slots (Some false) = Next memory slots

abbrev pub then_go : BlockEnd Slots → (Memory → Slots → BlockEnd Slots) → BlockEnd Slots
then_go (Next memory slots) rest = rest memory slots
then_go (Broke memory slots) rest = Broke memory slots
then_go (Faulted memory) rest = Faulted memory

abbrev mutual
  pub do_task : Task → Memory → Slots → BlockEnd Slots
  do_task (Set n e) memory slots = set_slot n memory slots (tree_value e memory slots)
  do_task (Put base t n c e) memory slots = store t (slot_at slots base) memory slots (tree_value e memory slots) (Some (stream_number (slot_at slots n) c))
  do_task (Store base t i e) memory slots = store t (slot_at slots base) memory slots (tree_value e memory slots) (tree_value i memory slots)
  do_task (If c one other) memory slots = branch memory (tree_holds c memory slots) (do_tasks one memory slots) (do_tasks other memory slots)
  do_task (Break c) memory slots = quit memory slots (tree_holds c memory slots)

  pub do_tasks : Tasks → Memory → Slots → BlockEnd Slots
  do_tasks Done memory slots = Next memory slots
  do_tasks (Then t rest) memory slots = then_go (do_task t memory slots) (do_tasks rest)

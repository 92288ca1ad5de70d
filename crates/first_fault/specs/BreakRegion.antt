-- The items of a loop up to its last break, and the rest of them.
use Rattle.std.specs.Prelude.{◌≡◌, Bool, true, false, List, [], ◌∷◌, ◌++◌, Some, if◌then◌else◌}
use Rattle.std.specs.List.{list_any}
use Rattle.kernel_tree.specs.Plain.{PlainLoop, Program}
use Rattle.kernel_meaning.specs.Eval.{Names}
use Rattle.dependence.specs.Classes.{class_of}
pub use Rattle.close_bound.specs.CloseBound.{breaks_loop, is_loop_break}
use Rattle.dependence.specs.declared.reason.Class.TheVariants.{Vector}
use Rattle.vector_order.specs.Regions.{AllQuiet}
use Rattle.loop_form.specs.LoopItems.{Op, Item, loop_items}
use Rattle.loop_form.specs.LoopItems as ops
use Rattle.vector_order.specs.Items.{acts_of}

abbrev pub writes : Op → Bool
writes (ops.Gather a base t r u x) = true
writes (ops.Store a base t c v) = true
writes (ops.Update x op t v) = true
writes _ = false

-- a store, an update, or a read at a computed index
abbrev pub is_write : Item → Bool
is_write it = writes it.op

-- the break region: the items up to the last break
abbrev pub region_of : List Item → List Item
region_of [] = []
region_of (it ∷ items) = if list_any is_loop_break (it ∷ items) then it ∷ region_of items else []

abbrev pub rest_of : List Item → List Item
rest_of [] = []
rest_of (it ∷ items) = if list_any is_loop_break (it ∷ items) then rest_of items else it ∷ items

-- Items are those of the region and of the rest; the rest has no break, and the region no store and no update, so that
-- nothing in it writes.
pub record BreakRegion (items : List Item) : Type 0 where
  pub whole : region_of items ++ rest_of items ≡ items
  pub unbroken : list_any is_loop_break (rest_of items) ≡ false
  pub unwritten : list_any is_write (region_of items) ≡ false
  pub quiet : (names : Names) → AllQuiet (acts_of names (region_of items))

abbrev pub RegionSplits : Type 0
RegionSplits = (k : Program) (l : PlainLoop) → k.for_loop ≡ Some l → class_of k ≡ Vector → BreakRegion (loop_items k l)

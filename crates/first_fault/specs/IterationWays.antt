-- How an iteration fares in the break region, and the iteration of the scalar loop.
use Rattle.std.specs.Prelude.{◌≡◌, ℕ, List, Some, None}
use Rattle.guest_types.specs.Memory.{Memory}
use Rattle.kernel_tree.specs.Plain.{PlainLoop, Program}
use Rattle.kernel_tree.specs.Typing.{check_fault, var_scope}
use Rattle.kernel_meaning.specs.Ends as ends
use Rattle.kernel_meaning.specs.Ends.{BlockEnd}
use Rattle.kernel_meaning.specs.Eval.{Names}
use Rattle.kernel_meaning.specs.Iterate.{iterate}
use Rattle.kernel_meaning.specs.ScalarRun.{started}
use Rattle.loop_form.specs.LoopItems.{loop_items}
use Rattle.dependence.specs.Classes.{class_of}
use Rattle.dependence.specs.declared.reason.Class.TheVariants.{Vector}
use Rattle.vector_order.specs.Orders.{Lane}
use Rattle.vector_order.specs.Order.{Steady}
use Rattle.first_fault.specs.Region.{Way, On, Broke, Fell, region_way}
use Rattle.first_fault.specs.BreakRegion.{region_of}

-- An iteration that breaks, or faults, in the region does so in the scalar loop, and has stored nothing. One that goes on does not
-- break there: it ends, or faults in the rest.
abbrev pub IsIteration : Way → Memory → BlockEnd Names → Type 0
IsIteration (On l) m (ends.Broke after names) = ⊥
IsIteration (On l) m _ = Unit {0}
IsIteration Broke m (ends.Broke after names) = after ≡ m
IsIteration Fell m (ends.Faulted after) = after ≡ m
IsIteration _ m _ = ⊥

abbrev pub WayIsIteration : Type 0
WayIsIteration =
    (k : Program) (l : PlainLoop) (args : List ℕ) (start : Memory) (names cur : Names) (i : ℕ) (m : Memory) (lane : Lane) → check_fault k ≡ None → k.for_loop ≡ Some l → class_of k ≡ Vector → started k args start ≡ Some names → Steady k names cur
    → IsIteration (region_way names (region_of (loop_items k l)) i m lane) m (iterate (var_scope k) l i m cur)

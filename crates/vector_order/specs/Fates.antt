-- How an iteration ends, by its items in one lane.
use Rattle.std.specs.Prelude.{◌≡◌, ℕ, List, [], ◌∷◌, Some, None, Result, Ok, Err}
use Rattle.guest_types.specs.declared.memory.AccessFault.{AccessFault}
use Rattle.guest_types.specs.Memory.{Memory, stored}
use Rattle.kernel_tree.specs.Plain.{PlainLoop, Program}
use Rattle.kernel_tree.specs.Typing.{check_fault, var_scope}
use Rattle.kernel_meaning.specs.Ends.{BlockEnd, Next, Broke, Faulted}
use Rattle.kernel_meaning.specs.Eval.{Names}
use Rattle.kernel_meaning.specs.Iterate.{iterate}
use Rattle.kernel_meaning.specs.ScalarRun.{started}
use Rattle.loop_form.specs.LoopItems.{Op, Item, loop_items}
use Rattle.loop_form.specs.LoopItems as ops
use Rattle.dependence.specs.Classes.{class_of}
use Rattle.dependence.specs.declared.reason.Class.TheVariants.{Vector}
use Rattle.vector_order.specs.Orders.{Lane, Effect, Halts, Keeps, Writes}
use Rattle.vector_order.specs.Items.{item_act}
use Rattle.vector_order.specs.Order.{Steady}

-- why an iteration ends before its last item
pub data Cause : Type 0 where
  ByBreak : Cause
  ByFault : Cause

abbrev pub cause_of : Op → Cause
cause_of (ops.Break c) = ByBreak
cause_of _ = ByFault

pub data Fate : Type 0 where
  Through : (m : Memory) (l : Lane) → Fate
  Ended : (why : Cause) (m : Memory) → Fate

abbrev pub wrote_on : Result Memory AccessFault → Memory → Lane → (Memory → Lane → Fate) → Fate
wrote_on (Ok after) m l f = f after l
wrote_on (Err fault) m l f = Ended ByFault m

abbrev pub effect_on : Cause → Effect → Memory → Lane → (Memory → Lane → Fate) → Fate
effect_on why Halts m l f = Ended why m
effect_on why (Keeps k) m l f = f m k
effect_on why (Writes a b v) m l f = wrote_on (stored m a b v) m l f

-- the items one after another in one lane, which keeps what it holds when a memory changes
abbrev pub fate : Names → List Item → ℕ → Memory → Lane → Fate
fate names [] i m l = Through m l
fate names (it ∷ items) i m l = effect_on (cause_of it.op) (item_act names it i m l) m l (fate names items i)

-- an iteration goes on, breaks or faults, and so do its items, with the same memory
abbrev pub SameEnd : BlockEnd Names → Fate → Type 0
SameEnd (Next m ns) (Through a l) = a ≡ m
SameEnd (Broke m ns) (Ended ByBreak a) = a ≡ m
SameEnd (Faulted m) (Ended ByFault a) = a ≡ m
SameEnd _ _ = ⊥

abbrev pub IterationIsFate : Type 0
IterationIsFate =
    (k : Program) (l : PlainLoop) (args : List ℕ) (start : Memory) (names cur : Names) (i : ℕ) (m : Memory) (lane : Lane) → check_fault k ≡ None → k.for_loop ≡ Some l → class_of k ≡ Vector → started k args start ≡ Some names → Steady k names cur
    → SameEnd (iterate (var_scope k) l i m cur) (fate names (loop_items k l) i m lane)

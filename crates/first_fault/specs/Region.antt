-- The break region of a loop: its items up to the last break, and how an iteration fares in them.
use Rattle.std.specs.Prelude.{ℕ, List, [], ◌∷◌, Option, Some, None}
use Rattle.guest_types.specs.Memory.{Memory}
use Rattle.kernel_meaning.specs.Eval.{Names}
use Rattle.vector_order.specs.Orders.{Lane, Effect, Halts, Keeps, Writes}
use Rattle.loop_form.specs.LoopItems.{Op, Item}
use Rattle.loop_form.specs.LoopItems as ops
use Rattle.vector_order.specs.Items.{item_act}

-- an iteration goes on with what its lane then holds, breaks, or faults
pub data Way : Type 0 where
  On : (l : Lane) → Way
  Broke : Way
  Fell : Way

-- why an item halts: a break breaks, and all else faults
abbrev pub halted : Op → Way
halted (ops.Break c) = Broke
halted _ = Fell

-- no item of the region writes
abbrev pub way_of : Way → Effect → Way
way_of halt (Keeps l) = On l
way_of halt Halts = halt
way_of halt (Writes a k v) = Fell

abbrev pub item_way : Names → Item → ℕ → Memory → Lane → Way
item_way names it j m l = way_of (halted it.op) (item_act names it j m l)

abbrev pub way_on : Way → (Lane → Way) → Way
way_on (On l) f = f l
way_on Broke f = Broke
way_on Fell f = Fell

-- the items of one iteration, on a memory that does not change
abbrev pub region_way : Names → List Item → ℕ → Memory → Lane → Way
region_way names [] j m l = On l
region_way names (it ∷ items) j m l = way_on (item_way names it j m l) (region_way names items j m)

-- what the lane is left with, where the iteration goes on
abbrev pub lane_left : Way → Option Lane
lane_left (On l) = Some l
lane_left Broke = None
lane_left Fell = None

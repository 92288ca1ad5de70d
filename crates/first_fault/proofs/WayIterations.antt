-- Where an iteration breaks or faults in the region, that of the scalar loop does.
use Rattle.std.proofs.Common.{◌≡◌, ℕ, false, List, [], ◌∷◌, ◌++◌, Result, Ok, Err, refl, sym, ap, ◌∙◌, subst}
use Rattle.std.specs.List.{list_any}
use Rattle.std.proofs.lemmas.Bool.{or_parts}
use Rattle.guest_types.specs.declared.memory.AccessFault.{AccessFault}
use Rattle.guest_types.specs.Memory.{Memory, stored}
use Rattle.kernel_meaning.specs.Ends as ends
use Rattle.kernel_meaning.specs.Ends.{BlockEnd}
use Rattle.kernel_meaning.specs.Eval.{Names}
use Rattle.kernel_meaning.specs.Iterate.{iterate}
use Rattle.kernel_tree.specs.Typing.{var_scope}
use Rattle.vector_order.specs.Orders.{Lane, Effect, Halts, Keeps, Writes}
use Rattle.vector_order.specs.Regions.{AllQuiet}
use Rattle.loop_form.specs.LoopItems.{Op, Item, loop_items}
use Rattle.loop_form.specs.LoopItems as ops
use Rattle.vector_order.specs.Items.{item_act, acts_of}
use Rattle.vector_order.specs.Fates.{ByBreak, ByFault, cause_of, Fate, Through, Ended, wrote_on, effect_on, fate, SameEnd}
use Rattle.vector_order.proofs.OrderLaw.{iteration_is_fate}
use Rattle.first_fault.specs.Region.{Way, On, Broke, Fell, halted, way_of, way_on, region_way}
use Rattle.first_fault.specs.BreakRegion.{breaks_loop, is_loop_break, region_of, rest_of}
use Rattle.first_fault.specs.IterationWays.{IsIteration, WayIsIteration}
use Rattle.first_fault.proofs.BreakRegions.{region_splits}

-- how an iteration ends by how it fares in the region, and then in the rest
abbrev fate_after : Way → Memory → (Lane → Fate) → Fate
fate_after (On l) m f = f l
fate_after Broke m f = Ended ByBreak m
fate_after Fell m f = Ended ByFault m

halted_ends : (op : Op) (g : Lane → Way) (m : Memory) (f : Lane → Fate) → Ended (cause_of op) m ≡ fate_after (way_on (halted op) g) m f
halted_ends (ops.Load a b t c) g m f = refl
halted_ends other g m f = refl

fate_is : (names : Names) (items rest : List Item) (j : ℕ) (m : Memory) (l : Lane) → AllQuiet (acts_of names items) → fate names (items ++ rest) j m l ≡ fate_after (region_way names items j m l) m (fate names rest j m)
fate_is names [] rest j m l quiet = refl
fate_is names (it ∷ items) rest j m l quiet = by (item_act names it j m l) refl (λ k. fate_is names items rest j m k quiet.1)
  where
    by : (e : Effect) → item_act names it j m l ≡ e → ((k : Lane) → fate names (items ++ rest) j m k ≡ fate_after (region_way names items j m k) m (fate names rest j m))
        → effect_on (cause_of it.op) e m l (fate names (items ++ rest) j) ≡ fate_after (way_on (way_of (halted it.op) e) (region_way names items j m)) m (fate names rest j m)
    by (Keeps k) is ih = ih k
    by Halts is ih = halted_ends it.op (region_way names items j m) m (fate names rest j m)
    by (Writes a k v) is ih = absurd (quiet.0.never j m l a k v is)

-- ---- items without a break

abbrev pub Unbroken : Fate → Type 0
Unbroken (Through m l) = Unit {0}
Unbroken (Ended ByFault m) = Unit {0}
Unbroken (Ended ByBreak m) = ⊥

no_break : (op : Op) (m : Memory) → breaks_loop op ≡ false → Unbroken (Ended (cause_of op) m)
no_break (ops.Load a base t c) m e = tt
no_break (ops.Gather a base t r u x) m e = tt
no_break (ops.Unary op t x) m e = tt
no_break (ops.Binary op t x y) m e = tt
no_break (ops.Shift left n t x) m e = tt
no_break (ops.Cast s t x) m e = tt
no_break (ops.Let t x) m e = tt
no_break (ops.Select t c x y) m e = tt
no_break (ops.Store a base t c v) m e = tt
no_break (ops.Update x op t v) m e = tt
no_break (ops.Compare op t x y) m e = tt
no_break (ops.Not c) m e = tt
no_break (ops.And c) m e = tt
no_break (ops.Or c d) m e = tt
no_break (ops.Break c) m e = absurd cc

pub fate_unbroken : (names : Names) (items : List Item) (j : ℕ) (m : Memory) (l : Lane) → list_any is_loop_break items ≡ false → Unbroken (fate names items j m l)
fate_unbroken names [] j m l e = tt
fate_unbroken names (it ∷ items) j m l e =
    let parts = or_parts (is_loop_break it) (list_any is_loop_break items) e in
    by (item_act names it j m l) parts.0 (λ n k. fate_unbroken names items j n k parts.1)
  where
    by : (f : Effect) → is_loop_break it ≡ false → ((n : Memory) (k : Lane) → Unbroken (fate names items j n k)) → Unbroken (effect_on (cause_of it.op) f m l (fate names items j))
    by Halts q more = no_break it.op m q
    by (Keeps k) q more = more m k
    by (Writes a b v) q more = wrote (stored m a b v)
      where
        wrote : (r : Result Memory AccessFault) → Unbroken (wrote_on r m l (fate names items j))
        wrote (Ok after) = more after l
        wrote (Err fault) = tt

-- ---- an iteration

broken_unbroken : (m : Memory) (ns : Names) (f : Fate) → Unbroken f → SameEnd (ends.Broke m ns) f → ⊥
broken_unbroken m ns (Ended ByBreak a) whole same = whole
broken_unbroken m ns (Ended ByFault a) whole same = same
broken_unbroken m ns (Through a l) whole same = same

as_iteration : (w : Way) (m : Memory) (f : Lane → Fate) (iteration_end : BlockEnd Names) → ((l : Lane) → Unbroken (f l)) → SameEnd iteration_end (fate_after w m f) → IsIteration w m iteration_end
as_iteration (On l) m f (ends.Next after names) whole h = tt
as_iteration (On l) m f (ends.Broke after names) whole h = broken_unbroken after names (f l) (whole l) h
as_iteration (On l) m f (ends.Faulted after) whole h = tt
as_iteration Broke m f (ends.Next after names) whole h = h
as_iteration Broke m f (ends.Broke after names) whole h = sym h
as_iteration Broke m f (ends.Faulted after) whole h = h
as_iteration Fell m f (ends.Next after names) whole h = h
as_iteration Fell m f (ends.Broke after names) whole h = h
as_iteration Fell m f (ends.Faulted after) whole h = sym h

pub way_is_iteration : WayIsIteration
way_is_iteration k l args start names cur i m lane checked loop vector began steady =
    let split = region_splits k l loop vector in
    let region = region_of (loop_items k l) in
    let rest = rest_of (loop_items k l) in
    let iteration_end = iterate (var_scope k) l i m cur in
    as_iteration (region_way names region i m lane) m (fate names rest i m) iteration_end (λ l. fate_unbroken names rest i m l split.unbroken)
    (subst (SameEnd iteration_end) (ap (λ items. fate names items i m lane) (sym split.whole) ∙ fate_is names region rest i m lane (split.quiet names)) (iteration_is_fate k l args start names cur i m lane checked loop vector began steady))

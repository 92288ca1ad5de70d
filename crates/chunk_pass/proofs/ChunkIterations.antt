-- How the iterations of a chunk end, by their items in the lanes.
use Rattle.std.proofs.Common.{◌≡◌, ◌⊎◌, ℕ, zero, suc, ◌+◌, ◌<◌, false, List, [], ◌∷◌, ◌++◌, Some, None, inl, inr, refl, sym, ap, ◌∙◌, subst, arith}
use Rattle.std.specs.List.{list_any}
use Rattle.guest_types.specs.Memory.{Memory}
use Rattle.kernel_tree.specs.Plain.{PlainLoop}
use Rattle.kernel_tree.specs.Typing.{Scope}
use Rattle.kernel_meaning.specs.Ends as ends
use Rattle.kernel_meaning.specs.Ends.{BlockEnd, Next, Broke, Faulted, Going, Left}
use Rattle.kernel_meaning.specs.Eval.{Names}
use Rattle.kernel_meaning.specs.Iterate.{iterate}
use Rattle.kernel_meaning.specs.ScalarRun.{iterations}
use Rattle.loop_form.specs.LoopItems.{Item}
use Rattle.vector_order.specs.Orders.{Lane, Effect, Halts, Keeps, Writes, Act}
use Rattle.vector_order.specs.Regions.{AllQuiet}
use Rattle.vector_order.specs.Items.{item_act, acts_of}
use Rattle.vector_order.specs.Fates.{ByBreak, ByFault, cause_of, Fate, Through, Ended, effect_on, fate, SameEnd}
use Rattle.first_fault.specs.Region as region
use Rattle.first_fault.specs.Region.{Way, On, Fell, halted, way_of, way_on, lane_left, region_way}
use Rattle.first_fault.specs.BreakRegion.{is_loop_break}
use Rattle.first_fault.specs.IterationWays.{IsIteration}
use Rattle.first_fault.proofs.RegionItems.{halted_goes}
use Rattle.first_fault.proofs.WayIterations.{Unbroken, fate_unbroken}
use Rattle.chunk_pass.specs.Halts.{Breaks, Faults}

pub acts-append : (names : Names) (xs ys : List Item) → acts_of names (xs ++ ys) ≡ acts_of names xs ++ acts_of names ys
acts-append names [] ys = refl
acts-append names (x ∷ xs) ys = ap (λ (acts : List Act). item_act names x ∷ acts) (acts-append names xs ys)

-- ---- the iteration that breaks

-- the iterations before it go on
pub record BreaksAt (scope : Scope) (l : PlainLoop) (n i : ℕ) (m : Memory) (cur : Names) : Type 0 where
  pub e : ℕ
  pub few : e < n
  pub memory : Memory
  pub names : Names
  pub goes : iterations scope l e i m cur ≡ Going memory names
  pub breaks : Breaks (iterate scope l (i + e) memory names)

pub breaks_at : (scope : Scope) (l : PlainLoop) (n i : ℕ) (m after : Memory) (cur names : Names) (j : ℕ) → iterations scope l n i m cur ≡ Left after names j → BreaksAt scope l n i m cur
unfolding iterations
breaks_at scope l zero i m after cur names j e = absurd cc
breaks_at scope l (suc n) i m after cur names j e = by (iterate scope l i m cur) refl e (λ a ns f. breaks_at scope l n (i + 1) a after ns names j f)
  where
    by : (iteration_end : BlockEnd Names) → iterate scope l i m cur ≡ iteration_end → ends.go_on iteration_end i (iterations scope l n (i + 1)) ≡ Left after names j → ((a : Memory) (ns : Names) → iterations scope l n (i + 1) a ns ≡ Left after names j → BreaksAt scope l n (i + 1) a ns) → BreaksAt scope l (suc n) i m cur
    by (Next a ns) is f more =
        let r = more a ns f in
        let lt = r.few in
        let place : i + 1 + r.e ≡ i + suc r.e = omega arith in
        record {
          e = suc r.e;
          few = omega (arith, lt);
          memory = r.memory;
          names = r.names;
          goes = ap (λ iteration_end. ends.go_on iteration_end i (iterations scope l r.e (i + 1))) is ∙ r.goes;
          breaks = subst (λ at. Breaks (iterate scope l at r.memory r.names)) place r.breaks;
        }
    by (Broke a ns) is f more =
        let place : i + 0 ≡ i = omega arith in
        record {
          e = 0;
          few = omega arith;
          memory = m;
          names = cur;
          goes = refl;
          breaks = subst Breaks (sym (ap (λ at. iterate scope l at m cur) place ∙ is)) tt;
        }
    by (Faulted a) is f more = absurd cc

-- ---- after the break region

-- an iteration that goes on does the rest with what its lane then holds
fate_following : (names : Names) (items rest : List Item) (j : ℕ) (m : Memory) (l new : Lane) → AllQuiet (acts_of names items) → region_way names items j m l ≡ On new → fate names (items ++ rest) j m l ≡ fate names rest j m new
fate_following names [] rest j m l new quiet e = let same : l ≡ new = cc in ap (fate names rest j m) same
fate_following names (it ∷ items) rest j m l new quiet e = by (item_act names it j m l) refl e (λ k f. fate_following names items rest j m k new quiet.1 f)
  where
    by : (f : Effect) → item_act names it j m l ≡ f → way_on (way_of (halted it.op) f) (region_way names items j m) ≡ On new → ((k : Lane) → region_way names items j m k ≡ On new → fate names (items ++ rest) j m k ≡ fate names rest j m new)
        → effect_on (cause_of it.op) f m l (fate names (items ++ rest) j) ≡ fate names rest j m new
    by (Keeps k) is h more = more k h
    by Halts is h more = absurd (halted_goes it.op (region_way names items j m) new h)
    by (Writes a k v) is h more = absurd (quiet.0.never j m l a k v is)

goes_through : (iteration_end : BlockEnd Names) (f : Fate) → SameEnd iteration_end f → Unbroken f → Breaks iteration_end → ⊥
goes_through (Next m ns) f same whole h = h
goes_through (Faulted m) f same whole h = h
goes_through (Broke m ns) (Ended ByBreak a) same whole h = whole
goes_through (Broke m ns) (Ended ByFault a) same whole h = same
goes_through (Broke m ns) (Through a l) same whole h = same

-- so its iteration does not break, where the rest has no break
pub on_unbroken : (names : Names) (items rest : List Item) (j : ℕ) (m : Memory) (l new : Lane) (iteration_end : BlockEnd Names) → AllQuiet (acts_of names items) → list_any is_loop_break rest ≡ false → region_way names items j m l ≡ On new → SameEnd iteration_end (fate names (items ++ rest) j m l) → Breaks iteration_end → ⊥
on_unbroken names items rest j m l new iteration_end quiet whole on same =
    goes_through iteration_end (fate names rest j m new) (subst (SameEnd iteration_end) (fate_following names items rest j m l new quiet on) same) (fate_unbroken names rest j m new whole)

pub left_on : (w : Way) (new : Lane) → lane_left w ≡ Some new → w ≡ On new
left_on (On l) new e = let same : l ≡ new = cc in ap On same
left_on region.Broke new e = absurd cc
left_on Fell new e = absurd cc

-- one that does not go on breaks or faults
pub halts_iteration : (w : Way) (m : Memory) (iteration_end : BlockEnd Names) → lane_left w ≡ None → IsIteration w m iteration_end → Breaks iteration_end ⊎ Faults iteration_end
halts_iteration (On l) m iteration_end e h = absurd cc
halts_iteration region.Broke m (Broke after ns) e h = inl tt
halts_iteration region.Broke m (Next after ns) e h = elim h [ ]
halts_iteration region.Broke m (Faulted after) e h = elim h [ ]
halts_iteration Fell m (Faulted after) e h = inr tt
halts_iteration Fell m (Next after ns) e h = elim h [ ]
halts_iteration Fell m (Broke after ns) e h = elim h [ ]

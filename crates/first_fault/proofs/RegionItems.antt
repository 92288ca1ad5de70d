-- The items of the region done over lanes that all come through.
use Rattle.std.proofs.Common.{◌≡◌, ℕ, ◌+◌, ◌<◌, Bool, true, false, List, [], ◌∷◌, Option, None, refl, sym, ap, ap₂, ◌∙◌, subst, arith}
use Rattle.kernel_meaning.specs.Eval.{Names}
use Rattle.vector_order.specs.Orders.{Lane, Lanes, Effect, Halts, Keeps, Writes, Out, Fine, done, go_on, column, by_item}
use Rattle.loop_form.specs.LoopItems.{Op, Item}
use Rattle.loop_form.specs.LoopItems as ops
use Rattle.vector_order.specs.Operands.{on_mask}
use Rattle.vector_order.specs.Items.{item_act, acts_of}
use Rattle.chunk_emit.specs.Registers.{Layout}
use Rattle.chunk_emit.specs.Chunk.{Setting}
use Rattle.chunk_emit.proofs.ItemLanes.{first_none, lane_out, Own, OwnColumn, own_fine, own_column}
use Rattle.first_fault.specs.Region.{Way, On, halted, way_of, way_on, region_way}
use Rattle.first_fault.specs.Fits.{FitsStep, FitsRegion}
use Rattle.first_fault.specs.BreakRegion.{writes}
use Rattle.first_fault.proofs.BreakRegions.{IsQuiet, op_quiet}

fits_quiet : (l : Layout) (f : Setting) (q : ℕ) (mask : Option ℕ) (op : Op) → FitsStep l f q mask op → writes op ≡ false
fits_quiet l f q mask (ops.Load a base t c) k = refl
fits_quiet l f q mask (ops.Gather a base t r u x) k = absurd k
fits_quiet l f q mask (ops.Unary op t x) k = refl
fits_quiet l f q mask (ops.Binary op t x y) k = refl
fits_quiet l f q mask (ops.Shift left n t x) k = refl
fits_quiet l f q mask (ops.Cast own t x) k = refl
fits_quiet l f q mask (ops.Let t x) k = refl
fits_quiet l f q mask (ops.Select t c x y) k = refl
fits_quiet l f q mask (ops.Store a base t c v) k = absurd k
fits_quiet l f q mask (ops.Update x op t v) k = absurd k
fits_quiet l f q mask other k = refl

-- whether an effect halts, and what it leaves of a lane
abbrev halts : Effect → Bool
halts Halts = true
halts (Keeps l) = false
halts (Writes a k v) = false

abbrev kept : Lane → Effect → Lane
kept l (Keeps m) = m
kept l Halts = l
kept l (Writes a k v) = l

quiet_does : (e : Effect) (j : ℕ) (s : Lanes) → IsQuiet e → done e j s ≡ lane_out (halts e) j (kept (s.lane j) e) s
quiet_does Halts j s q = refl
quiet_does (Keeps l) j s q = refl
quiet_does (Writes a k v) j s q = absurd q

-- an item of which the iteration goes on
record Goes (e : Effect) (l : Lane) (next : Lane → Way) (new : Lane) : Type 0 where
  stays : halts e ≡ false
  rest : next (kept l e) ≡ On new

pub halted_goes : (op : Op) (next : Lane → Way) (new : Lane) → way_on (halted op) next ≡ On new → ⊥
halted_goes (ops.Load a b t c) next new h = cc
halted_goes other next new h = cc

goes : (op : Op) (e : Effect) (l : Lane) (next : Lane → Way) (new : Lane) → way_on (way_of (halted op) e) next ≡ On new → Goes e l next new
goes op (Keeps m) l next new h = record { stays = refl; rest = h }
goes op Halts l next new h = absurd (halted_goes op next new h)
goes op (Writes a k v) l next new h = absurd cc

-- what the items leave
pub record ItemsDone (names : Names) (items : List Item) (i k : ℕ) (t : Lanes) (new : ℕ → Lane) : Type 0 where
  pub lanes : Lanes
  pub by : by_item (acts_of names items) k i t ≡ Fine lanes
  pub memory : lanes.memory ≡ t.memory
  pub here : (e : ℕ) → e < k → lanes.lane (i + e) ≡ new (i + e)

-- the same after the first of them
record After (names : Names) (items : List Item) (i k : ℕ) (t : Lanes) (new : ℕ → Lane) (out : Out) : Type 0 where
  lanes : Lanes
  by : go_on out (by_item (acts_of names items) k i) ≡ Fine lanes
  memory : lanes.memory ≡ t.memory
  here : (e : ℕ) → e < k → lanes.lane (i + e) ≡ new (i + e)

pub region_items : (l : Layout) (f : Setting) (names : Names) (items : List Item) (p i k : ℕ) (t : Lanes) (new : ℕ → Lane) → FitsRegion l f p items → ((e : ℕ) → e < k → region_way names items (i + e) t.memory (t.lane (i + e)) ≡ On (new (i + e))) → ItemsDone names items i k t new
region_items l f names [] p i k t new fits come = record {
  lanes = t;
  by = refl;
  memory = refl;
  here = λ e lt. let here = come e lt in cc;
}
region_items l f names (it ∷ items) p i k t new fits come =
    let after = by column_is (λ u come. region_items l f names items (it.item + 1) i k u new fits.4 come) in
    record { lanes = after.lanes; by = after.by; memory = after.memory; here = after.here }
  where
    each : (e : ℕ) → e < k → Goes (item_act names it (i + e) t.memory (t.lane (i + e))) (t.lane (i + e)) (region_way names items (i + e) t.memory) (new (i + e))
    each e lt = goes it.op (item_act names it (i + e) t.memory (t.lane (i + e))) (t.lane (i + e)) (region_way names items (i + e) t.memory) (new (i + e)) (come e lt)

    own : Own (item_act names it) t.memory (λ j b. halts (item_act names it j t.memory b)) (λ j b. kept b (item_act names it j t.memory b))
    own = record {
      does = λ j s same. quiet_does (item_act names it j s.memory (s.lane j)) j s (op_quiet names it.item j (on_mask it.mask (s.lane j)) s.memory (s.lane j) it.op (fits_quiet l f it.item it.mask it.op fits.3))
          ∙ ap (λ m. lane_out (halts (item_act names it j m (s.lane j))) j (kept (s.lane j) (item_act names it j m (s.lane j))) s) same;
    }

    column_is : OwnColumn (λ j b. kept b (item_act names it j t.memory b)) k i t None (column (item_act names it) k i t)
    column_is = subst (λ o. OwnColumn (λ j b. kept b (item_act names it j t.memory b)) k i t o (column (item_act names it) k i t)) (first_none (λ e. false) k 0 (λ j le lt. refl))
        (own_column (item_act names it) (λ j b. halts (item_act names it j t.memory b)) (λ j b. kept b (item_act names it j t.memory b)) (λ e. false) i k 0 i t (omega arith) own (λ e le lt. sym (each e (omega (arith, lt))).stays))

    by : {out : Out} → OwnColumn (λ j b. kept b (item_act names it j t.memory b)) k i t None out → ((u : Lanes) → ((e : ℕ) → e < k → region_way names items (i + e) u.memory (u.lane (i + e)) ≡ On (new (i + e))) → ItemsDone names items i k u new)
        → After names items i k t new out
    by (own_fine u mem here before past) more =
        let rest = more u (λ e lt. ap₂ (region_way names items (i + e)) mem (here e lt) ∙ (each e lt).rest) in
        record { lanes = rest.lanes; by = rest.by; memory = rest.memory ∙ mem; here = rest.here }

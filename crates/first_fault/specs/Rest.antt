-- From the break region to the rest of the body.
use Rattle.std.specs.Prelude.{◌≡◌, ℕ, ◌+◌, ◌<◌, ◌≤◌, true, List, [], length}
use Rattle.guest_types.specs.declared.length.Width.{Width}
use Rattle.guest_types.specs.EarlyLoads.{StopList}
use Rattle.guest_types.specs.Memory.{Memory}
use Rattle.kernel_meaning.specs.Eval.{Names}
use Rattle.machine_model.specs.Machine.{State}
use Rattle.vector_order.specs.Orders.{Lane, Lanes, Fine, by_item}
use Rattle.vector_order.specs.Regions.{run_lane}
use Rattle.loop_form.specs.LoopItems.{Item}
use Rattle.close_bound.specs.CloseBound.{items_steps}
use Rattle.vector_order.specs.Items.{acts_of}
use Rattle.chunk_emit.specs.Registers.{Layout}
use Rattle.chunk_emit.specs.Chunk.{Setting, Holds}
use Rattle.chunk_emit.specs.Fits.{Assigned}
use Rattle.first_fault.specs.Region.{On, lane_left, region_way}
use Rattle.first_fault.specs.RegionCode.{Mode, exits_words, single_words}
use Rattle.first_fault.specs.Fits.{FitsRegion}
use Rattle.first_fault.specs.Prefix.{Inside}

-- How an iteration fares is what its items do in its lane: it goes on with what they leave there, and else one of them halts.
abbrev pub WayIsRun : Type 0
WayIsRun = (names : Names) (items : List Item) (j : ℕ) (m : Memory) (l : Lane) → lane_left (region_way names items j m l) ≡ run_lane (acts_of names items) j m l

-- the chunk that the rest of the body goes over: the lanes that came through, with the stop list as it is counted from there
abbrev pub come_through : Setting → ℕ → StopList → Setting
come_through f k stops = record f { n = k; stops = stops }

-- no condition that was made before item q is used from there on
abbrev pub NoTruthLive : Layout → ℕ → Type 0
NoTruthLive l q = (r : ℕ) → r < q → l.p_last_use r < q

-- What the region's items leave of the lanes that came through, done one after another over these lanes; and the state after
-- the region holds it.
pub record RestStarts (l : Layout) (f : Setting) (items : List Item) (t : Lanes) (k q : ℕ) (end : State) : Type 0 where
  pub lanes : Lanes
  pub done : by_item (acts_of f.names items) k f.i t ≡ Fine lanes
  pub memory : lanes.memory ≡ t.memory
  pub holds : Holds l (come_through f k end.stops) q lanes end

-- After the region, where no condition of it is used there and the lanes had given nothing to accumulators before.
abbrev pub RestHolds : Type 0
RestHolds =
    (mode : Mode) (l : Layout) (f : Setting) (items : List Item) (p k q : ℕ) (t : Lanes) (s end : State) (new : ℕ → Lane) → Assigned l → FitsRegion l f p items → Holds l f p t s → ((e : ℕ) → e < f.n → (t.lane (f.i + e)).shares ≡ [])
    → ((e : ℕ) → e < k → region_way f.names items (f.i + e) t.memory (t.lane (f.i + e)) ≡ On (new (f.i + e))) → Inside mode l f s k q new end → NoTruthLive l q → RestStarts l f items t k q end

-- The region has no more words than its items may take steps, and one over a chunk.
pub record FewWords (w : Width) (l : Layout) (items : List Item) : Type 0 where
  pub exits : length (exits_words w l items) ≤ 1 + items_steps true items
  pub single : length (single_words w l items) ≤ items_steps true items

abbrev pub AlwaysFew : Type 0
AlwaysFew = (w : Width) (l : Layout) (items : List Item) → FewWords w l items

-- The law of the break region: a prefix of the lanes comes through, and the first lane left out breaks, faults, or a free
-- element of it was suppressed; only a fault of the first lane stops.
use Rattle.std.specs.Prelude.{◌≡◌, ℕ, ◌+◌, ◌<◌, ◌≤◌, List, length}
use Rattle.guest_types.specs.declared.length.Width.{Width}
use Rattle.machine_model.specs.declared.outcome.StopKind.TheVariants.{Read}
use Rattle.machine_model.specs.Machine.{State}
use Rattle.label_fix.specs.DraftRun.{DraftEntry, Laid}
use Rattle.vector_order.specs.Orders.{Lane, Lanes}
use Rattle.loop_form.specs.LoopItems.{Item}
use Rattle.chunk_emit.specs.Registers.{Layout}
use Rattle.chunk_emit.specs.ChunkCode.{puts}
use Rattle.chunk_emit.specs.Chunk.{Setting, Holds}
use Rattle.chunk_emit.specs.Fits.{Assigned, following_items}
use Rattle.chunk_emit.specs.StopPlaces.{OneComesTo, StopsAt}
use Rattle.first_fault.specs.Region.{Way, On, Broke, Fell, region_way}
use Rattle.first_fault.specs.RegionCode.{Mode, Early, Single, exits_words, single_words}
use Rattle.first_fault.specs.Fits.{FitsRegion}
use Rattle.label_fix.specs.Stretches.{Leads}
use Rattle.first_fault.specs.Prefix.{Inside}
use Rattle.first_fault.specs.SuppressedLanes.{SuppressedOn}

-- Why a stretch leaves out a lane of this width that fares in this way: it breaks; or, where loads may stop early, it faults, or a
-- free element of that lane was suppressed by a load of the stretch.
pub data Why (mode : Mode) (w : Width) (way : Way) {d : Laid} {c e : List DraftEntry} {s t : State} {most : ℕ} (leads : Leads d c s e t most) (lane : ℕ) : Type 0 where
  by_break : way ≡ Broke → Why mode w way leads lane
  by_fault : mode ≡ Early → way ≡ Fell → Why mode w way leads lane
  by_stop : mode ≡ Early → 0 < leads.cut → SuppressedOn w leads lane → Why mode w way leads lane

-- What a stretch of code does over the first n lanes, where `way` is how a lane fares: it stops, where the first lane faults, at
-- an address of which `near` holds;
-- else the first k of them come through, and there is a reason where lane k does not.
pub data RegionOutcome (mode : Mode) (l : Layout) (f : Setting) (d : Laid) (a : State) (n q most : ℕ) (ls : ℕ → Lane) (code : List DraftEntry) (s : State) (rest : List DraftEntry) (way : ℕ → Lane → Way) (near : ℕ → Type 0) : Type 0 where
  stops : 0 < n → way f.i (ls f.i) ≡ Fell → StopsAt d code s Read a.memory most near → RegionOutcome mode l f d a n q most ls code s rest way near
  comes : (k : ℕ) (new : ℕ → Lane) (end : State) → k ≤ n → ((e : ℕ) → e < k → way (f.i + e) (ls (f.i + e)) ≡ On (new (f.i + e))) → (leads : Leads d code s rest end most) → (k < n → Why mode f.w (way (f.i + k) (ls (f.i + k))) leads k) → Inside mode l f a k q new end
      → RegionOutcome mode l f d a n q most ls code s rest way near

-- The region over a chunk, from a state that holds its lanes. It stops at a byte that the first iteration reads.
abbrev pub ExitsRun : Type 0
ExitsRun =
    (l : Layout) (f : Setting) (d : Laid) (rest : List DraftEntry) (items : List Item) (p : ℕ) (t : Lanes) (s : State) → Assigned l → FitsRegion l f p items → Holds l f p t s
    → RegionOutcome Early l f d s f.n (following_items p items) (length (exits_words f.w l items)) t.lane (puts (exits_words f.w l items) rest) s rest (λ j. region_way f.names items j t.memory) (OneComesTo f.names items Read f.i)

-- The region over one lane.
abbrev pub SingleRuns : Type 0
SingleRuns =
    (l : Layout) (f : Setting) (d : Laid) (rest : List DraftEntry) (items : List Item) (p : ℕ) (t : Lanes) (s : State) → Assigned l → FitsRegion l f p items → Holds l f p t s → f.n ≤ 1
    → RegionOutcome Single l f d s f.n (following_items p items) (length (single_words f.w l items)) t.lane (puts (single_words f.w l items) rest) s rest (λ j. region_way f.names items j t.memory) (OneComesTo f.names items Read f.i)

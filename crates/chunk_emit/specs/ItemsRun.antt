-- The law that the code of items does what the items do over the lanes of a chunk.
use Rattle.std.specs.Prelude.{ℕ, ◌≤◌, false, List, length}
use Rattle.guest_types.specs.declared.length.Width.{Width}
use Rattle.guest_types.specs.Memory.{Memory}
use Rattle.machine_model.specs.declared.outcome.StopKind.{StopKind}
use Rattle.machine_model.specs.Machine.{State}
use Rattle.machine_model.specs.Run.{IsAccess}
use Rattle.label_fix.specs.DraftRun.{DraftEntry, Laid}
use Rattle.label_fix.specs.Stretches.{Goes}
use Rattle.vector_order.specs.Orders.{Lanes, Out, Fine, Fail, by_item}
use Rattle.loop_form.specs.LoopItems.{Item}
use Rattle.vector_order.specs.Items.{acts_of}
use Rattle.close_bound.specs.CloseBound.{items_steps}
use Rattle.chunk_emit.specs.Registers.{Layout}
use Rattle.chunk_emit.specs.ChunkCode.{items_words, puts}
use Rattle.chunk_emit.specs.Chunk.{Setting, Holds}
use Rattle.chunk_emit.specs.Fits.{Assigned, FitsItems, following_items}
use Rattle.chunk_emit.specs.StopPlaces.{StopsAt, SomeComesTo}

-- From entries c and a state, at most so many words: where the lanes end well, they lead to `rest` and to a state that holds
-- them; where an access of a lane faults, to a stop with the memory that it left, at an address of which `near` holds.
pub data Does (l : Layout) (f : Setting) (d : Laid) (c : List DraftEntry) (s : State) (rest : List DraftEntry) (p most : ℕ) (near : StopKind → ℕ → Type 0) : Out → Type 0 where
  does_fine : {t : Lanes} (end : State) → Goes d c s rest end most → Holds l f p t end → Does l f d c s rest p most near (Fine t)
  does_fail : {m : Memory} (kind : StopKind) → IsAccess kind → StopsAt d c s kind m most (near kind) → Does l f d c s rest p most near (Fail m)

-- The code of items without a break, from a state that holds the lanes, does what the items do one after another over the
-- lanes, in at most as many steps as it has words. It stops at a byte that one of these iterations comes to by one of the items.
abbrev pub ItemsRun : Type 0
ItemsRun =
    (l : Layout) (f : Setting) (d : Laid) (rest : List DraftEntry) (items : List Item) (p : ℕ) (t : Lanes) (s : State) → Assigned l → FitsItems l f p items → Holds l f p t s
    → Does l f d (puts (items_words f.w l items) rest) s rest (following_items p items) (length (items_words f.w l items)) (SomeComesTo f.names items f.i f.n) (by_item (acts_of f.names items) f.n f.i t)

-- Items have no more words than they may take steps.
abbrev pub FewWords : Type 0
FewWords = (w : Width) (l : Layout) (items : List Item) → length (items_words w l items) ≤ items_steps false items

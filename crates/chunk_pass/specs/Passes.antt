-- What a pass of the loop of chunks does: what the scalar loop does in the iterations of the lanes that come through.
use Rattle.std.specs.Prelude.{◌≡◌, ℕ, ◌+◌, ◌-◌, ◌<◌, ◌≤◌, ◌^◌, ℤ, true, false, List, length, min}
use Rattle.std.specs.List.{list_any}
use Rattle.guest_types.specs.Memory.{Memory, byte_at}
use Rattle.kernel_tree.specs.Typing.{var_scope}
use Rattle.kernel_meaning.specs.Ends.{BlockEnd, Going, Failed}
use Rattle.kernel_meaning.specs.Eval.{Names}
use Rattle.kernel_meaning.specs.Iterate.{iterate}
use Rattle.kernel_meaning.specs.ScalarRun.{iterations}
use Rattle.machine_model.specs.declared.outcome.StopKind.{StopKind}
use Rattle.machine_model.specs.Machine.{State, p_at}
use Rattle.machine_model.specs.Run.{IsAccess}
use Rattle.label_fix.specs.DraftRun.{DraftEntry, Laid}
use Rattle.label_fix.specs.Stretches.{Leads}
use Rattle.label_fix.specs.Registers.{lanes_left}
use Rattle.dependence.specs.Apart.{bound_place}
use Rattle.vector_order.specs.Elsewhere.{Elsewhere}
use Rattle.chunk_emit.specs.ChunkCode.{puts}
use Rattle.chunk_emit.specs.Chunk.{IsTop}
use Rattle.chunk_emit.specs.StopPlaces.{SomeComesTo, StopsAt}
use Rattle.chunk_emit.specs.Head.{Ground, IsGround, AtHead, IndexHeld, layout, width, most_lanes, limit}
use Rattle.first_fault.specs.BreakRegion.{is_loop_break}
use Rattle.first_fault.specs.SuppressedLanes.{SuppressedOn}
use Rattle.chunk_pass.specs.Halts.{Breaks, Faults}
use Rattle.chunk_pass.specs.Chunks.{items_of}
use Rattle.chunk_pass.specs.PassCode.{chunk_words, iteration_words, plain_words}

-- how many lanes the chunk at iteration i has
abbrev pub lanes_at : Ground → ℕ → ℕ
lanes_at g i = min (most_lanes g) (limit g - i)

-- Why the scalar loop's next iteration was left out of a chunk: it breaks or faults, or a free element was suppressed, of which
-- `here` says that it is one of its own lane; `cut` such elements were suppressed in all.
pub data LeftOut (iteration_end : BlockEnd Names) (cut : ℕ) (here : Type 0) : Type 0 where
  breaks : Breaks iteration_end → LeftOut iteration_end cut here
  faults : Faults iteration_end → LeftOut iteration_end cut here
  suppressed : 0 < cut → here → LeftOut iteration_end cut here

-- A pass over the n lanes from iteration i on, from a state before it. Some lanes come through, and as many iterations of the
-- scalar loop leave the same; `why` is the reason where a lane is left out. Or the code stops, where the scalar loop faults in
-- one of these iterations, at a byte of an element that one of them comes to; then no byte differs but those of elements that these
-- iterations store.
pub data Passes (why : BlockEnd Names → (cut : ℕ) → (here : Type 0) → Type 0) (g : Ground) (n i : ℕ) (cur : Names) (m : Memory) (d : Laid) (code : List DraftEntry) (s : State) (rest : List DraftEntry) (most : ℕ) : Type 0 where
  comes : (k : ℕ) (now : Memory) (names : Names) (sum : List ℕ → ℕ → ℤ) (end : State) → k ≤ n → iterations (var_scope g.kernel) g.for_loop k i m cur ≡ Going now names → (leads : Leads d code s rest end most)
      → (k < n → why (iterate (var_scope g.kernel) g.for_loop (i + k) now names) leads.cut (SuppressedOn (width g) leads k)) → AtHead g (i + k) names now sum end → IsTop (width g) k (p_at end lanes_left) → IndexHeld g i end
      → Passes why g n i cur m d code s rest most
  stops : (k j : ℕ) (left faulted : Memory) (kind : StopKind) → k ≤ n → iterations (var_scope g.kernel) g.for_loop k i m cur ≡ Failed faulted j → i ≤ j → j < i + k → IsAccess kind
      → ((z : ℕ) → z < 2 ^ 64 → Elsewhere g.kernel g.args i k z → byte_at left z ≡ byte_at faulted z) → StopsAt d code s kind left most (SomeComesTo g.names (items_of g) i k kind)
      → Passes why g n i cur m d code s rest most

-- A chunk of a loop with a break.
abbrev pub ChunkPasses : Type 0
ChunkPasses =
    (g : Ground) (d : Laid) (rest : List DraftEntry) (i : ℕ) (cur : Names) (m : Memory) (sum : List ℕ → ℕ → ℤ) (s : State) → IsGround g → list_any is_loop_break (items_of g) ≡ true → AtHead g i cur m sum s
    → Passes LeftOut g (lanes_at g i) i cur m d (puts (chunk_words (width g) (layout g) (bound_place g.kernel) (items_of g)) rest) s rest (length (chunk_words (width g) (layout g) (bound_place g.kernel) (items_of g)))

-- One iteration of such a loop, which is to begin, after a chunk of which no lane came through.
abbrev pub IterationPasses : Type 0
IterationPasses =
    (g : Ground) (d : Laid) (rest : List DraftEntry) (i : ℕ) (cur : Names) (m : Memory) (sum : List ℕ → ℕ → ℤ) (s : State) → IsGround g → list_any is_loop_break (items_of g) ≡ true → AtHead g i cur m sum s → IndexHeld g i s → i < limit g
    → Passes (λ iteration_end cut here. Breaks iteration_end) g 1 i cur m d (puts (iteration_words (width g) (layout g) (items_of g)) rest) s rest (length (iteration_words (width g) (layout g) (items_of g)))

-- A chunk of a loop without a break, of which some lane is to be done, with its lanes in P0: all of them come through.
abbrev pub PlainPasses : Type 0
PlainPasses =
    (g : Ground) (d : Laid) (rest : List DraftEntry) (i : ℕ) (cur : Names) (m : Memory) (sum : List ℕ → ℕ → ℤ) (s : State) → IsGround g → list_any is_loop_break (items_of g) ≡ false → AtHead g i cur m sum s → i < limit g → IsTop (width g) (lanes_at g i) (p_at s lanes_left)
    → Passes (λ iteration_end cut here. ⊥) g (lanes_at g i) i cur m d (puts (plain_words (width g) (layout g) (items_of g)) rest) s rest (length (plain_words (width g) (layout g) (items_of g)))

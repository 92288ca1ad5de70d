-- The lanes of a chunk, and the iterations of the scalar loop of which they are.
use Rattle.std.specs.Prelude.{◌≡◌, ◌⊎◌, ℕ, ◌+◌, ◌<◌, ◌≤◌, ◌^◌, ℤ, true, List, None}
use Rattle.guest_types.specs.Memory.{Memory, byte_at}
use Rattle.kernel_tree.specs.Typing.{var_scope}
use Rattle.kernel_meaning.specs.Ends.{Going, Failed}
use Rattle.kernel_meaning.specs.Eval.{Names}
use Rattle.kernel_meaning.specs.Iterate.{iterate}
use Rattle.kernel_meaning.specs.ScalarRun.{iterations}
use Rattle.loop_form.specs.LoopItems.{Item, loop_items}
use Rattle.vector_order.specs.Elsewhere.{Elsewhere}
use Rattle.vector_order.specs.Orders.{Lane, Lanes, Fine, Fail, by_item}
use Rattle.vector_order.specs.Items.{acts_of}
use Rattle.vector_order.specs.Order.{Fresh}
use Rattle.lane_emit.specs.Folds.{AreOf, given_to, ShareAlike}
use Rattle.chunk_emit.specs.Chunk.{Setting, sum_at}
use Rattle.chunk_emit.specs.Head.{Ground, IsGround, Between, layout, width, most_lanes, limit}
use Rattle.first_fault.specs.Region.{On, lane_left, region_way}
use Rattle.first_fault.specs.BreakRegion.{region_of}
use Rattle.chunk_pass.specs.Halts.{Breaks, Faults}

abbrev pub items_of : Ground → List Item
items_of g = loop_items g.kernel g.for_loop

-- the setting of a chunk of k lanes from iteration i on
pub record IsSetting (g : Ground) (i k : ℕ) (taken : List ℕ → ℕ → ℤ) (f : Setting) : Type 0 where
  pub width : f.w ≡ width g
  pub names : f.names ≡ g.names
  pub from : f.i ≡ i
  pub count : f.n ≡ k
  pub vl : f.vl ≡ g.vl
  pub sum : (x : List ℕ) (e : ℕ) → f.sum x e ≡ taken x e

-- k lanes that the chunk at iteration i may have, before which nothing was given to accumulators
pub record IsChunk (g : Ground) (i k : ℕ) (t : Lanes) : Type 0 where
  pub few : k ≤ most_lanes g
  pub within : i + k ≤ limit g
  pub fresh : Fresh i k t

-- what lanes gave to the accumulators that the loop updates is for their operators, and of their types
abbrev pub GivenRight : Ground → (i k : ℕ) → Lanes → Type 0
GivenRight g i k out =
    (x : List ℕ) → (layout g).updated x ≡ true → (e : ℕ) → e < k
    → ShareAlike x ((layout g).update x) ((layout g).sum_type x) (out.lane (i + e)).shares × AreOf ((layout g).sum_type x) (given_to x (out.lane (i + e)).shares)

-- the scalar loop has done the iterations of the lanes, with the same memory
pub record Done (g : Ground) (f : Setting) (i k : ℕ) (cur : Names) (m : Memory) (out : Lanes) : Type 0 where
  pub names : Names
  pub goes : iterations (var_scope g.kernel) g.for_loop k i m cur ≡ Going out.memory names
  pub between : Between g (i + k) names (sum_at (layout g) f out)

-- Lanes that end well.
abbrev pub FineIsDone : Type 0
FineIsDone =
    (g : Ground) (f : Setting) (i k : ℕ) (cur : Names) (sum : List ℕ → ℕ → ℤ) (t out : Lanes) → IsGround g → Between g i cur sum → IsSetting g i k sum f → IsChunk g i k t
    → by_item (acts_of g.names (items_of g)) k i t ≡ Fine out → GivenRight g i k out → Done g f i k cur t.memory out

-- the scalar loop faults in an iteration of the lanes
pub record Failing (g : Ground) (i k : ℕ) (cur : Names) (m left : Memory) : Type 0 where
  pub j : ℕ
  pub faulted : Memory
  pub fails : iterations (var_scope g.kernel) g.for_loop k i m cur ≡ Failed faulted j
  pub from : i ≤ j
  pub until : j < i + k
  pub kept : (z : ℕ) → z < 2 ^ 64 → Elsewhere g.kernel g.args i k z → byte_at left z ≡ byte_at faulted z

-- every lane goes on after the break region
abbrev pub AllOn : Ground → (i k : ℕ) → Lanes → Type 0
AllOn g i k t = (e : ℕ) → e < k → (new : Lane) × (region_way g.names (region_of (items_of g)) (i + e) t.memory (t.lane (i + e)) ≡ On new)

-- Lanes that come through the break region, and then fail.
abbrev pub FailIsFault : Type 0
FailIsFault =
    (g : Ground) (i k : ℕ) (cur : Names) (sum : List ℕ → ℕ → ℤ) (t : Lanes) (left : Memory) → IsGround g → Between g i cur sum → IsChunk g i k t → AllOn g i k t
    → by_item (acts_of g.names (items_of g)) k i t ≡ Fail left → Failing g i k cur t.memory left

-- After k lanes that end well, a lane that breaks or faults on the chunk's first memory does so in its iteration.
abbrev pub NextHalts : Type 0
NextHalts =
    (g : Ground) (i k : ℕ) (cur names : Names) (sum : List ℕ → ℕ → ℤ) (t out : Lanes) → IsGround g → Between g i cur sum → IsChunk g i k t → k < most_lanes g → i + k < limit g
    → by_item (acts_of g.names (items_of g)) k i t ≡ Fine out → iterations (var_scope g.kernel) g.for_loop k i t.memory cur ≡ Going out.memory names
    → lane_left (region_way g.names (region_of (items_of g)) (i + k) t.memory (t.lane (i + k))) ≡ None
    → Breaks (iterate (var_scope g.kernel) g.for_loop (i + k) out.memory names) ⊎ Faults (iterate (var_scope g.kernel) g.for_loop (i + k) out.memory names)

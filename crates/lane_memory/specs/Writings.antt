-- A store as the code takes it: the widths, and where its elements stand.
use Rattle.std.specs.Prelude.{◌≡◌, ℕ, ◌+◌, ◌*◌, ◌<◌, List, length, cond}
use lib.Lanes.{chunk}
use Rattle.guest_types.specs.Length.{width_bytes}
use Rattle.guest_types.specs.declared.length.Width.{Width}
use Rattle.guest_types.specs.Memory.{Memory}
use Rattle.guest_types.specs.Spans.{span_of, with_span}
use Rattle.guest_types.specs.Lanes.{select_at}
use Rattle.guest_types.specs.Elements.{at, active, bytes_of}
use Rattle.guest_types.specs.LaneMemory.{StoredLanes, lane_address, store_lanes}
use Rattle.lane_memory.specs.declared.writing.Writing.{Writing}

-- the address of an element
abbrev pub target_of : Writing → ℕ → ℕ
target_of w e = lane_address w.base w.index (width_bytes w.memory) e

-- what a store of the active of `left` elements from e on leaves
abbrev pub stored_of : Writing → (pg z : List ℕ) → (left e : ℕ) → Memory → StoredLanes
stored_of w pg z left e memory = store_lanes (active w.element pg) (target_of w) (at w.element z) (width_bytes w.memory) left e memory

-- so many bytes of an element where it is active, and else what stood there
abbrev pub written_at : Writing → (pg z old : List ℕ) → (from i : ℕ) → List ℕ
written_at w pg z old from i =
    let k = width_bytes w.memory in
    cond (active w.element pg (from + i)) (bytes_of k (at w.element z (from + i))) (chunk (k * i) k old)

-- a part of memory in which the active of n elements from a place on were written
pub record IsWritten (w : Writing) (pg z : List ℕ) (from n : ℕ) (old new : List ℕ) : Type 0 where
  pub long : length new ≡ length old
  pub written : (i : ℕ) → i < n → chunk (width_bytes w.memory * i) (width_bytes w.memory) new ≡ written_at w pg z old from i

-- the memory after that part of a page was written
pub record IsSpanWritten (w : Writing) (pg z : List ℕ) (from n : ℕ) (old new : Memory) : Type 0 where
  pub bytes : List ℕ
  pub part : IsWritten w pg z from n (span_of old (target_of w from) (width_bytes w.memory * n)) bytes
  pub memory : new ≡ with_span old (target_of w from) bytes

-- the active elements of the first blocks in place of others
pub record IsMerged (w : Width) (pg z : List ℕ) (blocks : ℕ) (old new : List ℕ) : Type 0 where
  pub long : length new ≡ 256
  pub chosen : (e : ℕ) → width_bytes w * e < 32 * blocks → chunk (width_bytes w * e) (width_bytes w) new ≡ bytes_of (width_bytes w) (select_at w pg z old e)

-- What the registers hold in the break region, of the lanes that have come so far.
use Rattle.std.specs.Prelude.{◌≡◌, ◌≢◌, ℕ, ◌<◌, ◌≤◌, true, List}
use Rattle.guest_types.specs.Memory.{Memory}
use Rattle.guest_types.specs.Elements.{active}
use Rattle.machine_model.specs.Machine.{State, x_at, z_at, p_at}
use Rattle.machine_model.specs.States.{IsState}
use Rattle.label_fix.specs.Registers.{all_true, lanes_left, scratch}
use Rattle.vector_order.specs.Orders.{Lane, Lanes}
use Rattle.loop_form.specs.declared.loop_item.Operand.{Operand}
use Rattle.lane_emit.specs.Right.{PRight}
use Rattle.lane_emit.specs.ItemCode.{truth_of}
use Rattle.chunk_emit.specs.Registers.{Layout, p_of}
use Rattle.chunk_emit.specs.Chunk.{Setting, chunk_of, ValueRight}
pub use Rattle.chunk_emit.specs.Chunk.{IsTop}
use Rattle.first_fault.specs.RegionCode.{Mode, Early, Single}

-- the chunk with fewer lanes
abbrev pub with_count : Setting → ℕ → Setting
with_count f n = record f { n = n }

abbrev pub lanes_of : Memory → (ℕ → Lane) → Lanes
lanes_of m ls = record { memory = m; lane = ls }

-- What the region leaves as it was: memory, all general registers but X26, P1, the vector length, and the vector registers of
-- values from before the loop and of accumulators.
pub record Same (l : Layout) (a s : State) : Type 0 where
  pub memory : s.memory ≡ a.memory
  pub vl : s.vl ≡ a.vl
  pub x : (r : ℕ) → r ≢ scratch → x_at s r ≡ x_at a r
  pub all : p_at s all_true ≡ p_at a all_true
  pub held : (x : Operand) → l.held x ≡ true → z_at s (l.registers.source x) ≡ z_at a (l.registers.source x)
  pub sums : (x : List ℕ) → l.updated x ≡ true → z_at s (l.sum x) ≡ z_at a (l.sum x)

-- Before item p, in a region that began in state a: the first n lanes have come, and what they hold is right in the registers.
-- A condition is right in these lanes alone.
pub record Inside (mode : Mode) (l : Layout) (f : Setting) (a : State) (n p : ℕ) (ls : ℕ → Lane) (s : State) : Type 0 where
  pub is : IsState s
  pub few : n ≤ f.n
  pub alone : mode ≡ Single → n ≤ 1
  pub same : Same l a s
  pub top : IsTop f.w n (p_at s lanes_left)
  pub ffr : mode ≡ Early → (e : ℕ) → e < n → active f.w s.ffr e ≡ true
  pub values : (q : ℕ) → q < p → p ≤ l.z_last_use q → ValueRight l (with_count f n) (lanes_of a.memory ls) s q
  pub truths : (q : ℕ) → q < p → p ≤ l.p_last_use q → PRight f.w n (p_at s (p_of l q)) (truth_of (chunk_of f (lanes_of a.memory ls)) q)

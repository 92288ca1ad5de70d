-- What the registers hold of the lanes of a chunk, between two of its items.
use Rattle.std.specs.Prelude.{◌≡◌, ◌≢◌, ℕ, ◌+◌, ◌*◌, ◌%◌, ◌<◌, ◌≤◌, ℤ, Bool, true, ◌&&◌, List, nat_eq, nat_lt, slice_index, if◌then◌else◌}
use Rattle.guest_types.specs.declared.length.Width.{Width}
use Rattle.guest_types.specs.Length.{width_bytes, lanes}
use Rattle.guest_types.specs.Elements.{bit}
use Rattle.guest_types.specs.Lanes.{all_at}
use Rattle.guest_types.specs.EarlyLoads.{StopList}
use Rattle.kernel_meaning.specs.Eval.{Names}
use Rattle.machine_model.specs.Machine.{State, x_at, z_at, p_at}
use Rattle.machine_model.specs.States.{IsState}
use Rattle.label_fix.specs.Registers.{all_true, iteration, lanes_left, scratch}
use Rattle.vector_order.specs.Orders.{Lane, Lanes}
use Rattle.loop_form.specs.declared.loop_item.Operand.{Operand}
use Rattle.loop_form.specs.declared.loop_item.Operand.TheVariants.{Made}
use Rattle.vector_order.specs.Operands.{operand_value}
use Rattle.lane_emit.specs.Right.{IsOf, ZRight, PRight, within}
use Rattle.lane_emit.specs.ItemCode.{Chunk, AllOf, operand, truth_of}
use Rattle.lane_emit.specs.Folds.{after_all, AreOf, given_to, ShareAlike}
use Rattle.lane_emit.specs.AccumulatorLanes.{LanesHold}
use Rattle.chunk_emit.specs.Registers.{Layout, z_of, p_of}

-- ---- a chunk

-- What stays while the items of a chunk are done: the width of the lanes, the names from before the loop, the iteration of the
-- first lane, the number of lanes, the vector length and the stop list; and what the general registers hold as the chunk begins,
-- and by accumulator what each element of its register has taken in before.
pub record Setting : Type 0 where
  pub w : Width
  pub names : Names
  pub i : ℕ
  pub n : ℕ
  pub vl : ℕ
  pub stops : StopList
  pub x : List ℕ
  pub sum : List ℕ → ℕ → ℤ

-- the chunk with what its lanes hold now
abbrev pub chunk_of : Setting → Lanes → Chunk
chunk_of f t = record { w = f.w; names = f.names; i = f.i; n = f.n; lanes = t }

-- how many elements a register has
abbrev pub count_of : Setting → ℕ
count_of f = lanes f.vl f.w

-- a value from before the loop: right in all elements, and of its type in the lanes of the chunk
pub record HeldRight (l : Layout) (f : Setting) (s : State) (x : Operand) : Type 0 where
  pub right : (a : Lane) → ZRight f.w (count_of f) (z_at s (l.registers.source x)) (λ e. operand_value f.names (f.i + e) a x)
  pub typed : (a : Lane) → AllOf (l.type x) f.n (λ e. operand_value f.names (f.i + e) a x)

-- the value of an item: right in the lanes of the chunk, and of its type
pub record ValueRight (l : Layout) (f : Setting) (t : Lanes) (s : State) (q : ℕ) : Type 0 where
  pub right : ZRight f.w f.n (z_at s (z_of l q)) (operand (chunk_of f t) (Made q))
  pub typed : AllOf (l.type (Made q)) f.n (operand (chunk_of f t) (Made q))

-- a truth is exact in the lanes of the chunk, and false in all other elements
abbrev pub TruthExact : Setting → List ℕ → (ℕ → Bool) → Type 0
TruthExact f p truth = PRight f.w (count_of f) p (within f.n truth)

-- a predicate of which exactly the first n elements are true: each bit of it, as BRKB, RDFFR and PTEST look at bytes
abbrev pub IsTop : Width → ℕ → List ℕ → Type 0
IsTop w n p = (j : ℕ) → j < 256 → bit p j ≡ (nat_eq (j % width_bytes w) 0 && nat_lt j (width_bytes w * n))

-- what element e of the register of an accumulator has taken in: that of before the chunk, and then what its lane gave
abbrev pub sum_at : Layout → Setting → Lanes → List ℕ → ℕ → ℤ
sum_at l f t x e =
    if nat_lt e f.n then after_all (l.update x) (l.sum_type x) (f.sum x e) (given_to x (t.lane (f.i + e)).shares) else f.sum x e

-- The register of an accumulator: its elements hold what they have taken in, and what the lanes gave was of its type and for
-- its operator.
pub record SumRight (l : Layout) (f : Setting) (t : Lanes) (x : List ℕ) (z : List ℕ) : Type 0 where
  pub before : (e : ℕ) → e < count_of f → IsOf (l.sum_type x) (f.sum x e)
  pub alike : (e : ℕ) → e < f.n → ShareAlike x (l.update x) (l.sum_type x) (t.lane (f.i + e)).shares
  pub typed : (e : ℕ) → e < f.n → AreOf (l.sum_type x) (given_to x (t.lane (f.i + e)).shares)
  pub holds : LanesHold (l.update x) (l.sum_type x) f.w (count_of f) z (sum_at l f t x)

-- The state before the items from p on, where t is the memory and the lanes: values and conditions that were made and are
-- still needed are right, and so are the values from before the loop. P1 is all true. X26 alone may have changed.
pub record Holds (l : Layout) (f : Setting) (p : ℕ) (t : Lanes) (s : State) : Type 0 where
  pub is : IsState s
  pub few : f.n ≤ count_of f
  pub vl : s.vl ≡ f.vl
  pub stops : s.stops ≡ f.stops
  pub memory : s.memory ≡ t.memory
  pub x : (r : ℕ) → r ≢ scratch → x_at s r ≡ slice_index f.x r
  pub index : slice_index f.x iteration ≡ f.i
  pub active : TruthExact f (p_at s lanes_left) all_at
  pub top : IsTop f.w f.n (p_at s lanes_left)
  pub all : PRight f.w (count_of f) (p_at s all_true) all_at
  pub held : (x : Operand) → l.held x ≡ true → HeldRight l f s x
  pub values : (q : ℕ) → q < p → p ≤ l.z_last_use q → ValueRight l f t s q
  pub truths : (q : ℕ) → q < p → p ≤ l.p_last_use q → TruthExact f (p_at s (p_of l q)) (truth_of (chunk_of f t) q)
  pub sums : (x : List ℕ) → l.updated x ≡ true → SumRight l f t x (z_at s (l.sum x))

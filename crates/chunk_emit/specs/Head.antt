-- The state before a pass of the loop of chunks: i iterations are done, and the registers hold what they left.
use Rattle.std.specs.Prelude.{◌≡◌, ◌≢◌, ℕ, ◌+◌, ◌<◌, ◌≤◌, ℤ, pos, true, false, List, Some, None, length, slice_index}
use Rattle.guest_types.specs.declared.length.Width.{Width}
use Rattle.guest_types.specs.Length.{IsLength, lanes}
use Rattle.guest_types.specs.Lanes.{all_at}
use Rattle.guest_types.specs.Memory.{Memory}
use Rattle.kernel_tree.specs.Plain.{PlainLoop, Program}
use Rattle.kernel_tree.specs.Grammar.{IsTree}
use Rattle.kernel_tree.specs.Typing.{check_fault}
use Rattle.kernel_meaning.specs.Operators.{word}
use Rattle.kernel_meaning.specs.Eval.{Names, value_at}
use Rattle.kernel_meaning.specs.ScalarRun.{started, bound_of}
use Rattle.machine_model.specs.Machine.{State, x_at, z_at, p_at}
use Rattle.machine_model.specs.States.{IsState}
use Rattle.label_fix.specs.Registers.{all_true, iteration}
use Rattle.reg_assign.specs.declared.interval.RegClass.TheVariants.{Z, P}
use Rattle.reg_assign.specs.Registers.{Assignment}
use Rattle.loop_form.specs.declared.loop_item.Operand.{Operand}
use Rattle.loop_form.specs.declared.loop_item.Operand.TheVariants.{LoopIndex}
use Rattle.loop_form.specs.Lanes.{lane_width_of}
use Rattle.loop_form.specs.Registers.{FitsKernel}
use Rattle.dependence.specs.Apart.{bound_place}
use Rattle.dependence.specs.Classes.{class_of}
use Rattle.dependence.specs.declared.reason.Class.TheVariants.{Vector}
use Rattle.vector_order.specs.Apart.{StreamsApart}
use Rattle.vector_order.specs.Operands.{nth_value, operand_value}
use Rattle.vector_order.specs.Orders.{Lane}
use Rattle.vector_order.specs.Order.{Steady}
use Rattle.lane_emit.specs.Right.{IsOf, ZRight, PRight}
use Rattle.lane_emit.specs.Joins.{joined}
use Rattle.lane_emit.specs.Folds.{together}
use Rattle.lane_emit.specs.AccumulatorLanes.{LanesHold}
use Rattle.chunk_emit.specs.Registers.{Layout}
use Rattle.chunk_emit.specs.KernelLayout.{layout_of_loop}

-- What a loop runs over, and what stays while it does: the kernel and its loop, the registers of its vector and predicate
-- intervals, the arguments and the memory at the start of the run, the names as the loop begins, the vector length, and what
-- the general registers hold as the loop begins.
pub record Ground : Type 0 where
  pub kernel : Program
  pub for_loop : PlainLoop
  pub vectors : Assignment
  pub predicates : Assignment
  pub args : List ℕ
  pub start : Memory
  pub names : Names
  pub vl : ℕ
  pub x : List ℕ

abbrev pub layout : Ground → Layout
layout g = layout_of_loop g.kernel g.vectors g.predicates

abbrev pub width : Ground → Width
width g = lane_width_of g.kernel

-- how many lanes a chunk has at most
abbrev pub most_lanes : Ground → ℕ
most_lanes g = lanes g.vl (width g)

-- how many iterations the loop is to run
abbrev pub limit : Ground → ℕ
limit g = bound_of g.for_loop g.names

-- A checked kernel of class Vector that some text spells, over arrays that lie apart, as its loop begins: its intervals have
-- registers, and each parameter stands in its general register.
pub record IsGround (g : Ground) : Type 0 where
  pub spelled : ∥ IsTree g.kernel ∥₁
  pub sound : check_fault g.kernel ≡ None
  pub loops : g.kernel.for_loop ≡ Some g.for_loop
  pub vector : class_of g.kernel ≡ Vector
  pub apart : StreamsApart g.kernel g.args
  pub begins : started g.kernel g.args g.start ≡ Some g.names
  pub z_fits : FitsKernel g.kernel Z g.vectors
  pub p_fits : FitsKernel g.kernel P g.predicates
  pub sized : IsLength g.vl
  pub few : length g.kernel.params ≤ 8
  pub given : (p : ℕ) → p < length g.kernel.params → slice_index g.x p ≡ word (nth_value g.names p)
  pub bound : slice_index g.x (bound_place g.kernel) ≡ limit g
  pub near : bound_place g.kernel ≤ 7

-- a value from before the loop, in all elements of its register
pub record HeldAll (g : Ground) (s : State) (x : Operand) : Type 0 where
  pub right : (a : Lane) → ZRight (width g) (most_lanes g) (z_at s ((layout g).registers.source x)) (λ e. operand_value g.names 0 a x)
  pub typed : (a : Lane) → IsOf ((layout g).type x) (operand_value g.names 0 a x)

-- An accumulator that the loop updates: what its lanes have taken in so far, joined together and then with its value as the
-- loop began, is its value now.
pub record SumSoFar (g : Ground) (x : List ℕ) (value : ℤ) (sum : ℕ → ℤ) : Type 0 where
  pub typed : (e : ℕ) → e < most_lanes g → IsOf ((layout g).sum_type x) (sum e)
  pub first : IsOf ((layout g).sum_type x) (value_at g.names x)
  pub now : value ≡ joined ((layout g).update x) ((layout g).sum_type x) (value_at g.names x) (together ((layout g).update x) ((layout g).sum_type x) (most_lanes g) sum)

-- Between passes: i iterations are done, with the names `cur` after them. The accumulators that the loop updates alone have
-- other values, and what their lanes have taken in is `sum`.
pub record Between (g : Ground) (i : ℕ) (cur : Names) (sum : List ℕ → ℕ → ℤ) : Type 0 where
  pub within : i ≤ limit g
  pub steady : Steady g.kernel g.names cur
  pub still : (x : List ℕ) → (layout g).updated x ≡ false → value_at cur x ≡ value_at g.names x
  pub sums : (x : List ℕ) → (layout g).updated x ≡ true → SumSoFar g x (value_at cur x) (sum x)

-- The state before a pass, with the memory m. Of the general registers X9 alone has changed since the loop began, and those
-- from X26 on, which are free.
pub record AtHead (g : Ground) (i : ℕ) (cur : Names) (m : Memory) (sum : List ℕ → ℕ → ℤ) (s : State) : Type 0 where
  pub between : Between g i cur sum
  pub is : IsState s
  pub vl : s.vl ≡ g.vl
  pub memory : s.memory ≡ m
  pub index : x_at s iteration ≡ i
  pub x : (r : ℕ) → r ≤ 25 → r ≢ iteration → x_at s r ≡ slice_index g.x r
  pub all : PRight (width g) (most_lanes g) (p_at s all_true) all_at
  pub held : (x : Operand) → (layout g).held x ≡ true → x ≢ LoopIndex → HeldAll g s x
  pub lanes : (x : List ℕ) → (layout g).updated x ≡ true → LanesHold ((layout g).update x) ((layout g).sum_type x) (width g) (most_lanes g) (z_at s ((layout g).sum x)) (sum x)

-- the loop variable, where it has a register: the iterations of a chunk from iteration i on
abbrev pub IndexHeld : Ground → ℕ → State → Type 0
IndexHeld g i s = (layout g).held LoopIndex ≡ true → ZRight (width g) (most_lanes g) (z_at s ((layout g).registers.source LoopIndex)) (λ e. pos (i + e))

-- The state before a pass holds the lanes of a chunk.
use Rattle.std.proofs.Common.{◌≡◌, ◌≢◌, ℕ, ◌+◌, ◌-◌, ◌*◌, ◌<◌, ◌≤◌, ℤ, pos, Bool, true, false, ltb, List, [], map, Option, Some, None, refl, sym, ap, ◌∙◌, subst, arith}
use Rattle.std.specs.Prelude.{nat_lt, slice_index, if◌then◌else◌}
use mathlib.Core.Bool.{and-true}
use Rattle.guest_types.specs.Length.{width_bits, width_bytes, all_lanes}
use Rattle.guest_types.specs.Elements.{at, active}
use Rattle.guest_types.specs.EarlyLoads.{StopList}
use Rattle.guest_types.specs.Memory.{Memory}
use Rattle.guest_types.proofs.AtWidths.{lanes-bound}
use Rattle.guest_types.proofs.Widths.{whole-register, lane-inside}
use Rattle.kernel_tree.specs.Plain.{PlainLoop, Program}
use Rattle.kernel_tree.specs.Wrap.{residue}
use Rattle.kernel_tree.specs.Items.{loop_start}
use Rattle.kernel_meaning.specs.Eval.{Names}
use Rattle.machine_model.specs.Machine.{State, z_at, p_at}
use Rattle.reg_assign.specs.declared.interval.RegClass.TheVariants.{Z, P}
use Rattle.loop_form.specs.declared.loop_item.Operand.{Operand}
use Rattle.loop_form.specs.declared.loop_item.Operand.TheVariants.{Constant, Outer, LoopIndex, Made}
use Rattle.loop_form.specs.Entries.{entries_of, for_loop_entries, loop_entries}
use Rattle.loop_form.proofs.Places.{typed_place-below}
use Rattle.vector_order.specs.Orders.{Lane, Lanes}
use Rattle.vector_order.specs.Operands.{operand_value}
use Rattle.lane_emit.specs.Right.{IsOf, within}
use Rattle.lane_emit.specs.Folds.{after_all, given_to}
use Rattle.chunk_emit.specs.KernelLayout.{last_in, item_last_use}
use Rattle.chunk_emit.specs.LoopFits.{FitsSetting}
use Rattle.chunk_emit.specs.Chunk.{Setting, HeldRight, IsTop, sum_at, SumRight, Holds}
use Rattle.chunk_emit.specs.Head.{Ground, IsGround, AtHead, IndexHeld, layout, width, most_lanes, limit}
use Rattle.chunk_emit.proofs.FitsOperands.{truth_less}
use Rattle.chunk_emit.proofs.FitsTyped.{loop_index_typed}
use Rattle.first_fault.proofs.PrefixBits.{top_active}
use Rattle.chunk_pass.specs.Chunks.{IsSetting, IsChunk}
use Rattle.chunk_pass.proofs.LaneHeads.{limit_below}
use Rattle.lane_emit.specs.AccumulatorLanes as accumulators

-- the setting of n lanes from iteration i on
abbrev pub setting : Ground → (i n : ℕ) → (List ℕ → ℕ → ℤ) → (x : List ℕ) → StopList → Setting
setting g i n sum x stops = record { w = width g; names = g.names; i = i; n = n; vl = g.vl; stops = stops; x = x; sum = sum }

-- the addresses of arrays are in the registers of their parameters
pub fits_setting : (g : Ground) {i : ℕ} {cur : Names} {m : Memory} {sum : List ℕ → ℕ → ℤ} {s : State} (n : ℕ) (stops : StopList) → IsGround g → AtHead g i cur m sum s → FitsSetting g.kernel (setting g i n sum s.x stops)
fits_setting g n stops ground h = record {
  width = refl;
  bases = λ p t is.
      let inside = typed_place-below g.kernel.params p t is in
      h.x p (omega (arith, inside, ground.few)) (λ e. absurd (omega (arith, inside, ground.few, e))) ∙ ground.given p inside;
}

-- a lane that holds nothing yet
abbrev pub blank : Lane
blank = record { value = λ q. pos 0; truth = λ q. false; shares = [] }

abbrev pub blank_lanes : Memory → Lanes
blank_lanes m = record { memory = m; lane = λ j. blank }

pub is_setting : (g : Ground) (i n : ℕ) (sum : List ℕ → ℕ → ℤ) (x : List ℕ) (stops : StopList) → IsSetting g i n sum (setting g i n sum x stops)
is_setting g i n sum x stops = record { width = refl; names = refl; from = refl; count = refl; vl = refl; sum = λ x e. refl }

pub is_chunk : (g : Ground) (i n : ℕ) (m : Memory) → n ≤ most_lanes g → i + n ≤ limit g → IsChunk g i n (blank_lanes m)
is_chunk g i n m few within = record { few = few; within = within; fresh = λ j lo hi. refl }

-- ---- values from before the loop

-- that of any operand but the loop variable is the same in all lanes
pub outer_same : (names : Names) (i j : ℕ) (a : Lane) (x : Operand) → x ≢ LoopIndex → operand_value names i a x ≡ operand_value names j a x
outer_same names i j a (Constant t z) ne = refl
outer_same names i j a (Outer p) ne = refl
outer_same names i j a LoopIndex ne = absurd (ne refl)
outer_same names i j a (Made q) ne = refl

pub data IsLoopIndex (x : Operand) : Type 0 where
  is_loop_index : x ≡ LoopIndex → IsLoopIndex x
  not_loop_index : x ≢ LoopIndex → IsLoopIndex x

pub loop_index_or_not : (x : Operand) → IsLoopIndex x
loop_index_or_not (Constant t z) = not_loop_index (λ e. cc)
loop_index_or_not (Outer p) = not_loop_index (λ e. cc)
loop_index_or_not LoopIndex = is_loop_index refl
loop_index_or_not (Made q) = not_loop_index (λ e. cc)

-- ---- P0

-- the first bit of an element
lane_byte_below_256 : (g : Ground) → IsGround g → (e : ℕ) → e < most_lanes g → width_bytes (width g) * e < 256
lane_byte_below_256 g ground e lt = lane-inside (width g) e (all_lanes (width g)) (omega (arith, lt, (lanes-bound g.vl (width g) ground.sized).1)) (omega (arith, whole-register (width g)))

pub top_is : (g : Ground) → IsGround g → (k : ℕ) (p : List ℕ) → IsTop (width g) k p → (e : ℕ) → e < most_lanes g → active (width g) p e ≡ ltb e k
top_is g ground k p top e lt = top_active (width g) k p top e (lane_byte_below_256 g ground e lt)

-- ---- the items before the loop make nothing

first_value : (k : Program) → slice_index (map (last_in Z (entries_of k)) (loop_entries k)) 0 ≡ 0
first_value k = by k.for_loop
  where
    by : (o : Option PlainLoop) → slice_index (map (last_in Z (entries_of k)) (for_loop_entries k (loop_start k) o)) 0 ≡ 0
    by None = refl
    by (Some l) = refl

first_truth : (k : Program) → slice_index (map (last_in P (entries_of k)) (loop_entries k)) 0 ≡ 0
first_truth k = by k.for_loop
  where
    by : (o : Option PlainLoop) → slice_index (map (last_in P (entries_of k)) (for_loop_entries k (loop_start k) o)) 0 ≡ 0
    by None = refl
    by (Some l) = refl

no_value_before : (k : Program) (q : ℕ) → q < loop_start k + 1 → item_last_use k Z q ≡ 0
no_value_before k q lt =
    let place : q - loop_start k ≡ 0 = omega (arith, lt) in
    ap (slice_index (map (last_in Z (entries_of k)) (loop_entries k))) place ∙ first_value k

no_truth_before : (k : Program) (q : ℕ) → q < loop_start k + 1 → item_last_use k P q ≡ 0
no_truth_before k q lt =
    let place : q - loop_start k ≡ 0 = omega (arith, lt) in
    ap (slice_index (map (last_in P (entries_of k)) (loop_entries k))) place ∙ first_truth k

module _ (g : Ground) {i : ℕ} {cur : Names} {m : Memory} {sum : List ℕ → ℕ → ℤ} {s : State} (n : ℕ) (ground : IsGround g) (h : AtHead g i cur m sum s) (held_index : IndexHeld g i s) (few : n ≤ most_lanes g) (within : i + n ≤ limit g) where
  held_loop_index : (layout g).held LoopIndex ≡ true → HeldRight (layout g) (setting g i n sum s.x s.stops) s LoopIndex
  held_loop_index is = record {
    right = λ a. held_index is;
    typed = λ a e lt. loop_index_typed g.names (i + e) a (omega (arith, lt, within, limit_below ground h));
  }

  held_other : (x : Operand) → (layout g).held x ≡ true → x ≢ LoopIndex → HeldRight (layout g) (setting g i n sum s.x s.stops) s x
  held_other x is ne =
      let old = h.held x is ne in
      record {
        right = λ a e lt. old.right a e lt ∙ ap (residue (width_bits (width g))) (outer_same g.names 0 (i + e) a x ne);
        typed = λ a e lt. subst (IsOf ((layout g).type x)) (outer_same g.names 0 (i + e) a x ne) (old.typed a);
      }

  held_right : (x : Operand) → (layout g).held x ≡ true → HeldRight (layout g) (setting g i n sum s.x s.stops) s x
  held_right x is = by (loop_index_or_not x)
    where
      by : IsLoopIndex x → HeldRight (layout g) (setting g i n sum s.x s.stops) s x
      by (is_loop_index e) = subst (HeldRight (layout g) (setting g i n sum s.x s.stops) s) (sym e) (held_loop_index (ap (λ y. (layout g).held y) (sym e) ∙ is))
      by (not_loop_index ne) = held_other x is ne

  -- nothing was given yet
  sum_same : (x : List ℕ) (e : ℕ) → sum_at (layout g) (setting g i n sum s.x s.stops) (blank_lanes m) x e ≡ sum x e
  sum_same x e = by (nat_lt e n)
    where
      by : (b : Bool) → (if b then after_all ((layout g).update x) ((layout g).sum_type x) (sum x e) (given_to x []) else sum x e) ≡ sum x e
      by true = refl
      by false = refl

  sum_right : (x : List ℕ) → (layout g).updated x ≡ true → SumRight (layout g) (setting g i n sum s.x s.stops) (blank_lanes m) x (z_at s ((layout g).sum x))
  sum_right x is = record {
    before = (h.between.sums x is).typed;
    alike = λ e lt. tt;
    typed = λ e lt. tt;
    holds = λ e lt. subst (accumulators.Holds ((layout g).update x) ((layout g).sum_type x) (width g) (at (width g) (z_at s ((layout g).sum x)) e)) (sym (sum_same x e)) (h.lanes x is e lt);
  }

  pub lanes_hold : IsTop (width g) n (p_at s 0) → Holds (layout g) (setting g i n sum s.x s.stops) (loop_start g.kernel + 1) (blank_lanes m) s
  lanes_hold top = record {
    is = h.is;
    few = few;
    vl = h.vl;
    stops = refl;
    memory = h.memory;
    x = λ r ne. refl;
    index = h.index;
    active = λ e lt. top_is g ground n (p_at s 0) top e lt ∙ sym (and-true (ltb e n));
    top = top;
    all = h.all;
    held = held_right;
    values = λ q lt le. absurd (omega (arith, le, no_value_before g.kernel q lt));
    truths = λ q lt le. let less = truth_less g.kernel q in absurd (omega (arith, le, less, no_truth_before g.kernel q lt));
    sums = sum_right;
  }

-- The iterations of a chunk of a loop, and its lanes.
use Rattle.std.proofs.Common.{◌≡◌, ℕ, ◌+◌, ◌/◌, ◌<◌, ◌≤◌, ◌++◌, refl, sym, ap, ◌∙◌, subst, arith, le_trans}
use Rattle.guest_types.specs.declared.length.Width.{Width}
use Rattle.guest_types.specs.declared.length.Width.TheVariants.{B}
use Rattle.guest_types.specs.Length.{width_bits, lanes, all_lanes}
use Rattle.guest_types.specs.Memory.{Memory}
use Rattle.guest_types.proofs.AtWidths.{lanes-bound}
use Rattle.kernel_meaning.specs.Ends.{Going}
use Rattle.kernel_meaning.specs.Eval.{Names}
use Rattle.loop_form.specs.Lanes.{lane_width_of}
use Rattle.vector_order.specs.Orders.{Lane, Lanes, Out, Fine, Fail, by_item, by_iteration, Alike, ClearWithin}
use Rattle.vector_order.proofs.Interchange.{interchange}
use Rattle.vector_order.proofs.Regions.{same_in_iteration}
use Rattle.vector_order.specs.Items.{acts_of}
use Rattle.vector_order.specs.Order.{Steady, EndsAlike, SameChunk}
use Rattle.vector_order.proofs.OrderLaw.{vector_order}
use Rattle.chunk_emit.specs.Head.{Ground, IsGround, most_lanes, limit}
use Rattle.first_fault.specs.Region.{lane_left, region_way}
use Rattle.first_fault.specs.BreakRegion.{region_of, rest_of}
use Rattle.first_fault.proofs.RestHolds.{way_is_run}
use Rattle.first_fault.proofs.BreakRegions.{region_splits}
use Rattle.chunk_pass.specs.Chunks.{items_of}
use Rattle.chunk_pass.proofs.ChunkClear.{clear_of_chunk}
use Rattle.chunk_pass.proofs.ChunkIterations.{acts-append}

span_is : (w : Width) → all_lanes w ≡ 2048 / width_bits w
span_is B = refl
span_is other = refl

-- no chunk has more lanes than the longest vector
pub few_lanes : (g : Ground) → IsGround g → (n : ℕ) → n ≤ most_lanes g → n ≤ 2048 / width_bits (lane_width_of g.kernel)
few_lanes g is n le = let w = lane_width_of g.kernel in le_trans le (subst (λ most. lanes g.vl w ≤ most) (span_is w) (lanes-bound g.vl w is.sized).1)

-- n lanes from iteration i on end as the iterations do
pub chunk_same : (g : Ground) (i n : ℕ) (cur : Names) → IsGround g → Steady g.kernel g.names cur → n ≤ most_lanes g → i + n ≤ limit g → SameChunk g.kernel g.for_loop g.args g.names cur i n
chunk_same g i n cur is steady few within = vector_order g.kernel g.for_loop g.args g.start g.names cur i n is.sound is.loops is.vector is.apart is.begins steady (few_lanes g is n few) within

-- the lanes of iterations that go on end well
pub record GoesFine (g : Ground) (cur : Names) (i n : ℕ) (t : Lanes) (m : Memory) (names : Names) : Type 0 where
  pub lanes : Lanes
  pub done : by_item (acts_of g.names (items_of g)) n i t ≡ Fine lanes
  pub memory : lanes.memory ≡ m
  pub steady : Steady g.kernel g.names names

pub goes_fine : (g : Ground) (cur : Names) (i n : ℕ) (t : Lanes) (m : Memory) (names : Names) → EndsAlike g.kernel g.names cur i n (Going m names) (by_item (acts_of g.names (items_of g)) n i t) → GoesFine g cur i n t m names
goes_fine g cur i n t m names h = by (by_item (acts_of g.names (items_of g)) n i t) refl h
  where
    by : (o : Out) → by_item (acts_of g.names (items_of g)) n i t ≡ o → EndsAlike g.kernel g.names cur i n (Going m names) o → GoesFine g cur i n t m names
    by (Fine u) e h = record { lanes = u; done = e; memory = h.0; steady = h.2 }
    by (Fail a) e h = elim h [ ]

alike_fine : (a : Out) (u : Lanes) → Alike a (Fine u) → a ≡ Fine u
alike_fine (Fine s) u h = ap Fine h
alike_fine (Fail m) u h = elim h [ ]

-- The iteration after n lanes that end well does in the break region what it does there on the first memory.
pub way_same : (g : Ground) (i n : ℕ) (t u : Lanes) (l : Lane) → IsGround g → n < most_lanes g → i + n < limit g → by_item (acts_of g.names (items_of g)) n i t ≡ Fine u
    → lane_left (region_way g.names (region_of (items_of g)) (i + n) u.memory l) ≡ lane_left (region_way g.names (region_of (items_of g)) (i + n) t.memory l)
way_same g i n t u l is more less e =
    let front = acts_of g.names (region_of (items_of g)) in
    let rest = acts_of g.names (rest_of (items_of g)) in
    let split = region_splits g.kernel g.for_loop is.loops is.vector in
    let whole : acts_of g.names (items_of g) ≡ front ++ rest = ap (acts_of g.names) (sym split.whole) ∙ acts-append g.names (region_of (items_of g)) (rest_of (items_of g)) in
    let clear : ClearWithin (acts_of g.names (items_of g)) (n + 1) i =
    clear_of_chunk g.kernel g.for_loop g.args g.start g.names i (n + 1) is.sound is.loops is.vector is.apart is.begins (few_lanes g is (n + 1) (omega (arith, more))) (omega (arith, less)) in
    let order = interchange (acts_of g.names (items_of g)) n i (λ a b lo lt hi. clear a b lo lt (omega (arith, hi))) in
    let lane_by_lane : by_iteration (acts_of g.names (items_of g)) n i t ≡ Fine u = alike_fine _ u (subst (Alike (by_iteration (acts_of g.names (items_of g)) n i t)) e (order.ends t)) in
    let same = same_in_iteration front rest n i t u (split.quiet g.names) (subst (λ acts. ClearWithin acts (n + 1) i) whole clear) (ap (λ acts. by_iteration acts n i t) (sym whole) ∙ lane_by_lane) in
    way_is_run g.names (region_of (items_of g)) (i + n) u.memory l ∙ same.1 l ∙ sym (way_is_run g.names (region_of (items_of g)) (i + n) t.memory l)

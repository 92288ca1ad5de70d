-- Lanes that come through the break region and then fail: the scalar loop faults in one of their iterations.
use Rattle.std.proofs.Common.{◌≡◌, ℕ, ◌+◌, ◌≤◌, ◌++◌, refl, sym, ap, ◌∙◌, subst, arith}
use Rattle.guest_types.specs.Memory.{byte_at}
use Rattle.kernel_tree.specs.Typing.{var_scope}
use Rattle.kernel_meaning.specs.Ends.{LoopState, Going, Left, Failed}
use Rattle.kernel_meaning.specs.Eval.{Names}
use Rattle.kernel_meaning.specs.Iterate.{iterate}
use Rattle.kernel_meaning.specs.ScalarRun as run
use Rattle.kernel_meaning.specs.ScalarRun.{iterations}
use Rattle.vector_order.specs.Orders.{Lanes, Fail, by_item, memory_of}
use Rattle.vector_order.specs.Items.{acts_of}
use Rattle.vector_order.specs.Fates.{fate, SameEnd}
use Rattle.vector_order.specs.Order.{Steady, EndsAlike, Fresh, SameChunk}
use Rattle.vector_order.proofs.OrderLaw.{iteration_is_fate}
use Rattle.chunk_emit.specs.Head.{Ground, IsGround, most_lanes, limit}
use Rattle.first_fault.specs.Region.{lane_left, region_way}
use Rattle.first_fault.specs.BreakRegion.{region_of, rest_of}
use Rattle.first_fault.proofs.BreakRegions.{region_splits}
use Rattle.chunk_pass.specs.Halts.{Breaks}
use Rattle.chunk_pass.specs.Chunks.{items_of, AllOn, Failing, FailIsFault}
use Rattle.chunk_pass.proofs.ChunkIterations.{BreaksAt, breaks_at, on_unbroken, left_on}
use Rattle.chunk_pass.proofs.ChunkCourses.{chunk_same, goes_fine, way_same}

-- no iteration breaks whose lane goes on after the break region on the first memory
none_breaks : (g : Ground) (i k : ℕ) (cur : Names) (t : Lanes) → IsGround g → Steady g.kernel g.names cur → k ≤ most_lanes g → i + k ≤ limit g → Fresh i k t → AllOn g i k t → BreaksAt (var_scope g.kernel) g.for_loop k i t.memory cur → ⊥
none_breaks g i k cur t is steady few within fresh on b =
    let lt = b.few in
    let at = i + b.e in
    let region = region_of (items_of g) in
    let split = region_splits g.kernel g.for_loop is.loops is.vector in
    let same = chunk_same g i b.e cur is steady (omega (arith, few, lt)) (omega (arith, within, lt)) in
    let ends = subst (λ r. EndsAlike g.kernel g.names cur i b.e r (by_item (acts_of g.names (items_of g)) b.e i t)) b.goes (same.same t (λ j lo hi. fresh j lo (omega (arith, hi, lt)))) in
    let before = goes_fine g cur i b.e t b.memory b.names ends in
    let here = on b.e lt in
    let lane = t.lane at in
    let way = left_on (region_way g.names region at before.lanes.memory lane) here.0 (way_same g i b.e t before.lanes lane is (omega (arith, few, lt)) (omega (arith, within, lt)) before.done ∙ ap lane_left here.1) in
    let iteration_end = iterate (var_scope g.kernel) g.for_loop at before.lanes.memory b.names in
    let end : SameEnd iteration_end (fate g.names (region ++ rest_of (items_of g)) at before.lanes.memory lane) =
    subst (λ items. SameEnd iteration_end (fate g.names items at before.lanes.memory lane)) (sym split.whole) (iteration_is_fate g.kernel g.for_loop g.args g.start g.names b.names at before.lanes.memory lane is.sound is.loops is.vector is.begins before.steady) in
    on_unbroken g.names region (rest_of (items_of g)) at before.lanes.memory lane here.0 iteration_end (split.quiet g.names) split.unbroken way end
    (subst (λ m. Breaks (iterate (var_scope g.kernel) g.for_loop at m b.names)) (sym before.memory) b.breaks)

pub fail_is_fault : FailIsFault
fail_is_fault g i k cur sum t left is between chunk on e = by (iterations (var_scope g.kernel) g.for_loop k i t.memory cur) refl (subst (EndsAlike g.kernel g.names cur i k (iterations (var_scope g.kernel) g.for_loop k i t.memory cur)) e (same.same t chunk.fresh))
  where
    same : SameChunk g.kernel g.for_loop g.args g.names cur i k
    same = chunk_same g i k cur is between.steady chunk.few chunk.within

    by : (r : LoopState Names) → iterations (var_scope g.kernel) g.for_loop k i t.memory cur ≡ r → EndsAlike g.kernel g.names cur i k r (Fail left) → Failing g i k cur t.memory left
    by (Going m ns) f h = elim h [ ]
    by (Failed m j) f h = record {
      j = j;
      faulted = m;
      fails = f;
      from = h.0;
      until = h.1;
      kept = λ z low away.
          let stays = same.stays t chunk.fresh z low away in
          sym (ap (λ o. byte_at (memory_of o) z) e) ∙ stays.0 ∙ sym stays.1 ∙ ap (λ r. byte_at (run.memory_of r) z) f;
    }
    by (Left m ns j) f h = absurd (none_breaks g i k cur t is between.steady chunk.few chunk.within chunk.fresh on (breaks_at (var_scope g.kernel) g.for_loop k i t.memory m cur ns j f))

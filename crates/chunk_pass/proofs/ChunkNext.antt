-- After lanes that end well, an iteration that breaks or faults on the first memory does so in the scalar loop.
use Rattle.std.proofs.Common.{◌+◌, ◌∙◌, subst}
use Rattle.kernel_tree.specs.Typing.{var_scope}
use Rattle.kernel_meaning.specs.Iterate.{iterate}
use Rattle.vector_order.specs.Orders.{by_item}
use Rattle.vector_order.specs.Items.{acts_of}
use Rattle.vector_order.specs.Order.{EndsAlike}
use Rattle.first_fault.specs.Region.{region_way}
use Rattle.first_fault.specs.BreakRegion.{region_of}
use Rattle.first_fault.proofs.WayIterations.{way_is_iteration}
use Rattle.chunk_pass.specs.Chunks.{items_of, NextHalts}
use Rattle.chunk_pass.proofs.ChunkIterations.{halts_iteration}
use Rattle.chunk_pass.proofs.ChunkCourses.{chunk_same, goes_fine, way_same}

pub next_halts : NextHalts
next_halts g i k cur names sum t out is between chunk more less e goes halts =
    let lane = t.lane (i + k) in
    let same = chunk_same g i k cur is between.steady chunk.few chunk.within in
    let before = goes_fine g cur i k t out.memory names (subst (λ r. EndsAlike g.kernel g.names cur i k r (by_item (acts_of g.names (items_of g)) k i t)) goes (same.same t chunk.fresh)) in
    halts_iteration (region_way g.names (region_of (items_of g)) (i + k) out.memory lane) out.memory (iterate (var_scope g.kernel) g.for_loop (i + k) out.memory names) (way_same g i k t out lane is more less e ∙ halts)
    (way_is_iteration g.kernel g.for_loop g.args g.start g.names names (i + k) out.memory lane is.sound is.loops is.vector is.begins before.steady)

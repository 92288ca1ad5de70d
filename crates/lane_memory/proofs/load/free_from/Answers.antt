use Rattle.std.proofs.Common.{sym, arith}
use Rattle.lane_memory.specs.Readings.{on_of}
use Rattle.lane_memory.proofs.FirstTrue.{first_true-some}
use Rattle.lane_memory.proofs.load.free_from.Goals as goal

pub overflow_add-result : goal.overflow_add-result
overflow_add-result c =
    let f = first_true-some (on_of c.args.reading c.args.pg.now.bits) c.args.lanes 0 c.in-Some.first (sym c.in-Some.ensures) in
    record { fits = omega (arith, f.below, c.ranges.lanes.fits) }

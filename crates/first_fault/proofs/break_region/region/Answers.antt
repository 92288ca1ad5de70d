use Rattle.std.proofs.Common.{sym, arith}
use Rattle.std.proofs.lemmas.List.{length-take-le}
use Rattle.first_fault.proofs.Sizes.{region_within}
use Rattle.first_fault.proofs.break_region.region.Goals as goal

pub slice_bounds-result-end : goal.slice_bounds-result-end
slice_bounds-result-end c =
    let same = c.break_region.ensures in
    let small = region_within c.args.items.now in
    sym (length-take-le c.break_region.result c.args.items.now (omega (arith, same, small)))

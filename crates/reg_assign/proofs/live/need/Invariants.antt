use Rattle.std.proofs.Common.{◌≡◌, drop}
use Rattle.std.specs.Prelude.{fold}
use Rattle.reg_assign.specs.Intervals.{greater_overlap, need_of}
use Rattle.reg_assign.proofs.live.need.Given as goal

abbrev pub invariant-loop-interval : goal.invariant-loop-interval
invariant-loop-interval l = fold (greater_overlap l.intervals) l.most (drop l.interval-index l.intervals) ≡ need_of l.intervals

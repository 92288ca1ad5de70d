use Rattle.std.proofs.Common.{take}
use Rattle.reg_assign.proofs.Walk.{IsWalk}
use Rattle.reg_assign.proofs.linear_scan.assign.Given as goal

abbrev pub invariant-loop-interval : goal.invariant-loop-interval
invariant-loop-interval l = IsWalk l.n (take l.interval-index l.intervals) l.registers.items l.ends.items

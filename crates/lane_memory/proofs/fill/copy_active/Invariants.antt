use Rattle.std.proofs.Common.{◌-◌, ◌≤◌}
use Rattle.lane_memory.specs.Readings.{HoldsLanes}
use Rattle.lane_memory.proofs.fill.copy_active.Given as goal

abbrev pub invariant-loop-e : goal.invariant-loop-e
invariant-loop-e l = (l.from ≤ l.e) × (l.e ≤ l.to) × HoldsLanes l.reading l.pages.memory l.pg.bits l.from l.e l.out.bytes

abbrev pub decreases-loop-e : goal.decreases-loop-e
decreases-loop-e l = l.to - l.e

use Rattle.lane_memory.specs.Readings.{on_from, faults_of}
use Rattle.lane_memory.proofs.EarlySteps.{Going}
use Rattle.lane_memory.proofs.early.first_suppressed.Given as goal

abbrev pub invariant-loop-e : goal.invariant-loop-e
invariant-loop-e l = Going l.fn.stops (on_from l.reading l.pg.bits l.from) (faults_of l.reading l.pages.memory) l.lanes l.e l.stops

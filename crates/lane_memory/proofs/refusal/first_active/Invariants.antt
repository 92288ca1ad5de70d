use Rattle.std.proofs.Common.{◌≡◌, ◌<◌, ℕ, false}
use Rattle.lane_memory.specs.Readings.{on_of}
use Rattle.lane_memory.proofs.refusal.first_active.Given as goal

abbrev pub invariant-loop-e : goal.invariant-loop-e
invariant-loop-e l = (j : ℕ) → j < l.e → on_of l.reading l.pg.bits j ≡ false

use Rattle.std.proofs.Common.{◌≡◌, ◌-◌, ◌<◌, ◌≤◌, ℕ, false}
use Rattle.lane_memory.specs.Readings.{refused_of}
use Rattle.lane_memory.proofs.refusal.first_refused.Given as goal

abbrev pub invariant-loop-e : goal.invariant-loop-e
invariant-loop-e l = (l.from ≤ l.e) × ((j : ℕ) → l.from ≤ j → j < l.e → refused_of l.reading l.pages.memory l.pg.bits j ≡ false)

abbrev pub decreases-loop-e : goal.decreases-loop-e
decreases-loop-e l = l.range.to - l.e

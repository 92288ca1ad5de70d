use Rattle.std.proofs.Common.{◌≡◌, ◌<◌, ◌≤◌, ℕ, get_or}
use Rattle.lane_memory.proofs.range.zeros_from.Given as goal

abbrev pub invariant-loop-to : goal.invariant-loop-to
invariant-loop-to l = (l.from ≤ l.to) × (l.to ≤ l.bytes) × ((i : ℕ) → l.to ≤ i → i < l.bytes → get_or l.pg.bits i 0 ≡ 0)

abbrev pub decreases-loop-to : goal.decreases-loop-to
decreases-loop-to l = l.to

use Rattle.std.proofs.Common.{◌≡◌, ◌-◌, ◌≤◌}
use Rattle.lane_memory.specs.Writings.{stored_of}
use Rattle.lane_memory.proofs.store.store_active.Given as goal

abbrev pub invariant-loop-e : goal.invariant-loop-e
invariant-loop-e l =
    (l.from ≤ l.e) × (l.e ≤ l.to)
    × (stored_of l.writing l.pg.bits l.z.bytes (l.to - l.from) l.from l.initial.pages.memory ≡ stored_of l.writing l.pg.bits l.z.bytes (l.to - l.e) l.e l.pages.memory)
    × (l.pages.past ≡ l.initial.pages.past)

abbrev pub decreases-loop-e : goal.decreases-loop-e
decreases-loop-e l = l.to - l.e

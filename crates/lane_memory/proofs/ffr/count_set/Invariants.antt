use Rattle.std.proofs.Common.{◌≡◌, ◌-◌}
use Rattle.guest_types.specs.Elements.{first_true}
use Rattle.guest_types.specs.LaneMemory.{is_clear}
use Rattle.lane_memory.proofs.ffr.count_set.Given as goal

abbrev pub invariant-loop-e : goal.invariant-loop-e
invariant-loop-e l = let clear = is_clear l.width l.ffr.bits in first_true clear l.lanes 0 ≡ first_true clear (l.lanes - l.e) l.e

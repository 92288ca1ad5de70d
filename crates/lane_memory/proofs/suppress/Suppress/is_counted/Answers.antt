use Rattle.std.proofs.Common.{◌≡◌, subst}
use Rattle.guest_types.specs.EarlyLoads.{later}
use Rattle.lane_memory.proofs.StopLaws.{later_by_none}
use Rattle.lane_memory.proofs.suppress.Suppress.is_counted.Goals as goal

pub returns : goal.returns
returns c = subst (λ s. later s 0 ≡ s) c.self.view_is (later_by_none c.self.inside.stops c.self.invariant)

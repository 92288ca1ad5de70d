use Rattle.dependence.proofs.Bounds as bounds
use Rattle.dependence.proofs.laws.bounds_in_order.Goals as goal

pub returns : goal.returns
returns c = record { slow = bounds.slow; free = bounds.free; none = bounds.free_bound_of_none }

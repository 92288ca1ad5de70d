use Rattle.first_fault.proofs.WayIterations as laws
use Rattle.first_fault.proofs.way_is_iteration.Goals as goal

pub returns : goal.returns
returns c = laws.way_is_iteration

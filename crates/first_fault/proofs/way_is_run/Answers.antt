use Rattle.first_fault.proofs.RestHolds as laws
use Rattle.first_fault.proofs.way_is_run.Goals as goal

pub returns : goal.returns
returns c = laws.way_is_run

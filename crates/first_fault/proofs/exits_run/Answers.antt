use Rattle.first_fault.proofs.RegionRuns as laws
use Rattle.first_fault.proofs.exits_run.Goals as goal

pub returns : goal.returns
returns c = laws.exits_run

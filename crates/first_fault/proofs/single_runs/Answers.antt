use Rattle.first_fault.proofs.RegionRuns as laws
use Rattle.first_fault.proofs.single_runs.Goals as goal

pub returns : goal.returns
returns c = laws.single_runs

use Rattle.reductions.proofs.StartRuns as laws
use Rattle.reductions.proofs.start_runs.Goals as goal

pub returns : goal.returns
returns c = laws.start_runs

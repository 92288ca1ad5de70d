use Rattle.vector_emit.proofs.LoopRuns as laws
use Rattle.vector_emit.proofs.vector_runs.Goals as goal

pub returns : goal.returns
returns c = laws.vector_runs

use Rattle.run_laws.proofs.EvaluatedRuns as laws
use Rattle.run_laws.proofs.evaluated_runs.Goals as goal

pub returns : goal.returns
returns c = record { faithful = laws.faithful_evaluated; compiled = laws.compiled_evaluated }

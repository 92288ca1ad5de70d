use Rattle.run_laws.proofs.CompiledRuns as laws
use Rattle.run_laws.proofs.compiled_runs.Goals as goal

pub returns : goal.returns
returns c = record { faithful = laws.faithful_runs; compiled = laws.compiled_runs }

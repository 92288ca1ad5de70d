use Rattle.machine_model.proofs.MemoryStays.{step_stores, run_stores}
use Rattle.machine_model.proofs.laws.memory_changes_by_stores.Goals as goal

pub returns-clause-step : goal.returns-clause-step
returns-clause-step c = step_stores

pub returns-clause-run : goal.returns-clause-run
returns-clause-run c = run_stores

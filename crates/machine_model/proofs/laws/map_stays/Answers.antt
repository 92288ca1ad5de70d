use Rattle.machine_model.proofs.MemoryStays.{step_access, run_access}
use Rattle.machine_model.proofs.laws.map_stays.Goals as goal

pub returns-clause-step : goal.returns-clause-step
returns-clause-step c = step_access

pub returns-clause-run : goal.returns-clause-run
returns-clause-run c = run_access

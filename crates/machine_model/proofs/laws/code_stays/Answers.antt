use Rattle.machine_model.proofs.MemoryStays.{step_code, run_code}
use Rattle.machine_model.proofs.laws.code_stays.Goals as goal

pub returns-clause-step : goal.returns-clause-step
returns-clause-step c = step_code

pub returns-clause-run : goal.returns-clause-run
returns-clause-run c = run_code

use Rattle.machine_model.proofs.Quiet.{step_quiet, steps_quiet}
use Rattle.machine_model.proofs.laws.quiet_stays.Goals as goal

pub returns-clause-step : goal.returns-clause-step
returns-clause-step c = step_quiet

pub returns-clause-steps : goal.returns-clause-steps
returns-clause-steps c = steps_quiet

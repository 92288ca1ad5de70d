use Rattle.machine_model.proofs.StateSteps.{plain_start_is, free_start_is}
use Rattle.machine_model.proofs.StatesOfRuns.{step_keeps, steps_keep}
use Rattle.machine_model.proofs.laws.states_keep_shape.Goals as goal

pub returns-clause-start : goal.returns-clause-start
returns-clause-start c = plain_start_is

pub returns-clause-free : goal.returns-clause-free
returns-clause-free c = free_start_is

pub returns-clause-step : goal.returns-clause-step
returns-clause-step c = step_keeps

pub returns-clause-steps : goal.returns-clause-steps
returns-clause-steps c = steps_keep

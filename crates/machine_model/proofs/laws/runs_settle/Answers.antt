use Rattle.machine_model.proofs.Runs.{settled, steps_taken_le}
use Rattle.machine_model.proofs.laws.runs_settle.Goals as goal

pub returns-clause-settled : goal.returns-clause-settled
returns-clause-settled c = settled

pub returns-clause-within : goal.returns-clause-within
returns-clause-within c = steps_taken_le

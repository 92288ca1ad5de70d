use Rattle.reserved_registers.proofs.Steps as theorem
use Rattle.reserved_registers.proofs.laws.step_keeps.Goals as goal

pub returns : goal.returns
returns c = theorem.steps_keep

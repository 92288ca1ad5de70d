use Rattle.a64_machine.proofs.Nothing.{if_some_of_none}
use Rattle.a64_machine.proofs.preparing.compare_branch.Goals as goal

pub returns-in_err-rt : goal.returns-in_err-rt
returns-in_err-rt c = if_some_of_none _ c.from_residual.result c.from_residual.ensures

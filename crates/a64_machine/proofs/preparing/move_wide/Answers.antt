use Rattle.a64_machine.proofs.Nothing.{if_some_of_none}
use Rattle.a64_machine.proofs.preparing.move_wide.Goals as goal

pub returns-in_err-rd : goal.returns-in_err-rd
returns-in_err-rd c pc = if_some_of_none _ c.from_residual.result c.from_residual.ensures

use Rattle.a64_machine.proofs.Nothing.{if_some_of_none}
use Rattle.a64_machine.proofs.preparing.logical.Goals as goal

pub returns-in_err-rd : goal.returns-in_err-rd
returns-in_err-rd c pc = if_some_of_none _ c.from_residual.result c.from_residual.ensures

pub returns-in_err-rm : goal.returns-in_err-rm
returns-in_err-rm c pc = if_some_of_none _ c.from_residual-in_err-rm.result c.from_residual-in_err-rm.ensures

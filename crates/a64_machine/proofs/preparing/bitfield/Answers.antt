use Rattle.a64_machine.proofs.Nothing.{if_some_of_none}
use Rattle.a64_machine.proofs.preparing.bitfield.Goals as goal

pub returns-in_err-rd : goal.returns-in_err-rd
returns-in_err-rd c pc = if_some_of_none _ c.from_residual.result c.from_residual.ensures

pub returns-in_err-rn : goal.returns-in_err-rn
returns-in_err-rn c pc = if_some_of_none _ c.from_residual-in_err-rn.result c.from_residual-in_err-rn.ensures

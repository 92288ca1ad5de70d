use Rattle.a64_machine.proofs.Nothing.{if_some_of_none}
use Rattle.a64_machine.proofs.preparing.byte_immediate.Goals as goal

pub returns-in_err-rn : goal.returns-in_err-rn
returns-in_err-rn c pc = if_some_of_none _ c.from_residual.result c.from_residual.ensures

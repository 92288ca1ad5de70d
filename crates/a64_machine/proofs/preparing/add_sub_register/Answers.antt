use Rattle.a64_machine.proofs.Nothing.{if_some_of_none}
use Rattle.a64_machine.proofs.preparing.add_sub_register.Goals as goal

pub returns-in_err-rn : goal.returns-in_err-rn
returns-in_err-rn c pc = if_some_of_none _ c.from_residual.result c.from_residual.ensures

pub returns-in_err-rm : goal.returns-in_err-rm
returns-in_err-rm c pc = if_some_of_none _ c.from_residual-in_err-rm.result c.from_residual-in_err-rm.ensures

pub returns-in_err-rd-in-Add : goal.returns-in_err-rd-in-Add
returns-in_err-rd-in-Add c pc = if_some_of_none _ c.from_residual-in_err-rd-in-Add.result c.from_residual-in_err-rd-in-Add.ensures

pub returns-in_err-rd-in-Sub : goal.returns-in_err-rd-in-Sub
returns-in_err-rd-in-Sub c pc = if_some_of_none _ c.from_residual-in_err-rd-in-Sub.result c.from_residual-in_err-rd-in-Sub.ensures

use Rattle.reserved_registers.proofs.Words as theorem
use Rattle.reserved_registers.proofs.laws.words_exit.Goals as goal

pub returns : goal.returns
returns c = theorem.words_exit

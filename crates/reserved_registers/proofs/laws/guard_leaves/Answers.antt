use Rattle.reserved_registers.proofs.Guards as theorem
use Rattle.reserved_registers.proofs.laws.guard_leaves.Goals as goal

pub returns : goal.returns
returns c = theorem.guard_stays

use Rattle.machine_model.proofs.CodeInMemory.{code_does, code_cuts, code_stays, code_front, code_back}
use Rattle.machine_model.proofs.laws.code_is_done.Goals as goal

pub returns-clause-does : goal.returns-clause-does
returns-clause-does c = code_does

pub returns-clause-cuts : goal.returns-clause-cuts
returns-clause-cuts c = code_cuts

pub returns-clause-stays : goal.returns-clause-stays
returns-clause-stays c = code_stays

pub returns-clause-parts : goal.returns-clause-parts
returns-clause-parts c memory pc front back h = (code_front memory pc front back h, code_back memory pc front back h)

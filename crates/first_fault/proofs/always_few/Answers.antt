use Rattle.first_fault.proofs.Counts as laws
use Rattle.first_fault.proofs.always_few.Goals as goal

pub returns : goal.returns
returns c = laws.always_few

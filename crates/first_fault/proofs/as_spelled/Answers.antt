use Rattle.first_fault.proofs.Spelled as laws
use Rattle.first_fault.proofs.as_spelled.Goals as goal

pub returns : goal.returns
returns c = laws.as_spelled

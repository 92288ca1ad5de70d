use Rattle.first_fault.proofs.RestHolds as laws
use Rattle.first_fault.proofs.rest_holds.Goals as goal

pub returns : goal.returns
returns c = laws.rest_holds

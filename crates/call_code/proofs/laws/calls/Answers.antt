use Rattle.call_code.proofs.WholeCalls.{calls}
use Rattle.call_code.proofs.laws.calls.Goals as goal

pub returns : goal.returns
returns c = calls

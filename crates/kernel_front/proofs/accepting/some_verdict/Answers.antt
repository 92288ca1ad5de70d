use Rattle.kernel_front.proofs.SomeVerdict.{some_verdict}
use Rattle.kernel_front.proofs.accepting.some_verdict.Goals as goal

pub returns : goal.returns
returns c text = some_verdict text

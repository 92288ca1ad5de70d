use Rattle.kernel_front.proofs.OneVerdict.{one_verdict}
use Rattle.kernel_front.proofs.accepting.one_verdict.Goals as goal

pub returns : goal.returns
returns c = one_verdict

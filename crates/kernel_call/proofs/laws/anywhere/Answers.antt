use Rattle.kernel_call.proofs.AnywhereRuns.{words_anywhere}
use Rattle.kernel_call.proofs.laws.anywhere.Goals as goal

pub returns : goal.returns
returns c = words_anywhere

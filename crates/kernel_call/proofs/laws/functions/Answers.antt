use Rattle.kernel_call.proofs.FunctionRuns.{kernel_functions}
use Rattle.kernel_call.proofs.laws.functions.Goals as goal

pub returns : goal.returns
returns c = λ k words d. kernel_functions k words c.calls.ensures d

use Rattle.sweep_kernel.proofs.Accepted.{accepts_sweep}
use Rattle.sweep_kernel.proofs.laws.accepts_sweep.Goals as goal

pub returns : goal.returns
returns c seed = accepts_sweep seed

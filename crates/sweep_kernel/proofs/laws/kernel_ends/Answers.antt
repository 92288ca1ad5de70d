use Rattle.sweep_kernel.proofs.Ends.{all_end}
use Rattle.sweep_kernel.proofs.laws.kernel_ends.Goals as goal

pub returns : goal.returns
returns c = all_end

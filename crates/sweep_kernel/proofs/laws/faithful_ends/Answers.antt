use Rattle.sweep_kernel.proofs.RunsEnd.{faithful_ends}
use Rattle.sweep_kernel.proofs.laws.faithful_ends.Goals as goal

pub returns : goal.returns
returns c = faithful_ends

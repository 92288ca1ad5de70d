use Rattle.reductions.proofs.StartCounts as laws
use Rattle.reductions.proofs.few_held.Goals as goal

pub returns : goal.returns
returns c = laws.few_held

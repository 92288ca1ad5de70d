use Rattle.reductions.proofs.Reduce as lanes
use Rattle.reductions.proofs.reduction_is_together.Goals as goal

pub returns : goal.returns
returns c = lanes.reduction_together

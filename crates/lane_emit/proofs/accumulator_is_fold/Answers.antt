use Rattle.lane_emit.proofs.FoldShares as shares
use Rattle.lane_emit.proofs.accumulator_is_fold.Goals as goal

pub returns : goal.returns
returns c = shares.accumulator_law

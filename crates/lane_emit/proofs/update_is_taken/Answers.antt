use Rattle.lane_emit.proofs.AccumulatorUpdates as lanes
use Rattle.lane_emit.proofs.update_is_taken.Goals as goal

pub returns : goal.returns
returns c = lanes.update_taken

use Rattle.lane_emit.proofs.AccumulatorUpdates as lanes
use Rattle.lane_emit.proofs.start_is_identity.Goals as goal

pub returns : goal.returns
returns c = lanes.start_identity

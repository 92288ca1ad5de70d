use Rattle.lane_emit.proofs.ItemRuns as runs
use Rattle.lane_emit.proofs.lanes_right.Goals as goal

pub returns : goal.returns
returns c = runs.lanes_right_law

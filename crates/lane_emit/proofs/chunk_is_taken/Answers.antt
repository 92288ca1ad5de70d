use Rattle.lane_emit.proofs.FoldOrders as orders
use Rattle.lane_emit.proofs.chunk_is_taken.Goals as goal

pub returns : goal.returns
returns c = orders.chunk_taken_law

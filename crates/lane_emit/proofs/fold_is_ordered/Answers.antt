use Rattle.lane_emit.proofs.FoldOrders as orders
use Rattle.lane_emit.proofs.fold_is_ordered.Goals as goal

pub returns : goal.returns
returns c = orders.fold_ordered_law

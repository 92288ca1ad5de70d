use Rattle.vector_order.proofs.Regions as regions
use Rattle.vector_order.proofs.same_in_iteration.Goals as goal

pub returns : goal.returns
returns c = regions.same_in_iteration

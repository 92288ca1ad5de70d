use Rattle.vector_order.proofs.OrderLaw as laws
use Rattle.vector_order.proofs.iteration_is_fate.Goals as goal

pub returns : goal.returns
returns c = laws.iteration_is_fate

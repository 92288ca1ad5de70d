use Rattle.close_bound.proofs.CloseBounds.{close}
use Rattle.close_bound.proofs.close_bound_is_lower.Goals as goal

pub returns : goal.returns
returns c = close

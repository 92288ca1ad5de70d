use Rattle.dependence.proofs.Bounds.{tested}
use Rattle.dependence.proofs.laws.apart_is_tested.Goals as goal

pub returns : goal.returns
returns c = tested

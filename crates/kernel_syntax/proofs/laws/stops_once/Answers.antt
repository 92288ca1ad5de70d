use Rattle.kernel_syntax.proofs.Place.{stops_once}
use Rattle.kernel_syntax.proofs.laws.stops_once.Goals as goal

pub returns : goal.returns
returns c text a b p q = stops_once text a b p q

use Rattle.kernel_syntax.proofs.Place.{stops_somewhere}
use Rattle.kernel_syntax.proofs.laws.stops_somewhere.Goals as goal

pub returns : goal.returns
returns c text n = stops_somewhere text n

use Rattle.promises.proofs.Promises.{without_stops}
use Rattle.promises.proofs.laws.runs_without_stops.Goals as goal

pub returns : goal.returns
returns c = without_stops

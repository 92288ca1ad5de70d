use Rattle.map_text.proofs.MapsAlone.{map_alone}
use Rattle.map_text.proofs.laws.map_read_alone.Goals as goal

pub returns : goal.returns
returns c = map_alone

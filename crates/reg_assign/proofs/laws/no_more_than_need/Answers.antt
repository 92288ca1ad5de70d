use Rattle.reg_assign.proofs.Overlaps.{overlap-need}
use Rattle.reg_assign.proofs.laws.no_more_than_need.Goals as goal

pub returns : goal.returns
returns c = overlap-need c.args.intervals.now

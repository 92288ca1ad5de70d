use Rattle.lane_blocks.proofs.Masks.{spread-is}
use Rattle.lane_blocks.proofs.mask.spread.Goals as goal

pub returns : goal.returns
returns c = spread-is c.args.p c.fits-p.0

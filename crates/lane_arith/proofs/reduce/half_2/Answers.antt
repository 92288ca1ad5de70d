use Rattle.std.proofs.Common.{w8}
use Rattle.std.proofs.lemmas.Simd.{below_from_Fits}
use Rattle.lane_arith.proofs.Halves.{halved-2}
use Rattle.lane_arith.proofs.reduce.half_2.Goals as goal

pub returns : goal.returns
returns c = halved-2 c.args.op c.args.width c.args.join c.requires.lanes c.requires.element c.args.x c.binary_block.result c.requires.narrow c.fits-x.0 (below_from_Fits w8 c.args.x c.fits-x.1) c.binary_block.ensures

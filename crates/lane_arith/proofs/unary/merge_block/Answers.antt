use Rattle.std.proofs.Common.{◌∙◌, w8}
use Rattle.std.proofs.lemmas.Simd.{below_from_Fits}
use Rattle.lane_arith.proofs.Blocks.{merge_one-is}
use Rattle.lane_arith.proofs.unary.merge_block.Goals as goal

pub returns : goal.returns
returns c =
    c.choose_block.ensures
    ∙ merge_one-is c.args.op c.args.width c.args.p c.args.old c.args.a c.unary_block.result c.requires (below_from_Fits w8 c.args.a c.fits-a.1) c.unary_block.ensures

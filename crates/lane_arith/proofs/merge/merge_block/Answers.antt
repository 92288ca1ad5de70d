use Rattle.std.proofs.Common.{◌∙◌, w8}
use Rattle.std.proofs.lemmas.Simd.{below_from_Fits}
use Rattle.lane_arith.proofs.Blocks.{merge-is}
use Rattle.lane_arith.proofs.merge.merge_block.Goals as goal

pub returns : goal.returns
returns c =
    let sa = below_from_Fits w8 c.args.a c.fits-a.1 in
    let sb = below_from_Fits w8 c.args.b c.fits-b.1 in
    c.choose_block.ensures ∙ merge-is c.args.op c.args.width c.args.p c.args.a c.args.b c.binary_block.result sa sb c.binary_block.ensures

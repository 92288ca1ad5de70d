use Rattle.std.proofs.Common.{◌∙◌, w8}
use Rattle.std.proofs.lemmas.Simd.{below_from_Fits}
use Rattle.lane_arith.proofs.Reduced.{sum-step-is}
use Rattle.lane_arith.proofs.reduce.sum_step.Goals as goal

pub returns : goal.returns
returns c =
    let sx = below_from_Fits w8 c.args.x c.fits-x.1 in
    let ss = below_from_Fits w8 c.args.zero c.fits-zero.1 in
    c.block_sum.ensures ∙ sum-step-is c.args.width c.args.p c.args.x c.args.zero c.choose_block.result sx ss c.choose_block.ensures

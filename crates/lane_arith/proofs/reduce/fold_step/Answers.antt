use Rattle.std.proofs.Common.{◌∙◌, w8}
use Rattle.std.proofs.lemmas.Simd.{below_from_Fits}
use Rattle.lane_arith.proofs.Reduced.{fold-step-is}
use Rattle.lane_arith.proofs.reduce.fold_step.Goals as goal

pub returns : goal.returns
returns c =
    let sx = below_from_Fits w8 c.args.x c.fits-x.1 in
    let ss = below_from_Fits w8 c.args.start c.fits-start.1 in
    c.binary_block.ensures ∙ fold-step-is c.args.width c.args.p c.args.x c.args.start c.choose_block.result sx ss c.choose_block.ensures c.args.join c.args.partial

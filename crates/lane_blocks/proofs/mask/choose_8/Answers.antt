use Rattle.std.proofs.Common.{w8}
use Rattle.std.proofs.lemmas.Simd.{below_from_Fits}
use Rattle.lane_blocks.proofs.Masks.{choose-bytes}
use Rattle.lane_blocks.proofs.mask.choose_8.Goals as goal

pub returns : goal.returns
returns c =
    let sc = below_from_Fits w8 c.args.chosen c.fits-chosen.1 in
    let so = below_from_Fits w8 c.args.other c.fits-other.1 in
    choose-bytes c.args.p c.spread-bits.result c.args.chosen c.args.other c.spread-bits.ensures c.fits-chosen.0 c.fits-other.0 sc so

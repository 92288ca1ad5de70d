use Rattle.std.proofs.Common.{refl, w8, w32}
use Rattle.std.proofs.lemmas.Simd.{below_from_Fits}
use Rattle.guest_types.specs.declared.length.Width.TheVariants.{S}
use Rattle.lane_blocks.proofs.Masks.{choose-wide}
use Rattle.lane_blocks.proofs.mask.choose_32.Goals as goal

pub returns : goal.returns
returns c =
    let sc = below_from_Fits w8 c.args.chosen c.fits-chosen.1 in
    let so = below_from_Fits w8 c.args.other c.fits-other.1 in
    choose-wide w32 S c.args.p c.spread-bits.result c.args.chosen c.args.other c.spread-bits.ensures sc so 4294967296 refl

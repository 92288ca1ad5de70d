use Rattle.std.proofs.Common.{◌≡◌, ◌∙◌, ap, length, rules}
use lib.Bits.{bit_and}
use lib.Lanes.{zip2}
use Rattle.lane_blocks.proofs.Masks.{below-is}
use Rattle.lane_blocks.proofs.mask.bits_below.Goals as goal

pub returns : goal.returns
returns c =
    let p = c.args.p.now.bits in
    let long : length p ≡ 32 = search rules in
    ap (λ b. zip2 bit_and b c.below-limits.result) c.predicate_block-bits.ensures.value
    ∙ below-is p c.below-limits.result c.args.limit long c.predicate_block-bits.ensures.bytes c.below-limits.ensures

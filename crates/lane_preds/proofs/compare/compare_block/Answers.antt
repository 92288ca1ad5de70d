use Rattle.std.proofs.Common.{◌∙◌}
use Rattle.lane_preds.proofs.Compares.{block-bits}
use Rattle.lane_preds.proofs.compare.compare_block.Goals as goal

pub returns : goal.returns
returns c =
    c.nonzero_bits.ensures
    ∙ block-bits c.args.op c.args.width c.args.p c.args.a c.args.b c.flags_block-flags.result c.spread-mask.result c.flags_block-flags.ensures c.spread-mask.ensures

use Rattle.std.proofs.Common.{◌∙◌}
use Rattle.lane_blocks.proofs.Masks.{nonzero-bits, nonzero-fits}
use Rattle.lane_blocks.proofs.mask.nonzero_bits.Goals as goal

pub overflow_cast-block : goal.overflow_cast-block
overflow_cast-block c = record { fits = nonzero-fits c.args.block c.fits-block.0 }

pub returns : goal.returns
returns c = c.to_le_bytes.ensures ∙ nonzero-bits c.args.block c.fits-block.0

use Rattle.std.proofs.Common.{arith}
use Rattle.std.proofs.lemmas.List.{take_all}
use Rattle.lane_blocks.proofs.mask.whole_block.Goals as goal

pub returns-clause-value : goal.returns-clause-value
returns-clause-value c = take_all 32 c.args.bits.now (omega arith)

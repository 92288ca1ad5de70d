use Rattle.std.proofs.Common.{arith}
use Rattle.paged_memory.proofs.Bytes.{number_in-bytes}
use Rattle.paged_memory.proofs.number.word.Goals as goal

pub returns : goal.returns
returns c = omega (arith, c.from_le_bytes.ensures, number_in-bytes c.args.bytes.now c.args.at 3 c.requires)

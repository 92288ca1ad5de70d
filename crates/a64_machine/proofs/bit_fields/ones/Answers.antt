use Rattle.std.proofs.Common.{arith}
use Rattle.a64_machine.proofs.Fields.{ones_of_width}
use Rattle.a64_machine.proofs.bit_fields.ones.Goals as goal

pub returns : goal.returns
returns c = ones_of_width c.args.width _ (omega arith)

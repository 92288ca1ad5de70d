use Rattle.a64_machine.proofs.Fields.{bit_and_ones}
use Rattle.a64_machine.proofs.bit_fields.low_bits.Goals as goal

pub returns : goal.returns
returns c = bit_and_ones c.args.value c.ones.result c.args.width c.ones.ensures

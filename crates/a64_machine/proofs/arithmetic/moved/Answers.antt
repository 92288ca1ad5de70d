use Rattle.std.proofs.Common.{◌∙◌, ap, ◌*◌, ◌%◌, ◌^◌}
use Rattle.a64_machine.proofs.Fields.{moved_fits}
use Rattle.a64_machine.proofs.arithmetic.moved.Goals as goal

pub returns : goal.returns
returns c = ap (λ x. x * 2 ^ (16 * c.args.hw) % 2 ^ 64) c.from.ensures ∙ moved_fits c.args.hw c.args.imm16 c.requires.hw c.requires.imm16

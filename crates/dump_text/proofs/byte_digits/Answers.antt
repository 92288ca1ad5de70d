use Rattle.std.proofs.Common.{◌∙◌, arith}
use Rattle.dump_text.proofs.Digits.{byte}
use Rattle.dump_text.proofs.byte_digits.Goals as goal

pub returns : goal.returns
returns c = c.in-Ok.ensures.written ∙ byte c.args.byte (omega arith)

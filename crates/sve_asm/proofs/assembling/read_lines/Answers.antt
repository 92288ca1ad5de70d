use Rattle.std.proofs.Common.{ap, arith}
use Rattle.sve_asm.specs.Lines.{after_lines}
use Rattle.text_parts.specs.Parts.{lines_of}
use Rattle.sve_asm.proofs.assembling.read_lines.Goals as goal

pub loop-rest-init : goal.loop-rest-init
loop-rest-init c = (ap (after_lines 1 (lines_of c.args.text.now)) c.new-words.ensures.items, omega arith, omega (arith, c.new-words.ensures.len))

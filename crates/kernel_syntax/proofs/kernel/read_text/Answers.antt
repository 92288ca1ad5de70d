use Rattle.std.proofs.Common.{arith}
use Rattle.kernel_syntax.proofs.Outcomes.{words_give_text}
use Rattle.kernel_syntax.proofs.kernel.read_text.Goals as goal

pub returns-in-Ok : goal.returns-in-Ok
returns-in-Ok c = words_give_text c.args.text.now c.in-Ok.tokens.items c.read_words.result (omega arith) c.in-Ok.ensures.tokens (rw c.as_slice.ensures.value at c.read_words.ensures)

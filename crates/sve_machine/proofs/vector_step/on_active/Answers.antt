use Rattle.sve_machine.proofs.RowAnswers.{as_word}
use Rattle.sve_machine.proofs.vector_step.on_active.Goals as goal

pub returns-in-BinaryPredicated : goal.returns-in-BinaryPredicated
returns-in-BinaryPredicated c core kind memory = as_word c.args.word _ core c.args.vectors.now core c.merging.new.vectors c.in-BinaryPredicated.is (c.merging.ensures core) memory

pub returns-in-UnaryPredicated : goal.returns-in-UnaryPredicated
returns-in-UnaryPredicated c core kind memory = as_word c.args.word _ core c.args.vectors.now core c.unary.new.vectors c.in-UnaryPredicated.is (c.unary.ensures core) memory

pub returns-in-Reduction : goal.returns-in-Reduction
returns-in-Reduction c core kind memory = as_word c.args.word _ core c.args.vectors.now core c.reduction.new.vectors c.in-Reduction.is (c.reduction.ensures core) memory

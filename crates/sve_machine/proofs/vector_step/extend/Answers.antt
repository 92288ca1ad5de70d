use Rattle.sve_machine.proofs.RowAnswers.{as_word}
use Rattle.sve_machine.proofs.vector_step.extend.Goals as goal

pub returns-in-ExtendByte : goal.returns-in-ExtendByte
returns-in-ExtendByte c core kind memory = as_word c.args.word _ core c.args.vectors.now core c.extend_byte.new.vectors c.in-ExtendByte.is (c.extend_byte.ensures core) memory

pub returns-in-ExtendHalfword : goal.returns-in-ExtendHalfword
returns-in-ExtendHalfword c core kind memory = as_word c.args.word _ core c.args.vectors.now core c.extend_halfword.new.vectors c.in-ExtendHalfword.is (c.extend_halfword.ensures core) memory

pub returns-in-ExtendWord : goal.returns-in-ExtendWord
returns-in-ExtendWord c core kind memory = as_word c.args.word _ core c.args.vectors.now core c.extend_word.new.vectors c.in-ExtendWord.is (c.extend_word.ensures core) memory

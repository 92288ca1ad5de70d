use Rattle.sve_machine.proofs.RowAnswers.{as_word}
use Rattle.sve_machine.proofs.vector_step.on_registers.Goals as goal

pub returns-in-Ptrue : goal.returns-in-Ptrue
returns-in-Ptrue c kind memory = as_word c.args.word _ c.args.core.now c.args.vectors.now c.args.core.now c.all_true.new.vectors c.in-Ptrue.is (c.all_true.ensures c.args.core.now) memory

pub returns-in-Pfalse : goal.returns-in-Pfalse
returns-in-Pfalse c kind memory = as_word c.args.word _ c.args.core.now c.args.vectors.now c.args.core.now c.all_false.new.vectors c.in-Pfalse.is (c.all_false.ensures c.args.core.now) memory

pub returns-in-Whilelo : goal.returns-in-Whilelo
returns-in-Whilelo c kind memory = as_word c.args.word _ c.args.core.now c.args.vectors.now c.while_below.new.core c.while_below.new.vectors c.in-Whilelo.is c.while_below.ensures memory

pub returns-in-Ptest : goal.returns-in-Ptest
returns-in-Ptest c kind memory = as_word c.args.word _ c.args.core.now c.args.vectors.now c.test.new.core c.args.vectors.now c.in-Ptest.is c.test.ensures memory

pub returns-in-PredicateLogical : goal.returns-in-PredicateLogical
returns-in-PredicateLogical c kind memory = as_word c.args.word _ c.args.core.now c.args.vectors.now c.logic.new.core c.logic.new.vectors c.in-PredicateLogical.is c.logic.ensures memory

pub returns-in-Break : goal.returns-in-Break
returns-in-Break c kind memory = as_word c.args.word _ c.args.core.now c.args.vectors.now c.args.core.now c.break_at.new.vectors c.in-Break.is (c.break_at.ensures c.args.core.now) memory

pub returns-in-Rdffr : goal.returns-in-Rdffr
returns-in-Rdffr c kind memory = as_word c.args.word _ c.args.core.now c.args.vectors.now c.args.core.now c.read_ffr.new.vectors c.in-Rdffr.is (c.read_ffr.ensures c.args.core.now) memory

pub returns-in-RdffrPredicated : goal.returns-in-RdffrPredicated
returns-in-RdffrPredicated c kind memory = as_word c.args.word _ c.args.core.now c.args.vectors.now c.args.core.now c.read_ffr_under.new.vectors c.in-RdffrPredicated.is (c.read_ffr_under.ensures c.args.core.now) memory

pub returns-in-Setffr : goal.returns-in-Setffr
returns-in-Setffr c kind memory = as_word c.args.word _ c.args.core.now c.args.vectors.now c.args.core.now c.set_ffr.new.vectors c.in-Setffr.is (c.set_ffr.ensures c.args.core.now) memory

pub returns-in-Wrffr : goal.returns-in-Wrffr
returns-in-Wrffr c kind memory = as_word c.args.word _ c.args.core.now c.args.vectors.now c.args.core.now c.write_ffr.new.vectors c.in-Wrffr.is (c.write_ffr.ensures c.args.core.now) memory

pub returns-in-ElementCount : goal.returns-in-ElementCount
returns-in-ElementCount c kind memory = as_word c.args.word _ c.args.core.now c.args.vectors.now c.count_elements.new.core c.args.vectors.now c.in-ElementCount.is c.count_elements.ensures memory

pub returns-in-Incp : goal.returns-in-Incp
returns-in-Incp c kind memory = as_word c.args.word _ c.args.core.now c.args.vectors.now c.increment_by_count.new.core c.args.vectors.now c.in-Incp.is c.increment_by_count.ensures memory

pub returns-in-Cntp : goal.returns-in-Cntp
returns-in-Cntp c kind memory = as_word c.args.word _ c.args.core.now c.args.vectors.now c.count_true.new.core c.args.vectors.now c.in-Cntp.is c.count_true.ensures memory

pub returns-in-CompareVectors : goal.returns-in-CompareVectors
returns-in-CompareVectors c kind memory = as_word c.args.word _ c.args.core.now c.args.vectors.now c.compare.new.core c.compare.new.vectors c.in-CompareVectors.is c.compare.ensures memory

use Rattle.sve_machine.proofs.RowAnswers.{as_word}
use Rattle.sve_machine.proofs.vector_step.on_lanes.Goals as goal

pub returns-in-DupScalar : goal.returns-in-DupScalar
returns-in-DupScalar c kind memory = as_word c.args.word _ c.args.core.now c.args.vectors.now c.args.core.now c.duplicate.new.vectors c.in-DupScalar.is c.duplicate.ensures memory

pub returns-in-IndexScalarImmediate : goal.returns-in-IndexScalarImmediate
returns-in-IndexScalarImmediate c kind memory = as_word c.args.word _ c.args.core.now c.args.vectors.now c.args.core.now c.index.new.vectors c.in-IndexScalarImmediate.is c.index.ensures memory

pub returns-in-Sel : goal.returns-in-Sel
returns-in-Sel c kind memory = as_word c.args.word _ c.args.core.now c.args.vectors.now c.args.core.now c.select.new.vectors c.in-Sel.is (c.select.ensures c.args.core.now) memory

pub returns-in-AddSub : goal.returns-in-AddSub
returns-in-AddSub c kind memory = as_word c.args.word _ c.args.core.now c.args.vectors.now c.args.core.now c.add_sub.new.vectors c.in-AddSub.is (c.add_sub.ensures c.args.core.now) memory

pub returns-in-Bitwise : goal.returns-in-Bitwise
returns-in-Bitwise c kind memory = as_word c.args.word _ c.args.core.now c.args.vectors.now c.args.core.now c.bitwise.new.vectors c.in-Bitwise.is (c.bitwise.ensures c.args.core.now) memory

pub returns-in-ShiftImmediate : goal.returns-in-ShiftImmediate
returns-in-ShiftImmediate c kind memory = as_word c.args.word _ c.args.core.now c.args.vectors.now c.args.core.now c.shift.new.vectors c.in-ShiftImmediate.is (c.shift.ensures c.args.core.now) memory

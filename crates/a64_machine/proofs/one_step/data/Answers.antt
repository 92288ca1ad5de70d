use Rattle.std.proofs.Common.{ap, ◌∙◌}
use Rattle.a64_code.specs.View.{instruction_view}
use Rattle.machine_model.specs.InstructionTable.{Scalar}
use Rattle.machine_model.specs.OneStep.{does}
use Rattle.a64_machine.specs.Cores.{state_of}
use Rattle.a64_machine.proofs.one_step.data.Goals as goal

pub returns-in-AddSubImmediate : goal.returns-in-AddSubImmediate
returns-in-AddSubImmediate c memory rest kind vector =
    ap (λ w. does (Scalar (instruction_view w)) (state_of c.args.core.now memory rest)) c.in-AddSubImmediate.is ∙ c.add_sub_immediate.ensures memory rest

pub returns-in-AddSubShifted : goal.returns-in-AddSubShifted
returns-in-AddSubShifted c memory rest kind vector =
    ap (λ w. does (Scalar (instruction_view w)) (state_of c.args.core.now memory rest)) c.in-AddSubShifted.is ∙ c.add_sub_shifted.ensures memory rest

pub returns-in-LogicalShifted : goal.returns-in-LogicalShifted
returns-in-LogicalShifted c memory rest kind vector =
    ap (λ w. does (Scalar (instruction_view w)) (state_of c.args.core.now memory rest)) c.in-LogicalShifted.is ∙ c.logical.ensures memory rest

pub returns-in-MultiplyAdd : goal.returns-in-MultiplyAdd
returns-in-MultiplyAdd c memory rest kind vector =
    ap (λ w. does (Scalar (instruction_view w)) (state_of c.args.core.now memory rest)) c.in-MultiplyAdd.is ∙ c.multiply_add.ensures memory rest

pub returns-in-ShiftVariable : goal.returns-in-ShiftVariable
returns-in-ShiftVariable c memory rest kind vector =
    ap (λ w. does (Scalar (instruction_view w)) (state_of c.args.core.now memory rest)) c.in-ShiftVariable.is ∙ c.shift_variable.ensures memory rest

use Rattle.std.proofs.Common.{ap, ◌∙◌}
use Rattle.a64_code.specs.View.{instruction_view}
use Rattle.machine_model.specs.InstructionTable.{Scalar}
use Rattle.machine_model.specs.OneStep.{does}
use Rattle.a64_machine.specs.Cores.{state_of}
use Rattle.a64_machine.proofs.one_step.moved.Goals as goal

pub returns-in-MoveWide : goal.returns-in-MoveWide
returns-in-MoveWide c memory rest kind vector =
    ap (λ w. does (Scalar (instruction_view w)) (state_of c.args.core.now memory rest)) c.in-MoveWide.is ∙ c.move_wide.ensures memory rest

pub returns-in-Bitfield : goal.returns-in-Bitfield
returns-in-Bitfield c memory rest kind vector =
    ap (λ w. does (Scalar (instruction_view w)) (state_of c.args.core.now memory rest)) c.in-Bitfield.is ∙ c.bitfield.ensures memory rest

pub returns-in-ConditionalSelect : goal.returns-in-ConditionalSelect
returns-in-ConditionalSelect c memory rest kind vector =
    ap (λ w. does (Scalar (instruction_view w)) (state_of c.args.core.now memory rest)) c.in-ConditionalSelect.is ∙ c.conditional_select.ensures memory rest

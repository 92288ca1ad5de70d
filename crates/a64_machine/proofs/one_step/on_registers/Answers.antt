use Rattle.std.proofs.Common.{sym, ap, ◌∙◌}
use Rattle.a64_code.specs.View.{instruction_view}
use Rattle.machine_model.specs.InstructionTable.{Scalar}
use Rattle.machine_model.specs.Machine.{Went}
use Rattle.machine_model.specs.OneStep.{does}
use Rattle.a64_machine.specs.Cores.{state_of}
use Rattle.a64_machine.proofs.one_step.on_registers.Goals as goal

pub returns-in-BranchConditional : goal.returns-in-BranchConditional
returns-in-BranchConditional c memory rest kind vector =
    ap (λ w. does (Scalar (instruction_view w)) (state_of c.args.core.now memory rest)) c.in-BranchConditional.is ∙ c.branch_conditional.ensures memory rest

pub returns-in-CompareBranch : goal.returns-in-CompareBranch
returns-in-CompareBranch c memory rest kind vector =
    ap (λ w. does (Scalar (instruction_view w)) (state_of c.args.core.now memory rest)) c.in-CompareBranch.is ∙ c.compare_branch.ensures memory rest

pub returns-in-Ret : goal.returns-in-Ret
returns-in-Ret c memory rest kind vector =
    ap (λ w. does (Scalar (instruction_view w)) (state_of c.args.core.now memory rest)) c.in-Ret.is ∙ ap (λ k. Went (state_of k memory rest)) (sym c.return_to.ensures)

pub returns-in-Nop : goal.returns-in-Nop
returns-in-Nop c memory rest kind vector =
    ap (λ w. does (Scalar (instruction_view w)) (state_of c.args.core.now memory rest)) c.in-Nop.is ∙ ap (λ k. Went (state_of k memory rest)) (sym c.go_on.ensures)

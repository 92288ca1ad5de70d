use Rattle.std.proofs.Common.{List, sym, ap, ap₂, ◌∙◌}
use Rattle.kernel_tree.specs.declared.ast.Kernel.{Kernel}
use Rattle.kernel_tree.specs.declared.ast.Param.{Param}
use Rattle.kernel_tree.specs.Plain.{program_of, parameters_of}
use Rattle.kernel_tree.specs.Checked.{kernel_of}
use Rattle.kernel_meaning.specs.ScalarRun.{argument_names}
use Rattle.kernel_eval.specs.Slots.{Slots}
use Rattle.kernel_plan.specs.Plans.{Planned, planned}
use Rattle.kernel_eval.specs.SlotRuns.{filled, slot_run}
use Rattle.kernel_eval.proofs.ResolvedRuns.{planned-same}
use Rattle.kernel_eval.proofs.LimitedRuns.{run-outcome, checked-room}
use Rattle.kernel_eval.proofs.evaluator.scalar_run.Goals as goal

pub returns-clause-outcome : goal.returns-clause-outcome
returns-clause-outcome g c =
    let k = program_of (kernel_of c.args.kernel.now) in
    let args = c.args.args.now in
    let limit = c.args.limit in
    let memory = g.M.GuestMemory.memory c.args.memory.now in
    let plan = c.in_ok-plan.ensures ∙ ap (λ (x : Kernel). planned (program_of x)) c.kernel-kernel.ensures in
    let params = c.deref.ensures.value ∙ ap (λ (x : Kernel). x.params.items) c.kernel-kernel.ensures in
    let slots = c.deref_mut.ensures.value ∙ c.in_ok-slots.ensures ∙ ap (λ (ps : List Param). filled (argument_names (parameters_of ps) args)) params in
    run-outcome k args limit memory c.run-outcome.result (g.M.GuestMemory.memory c.run-outcome.new.memory)
    (c.run-outcome.ensures ∙ ap₂ (λ (p : Planned) (vs : Slots). slot_run p limit memory vs) plan slots ∙ sym (planned-same k args limit memory (checked-room k c.args.kernel.now.typed)))

use Rattle.std.proofs.Common.{◌+◌, List, refl, ap, sym, ◌∙◌, arith, Some, drop}
use Rattle.std.proofs.Math.ListN.{drop_of_length-le}
use Rattle.kernel_plan.specs.declared.step.Step.{Step}
use Rattle.kernel_plan.specs.Trees.{Task, tree_of, tasks_of, task_of, task_depth, tasks_depth}
use Rattle.kernel_eval.specs.Slots.{set_slot, quit, do_task, do_tasks}
use Rattle.kernel_plan.proofs.StepLists.{if-is}
use Rattle.kernel_eval.proofs.StepWalks.{next_step, step_below, less_deep, steps_on}
use Rattle.kernel_eval.proofs.Branches.{branch-none, branch-true, branch-false}
use Rattle.kernel_eval.proofs.perform.+steps.Goals as goal

pub perform_step-perform-requires : goal.perform_step-perform-requires
perform_step-perform-requires g t c κs within =
    let i = c.in-If in
    let z = ap task_depth (ap task_of i.is ∙ if-is i.cond i.yes i.no) in
    let b = ap (λ (s : List Step). tasks_depth (tasks_of s)) c.deref.ensures.value in
    (omega (arith, z, b), within)

pub perform_step-perform-requires-in-Some-false : goal.perform_step-perform-requires-in-Some-false
perform_step-perform-requires-in-Some-false g t c κs within =
    let i = c.in-If in
    let z = ap task_depth (ap task_of i.is ∙ if-is i.cond i.yes i.no) in
    let b = ap (λ (s : List Step). tasks_depth (tasks_of s)) c.deref-in-Some-false.ensures.value in
    (omega (arith, z, b), within)

pub perform_step-returns-in-Some-true : goal.perform_step-returns-in-Some-true
perform_step-returns-in-Some-true g t c =
    let i = c.in-If in
    let memory = g.M.GuestMemory.memory c.args.memory.now in
    let z = ap task_of i.is ∙ if-is i.cond i.yes i.no in
    let h = sym c.holds.ensures ∙ c.in-Some-true.is ∙ ap Some c.in-Some-true.field-0-test in
    c.perform.ensures ∙ ap (λ (s : List Step). do_tasks (tasks_of s) memory c.args.slots.now) c.deref.ensures.value ∙ branch-true (task_of c.args.step.now) (tree_of i.cond) (tasks_of i.yes.items) (tasks_of i.no.items) memory c.args.slots.now z h

pub perform_step-returns-in-Some-false : goal.perform_step-returns-in-Some-false
perform_step-returns-in-Some-false g t c =
    let i = c.in-If in
    let memory = g.M.GuestMemory.memory c.args.memory.now in
    let z = ap task_of i.is ∙ if-is i.cond i.yes i.no in
    let h = sym c.holds.ensures ∙ c.in-Some-false.is ∙ ap Some c.in-Some-false.field-0-test in
    c.perform-in-Some-false.ensures ∙ ap (λ (s : List Step). do_tasks (tasks_of s) memory c.args.slots.now) c.deref-in-Some-false.ensures.value ∙ branch-false (task_of c.args.step.now) (tree_of i.cond) (tasks_of i.yes.items) (tasks_of i.no.items) memory c.args.slots.now z h

-- ---- a step by its kind

pub perform_step-returns-in-Set : goal.perform_step-returns-in-Set
perform_step-returns-in-Set g t c =
    c.set_slot.ensures (g.M.GuestMemory.memory c.args.memory.now) ∙ ap (set_slot c.in-Set.slot (g.M.GuestMemory.memory c.args.memory.now) c.args.slots.now) c.value-found.ensures ∙ sym (ap (λ (a : Task). do_task a (g.M.GuestMemory.memory c.args.memory.now) c.args.slots.now) (ap task_of c.in-Set.is))

pub perform_step-returns-in-Break : goal.perform_step-returns-in-Break
perform_step-returns-in-Break g t c =
    c.leave.ensures (g.M.GuestMemory.memory c.args.memory.now) c.args.slots.now ∙ ap (quit (g.M.GuestMemory.memory c.args.memory.now) c.args.slots.now) c.holds-in-Break.ensures ∙ sym (ap (λ (a : Task). do_task a (g.M.GuestMemory.memory c.args.memory.now) c.args.slots.now) (ap task_of c.in-Break.is))

pub perform_step-returns-in-None : goal.perform_step-returns-in-None
perform_step-returns-in-None g t c =
    let i = c.in-If in
    let z = ap task_of i.is ∙ if-is i.cond i.yes i.no in
    branch-none (task_of c.args.step.now) (tree_of i.cond) (tasks_of i.yes.items) (tasks_of i.no.items) (g.M.GuestMemory.memory c.args.memory.now) c.args.slots.now z (sym c.holds.ensures ∙ c.in-None.is)

-- ---- steps, one after another

pub perform-loop-step-init : goal.perform-loop-step-init
perform-loop-step-init g t c = record { depth = omega arith; rest = refl }

pub perform-perform_step-requires : goal.perform-perform_step-requires
perform-perform_step-requires g t c κs within =
    let l = c.loop-step in
    let e = next_step c.args.steps.now l.step-index c.step-item.result c.loop-step-test.true c.step-item.is in
    (step_below t (tasks_of c.args.steps.now) (tasks_of (drop l.step-index c.args.steps.now)) (tasks_of (drop (l.step-index + 1) c.args.steps.now)) (task_of c.step-item.result) c.decreases l.invariant.depth e, within)

pub perform-loop-step-preserved : goal.perform-loop-step-preserved
perform-loop-step-preserved g t c =
    let l = c.loop-step in
    let e = next_step c.args.steps.now l.step-index c.step-item.result c.loop-step-test.true c.step-item.is in
    record {
      depth = less_deep (tasks_of c.args.steps.now) (tasks_of (drop l.step-index c.args.steps.now)) (tasks_of (drop (l.step-index + 1) c.args.steps.now)) (task_of c.step-item.result) l.invariant.depth e;
      rest = steps_on (tasks_of (drop l.step-index c.args.steps.now)) (tasks_of (drop (l.step-index + 1) c.args.steps.now)) (task_of c.step-item.result) (g.M.GuestMemory.memory l.memory) l.slots _ e c.in-Next.ensures ∙ l.invariant.rest;
    }

pub perform-returns-in-Broke : goal.perform-returns-in-Broke
perform-returns-in-Broke g t c =
    let l = c.loop-step in
    let e = next_step c.args.steps.now l.step-index c.step-item.result c.loop-step-test.true c.step-item.is in
    steps_on (tasks_of (drop l.step-index c.args.steps.now)) (tasks_of (drop (l.step-index + 1) c.args.steps.now)) (task_of c.step-item.result) (g.M.GuestMemory.memory l.memory) l.slots _ e c.in-Broke.ensures ∙ l.invariant.rest

pub perform-returns-in-Faulted : goal.perform-returns-in-Faulted
perform-returns-in-Faulted g t c =
    let l = c.loop-step in
    let e = next_step c.args.steps.now l.step-index c.step-item.result c.loop-step-test.true c.step-item.is in
    steps_on (tasks_of (drop l.step-index c.args.steps.now)) (tasks_of (drop (l.step-index + 1) c.args.steps.now)) (task_of c.step-item.result) (g.M.GuestMemory.memory l.memory) l.slots _ e c.in-Faulted.ensures ∙ l.invariant.rest

pub perform-returns : goal.perform-returns
perform-returns g t c =
    let l = c.loop-step in
    sym (ap (λ (xs : List Step). do_tasks (tasks_of xs) (g.M.GuestMemory.memory l.memory) l.slots) (drop_of_length-le c.args.steps.now c.loop-step-test.false)) ∙ l.invariant.rest

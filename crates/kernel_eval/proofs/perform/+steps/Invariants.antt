use Rattle.std.proofs.Common.{◌≡◌, ◌+◌, ◌*◌, ◌≤◌, drop}
use Rattle.kernel_plan.specs.Trees.{task_of, tasks_of, task_depth, tasks_depth}
use Rattle.kernel_eval.specs.Slots as meaning
use Rattle.kernel_eval.proofs.perform.+steps.Given as goal

abbrev pub invariant-perform-loop-step : goal.invariant-perform-loop-step
invariant-perform-loop-step g l = record {
  depth : tasks_depth (tasks_of (drop l.step-index l.steps)) ≤ tasks_depth (tasks_of l.steps);
  rest : meaning.do_tasks (tasks_of (drop l.step-index l.steps)) (g.M.GuestMemory.memory l.memory) l.slots ≡ meaning.do_tasks (tasks_of l.steps) (g.M.GuestMemory.memory l.fn.memory) l.fn.slots;
}

-- steps stand above each of them, and an `if` above its blocks
abbrev pub decreases-perform_step : goal.decreases-perform_step
decreases-perform_step g l = 2 * task_depth (task_of l.step.now)

abbrev pub decreases-perform : goal.decreases-perform
decreases-perform g l = 2 * tasks_depth (tasks_of l.steps.now) + 1

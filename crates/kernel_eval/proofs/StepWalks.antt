-- One step of a walk over steps.
use Rattle.std.proofs.Common.{◌≡◌, ℕ, ◌+◌, ◌*◌, ◌<◌, ◌≤◌, List, length, drop, get_or, sym, ap, ◌∙◌, arith}
use Rattle.guest_types.specs.Memory.{Memory}
use Rattle.kernel_tree.proofs.Walks.{next_item}
use Rattle.kernel_meaning.specs.Ends.{BlockEnd}
use Rattle.kernel_plan.specs.declared.step.Step.{Step}
use Rattle.kernel_plan.specs.Trees.{Task, Tasks, Then, task_of, tasks_of, task_depth, tasks_depth}
use Rattle.kernel_eval.specs.Slots.{Slots, then_go, do_task, do_tasks}

pub next_step : (xs : List Step) (i : ℕ) (x : Step) → i < length xs → x ≡ get_or xs i x → tasks_of (drop i xs) ≡ Then (task_of x) (tasks_of (drop (i + 1) xs))
next_step xs i x h g = ap tasks_of (next_item xs i x h g)

pub step_below : (t : ℕ) (whole x more : Tasks) (a : Task) → 2 * tasks_depth whole + 1 ≡ t → tasks_depth x ≤ tasks_depth whole → x ≡ Then a more → 2 * task_depth a < t
step_below t whole x more a falls depth is = let deep = ap tasks_depth is in omega (arith, falls, depth, deep)

pub less_deep : (whole x more : Tasks) (a : Task) → tasks_depth x ≤ tasks_depth whole → x ≡ Then a more → tasks_depth more ≤ tasks_depth whole
less_deep whole x more a depth is = let deep = ap tasks_depth is in omega (arith, depth, deep)

-- after a step the walk goes on at the next, or it ends
pub steps_on : (x more : Tasks) (a : Task) (m : Memory) (vs : Slots) (stand : BlockEnd Slots) → x ≡ Then a more → stand ≡ do_task a m vs → then_go stand (do_tasks more) ≡ do_tasks x m vs
steps_on x more a m vs stand is e = ap (λ s. then_go s (do_tasks more)) e ∙ sym (ap (λ ts. do_tasks ts m vs) is)

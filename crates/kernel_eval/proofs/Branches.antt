-- What the branch that is taken does.
use Rattle.std.proofs.Common.{◌≡◌, true, false, None, Some, sym, ap, ◌∙◌}
use Rattle.guest_types.specs.Memory.{Memory}
use Rattle.kernel_meaning.specs.Ends.{Faulted}
use Rattle.kernel_plan.specs.Trees.{Tree, Task, Tasks, If}
use Rattle.kernel_eval.specs.Slots.{Slots, tree_holds, branch, do_task, do_tasks}

pub branch-true : (t : Task) (c : Tree) (a b : Tasks) (memory : Memory) (slots : Slots) → t ≡ If c a b → tree_holds c memory slots ≡ Some true → do_tasks a memory slots ≡ do_task t memory slots
branch-true t c a b memory slots z h =
    sym (ap (λ t. do_task t memory slots) z ∙ ap (λ o. branch memory o (do_tasks a memory slots) (do_tasks b memory slots)) h)

pub branch-false : (t : Task) (c : Tree) (a b : Tasks) (memory : Memory) (slots : Slots) → t ≡ If c a b → tree_holds c memory slots ≡ Some false → do_tasks b memory slots ≡ do_task t memory slots
branch-false t c a b memory slots z h =
    sym (ap (λ t. do_task t memory slots) z ∙ ap (λ o. branch memory o (do_tasks a memory slots) (do_tasks b memory slots)) h)

pub branch-none : (t : Task) (c : Tree) (a b : Tasks) (memory : Memory) (slots : Slots) → t ≡ If c a b → tree_holds c memory slots ≡ None → Faulted memory ≡ do_task t memory slots
branch-none t c a b memory slots z h =
    sym (ap (λ t. do_task t memory slots) z ∙ ap (λ o. branch memory o (do_tasks a memory slots) (do_tasks b memory slots)) h)

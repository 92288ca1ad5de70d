-- A row of steps as a list.
use Rattle.std.proofs.Common.{◌≡◌, Vec, Global, refl, ap, ap₂, ◌∙◌}
use Rattle.kernel_plan.specs.declared.node.Node.{Node}
use Rattle.kernel_plan.specs.declared.step.Step.{Step, Row_of-Step, end_of-Step, more_of-Step, items-the_row-Step, items_hidden-the_row-Step-0}
use Rattle.kernel_plan.specs.declared.step.Step.TheBlock.{hidden-the_row-Step-0}
use Rattle.kernel_plan.specs.declared.step.Step.TheVariants as step
use Rattle.kernel_plan.specs.Trees.{Tree, Tasks, Then, If, tree_of, task_of, row_of, tasks_of}

rows : (m : _) (k : Row_of-Step m) → row_of k ≡ tasks_of (items-the_row-Step m k)
rows m end_of-Step = refl
rows m (more_of-Step s rest) = ap (λ (b : Tasks). Then (task_of s) b) (rows _ rest)

-- the steps of a vector inside a step are those of the vector
held_rows : (v : Vec Step Global) → row_of (hidden-the_row-Step-0 v) ≡ tasks_of v.items
held_rows v = rows _ (hidden-the_row-Step-0 v) ∙ ap tasks_of (items_hidden-the_row-Step-0 v)

pub if-is : (c : Node) (v w : Vec Step Global) → task_of (step.If c v w) ≡ If (tree_of c) (tasks_of v.items) (tasks_of w.items)
if-is c v w = ap₂ (λ (a b : Tasks). If (tree_of c) a b) (held_rows v) (held_rows w)

-- a step with resolved parts
pub if-resolved : (c : Node) (v w : Vec Step Global) (t : Tree) (a b : Tasks) → tree_of c ≡ t → tasks_of v.items ≡ a → tasks_of w.items ≡ b → task_of (step.If c v w) ≡ If t a b
if-resolved c v w t a b e f g = if-is c v w ∙ ap (λ t. If t (tasks_of v.items) (tasks_of w.items)) e ∙ ap₂ (If t) f g

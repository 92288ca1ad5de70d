-- A resolved kernel as plain data: an expression with its types, in which a name is a slot, and what the statements do.
use Rattle.std.specs.Prelude.{ℕ, ◌+◌, max, ℤ, Bool, List, [], ◌∷◌, Option}
use Rattle.kernel_tree.specs.declared.ops.Ty.{Ty}
use Rattle.kernel_tree.specs.declared.ops.UnaryOp.{UnaryOp}
use Rattle.kernel_tree.specs.declared.ops.BinaryOp.{BinaryOp}
use Rattle.kernel_tree.specs.declared.ops.CompareOp.{CompareOp}
use Rattle.kernel_plan.specs.declared.node.Node.{Node}
use Rattle.kernel_plan.specs.declared.node.Node.TheVariants as node
use Rattle.kernel_plan.specs.declared.step.Step.{Step, Row_of-Step, end_of-Step, more_of-Step}
use Rattle.kernel_plan.specs.declared.step.Step.TheVariants as step

pub data Tree : Type 0 where
  Constant : ℤ → Tree
  Slot : ℕ → Tree
  -- the slot of an array's address, the type of its elements, the slot of the loop variable, and the offset from it
  Stream : ℕ → Option Ty → ℕ → ℤ → Tree
  -- the slot of an array's address, the type of its elements, and the number of the element
  Element : ℕ → Option Ty → Tree → Tree
  Unary : UnaryOp → Option Ty → Tree → Tree
  Binary : BinaryOp → Option Ty → Tree → Tree → Tree
  Shift : Bool → ℤ → Option Ty → Tree → Tree
  Cast : Ty → Tree → Tree
  Select : Tree → Tree → Tree → Tree
  Compare : CompareOp → Tree → Tree → Tree
  And : Tree → Tree → Tree
  Or : Tree → Tree → Tree
  Not : Tree → Tree

mutual
  pub data Task : Type 0 where
    Set : ℕ → Tree → Task
    -- the slot of an array's address, the type of its elements, the slot of the loop variable, the offset from it, and the new value
    Put : ℕ → Option Ty → ℕ → ℤ → Tree → Task
    -- the slot of an array's address, the type of its elements, the number of the element, and its new value
    Store : ℕ → Option Ty → Tree → Tree → Task
    If : Tree → Tasks → Tasks → Task
    Break : Tree → Task

  pub data Tasks : Type 0 where
    Done : Tasks
    Then : Task → Tasks → Tasks

abbrev pub tree_of : Node → Tree
tree_of (node.Constant z) = Constant z
tree_of (node.Slot n) = Slot n
tree_of (node.Stream base t n c) = Stream base t n c
tree_of (node.Element' base t p e) = Element base t (tree_of e)
tree_of (node.Unary' op t p e) = Unary op t (tree_of e)
tree_of (node.Binary' op t p a q b) = Binary op t (tree_of a) (tree_of b)
tree_of (node.Shift' left n t p e) = Shift left n t (tree_of e)
tree_of (node.Cast' t p e) = Cast t (tree_of e)
tree_of (node.Select' p c q a r b) = Select (tree_of c) (tree_of a) (tree_of b)
tree_of (node.Compare' op p a q b) = Compare op (tree_of a) (tree_of b)
tree_of (node.And' p a q b) = And (tree_of a) (tree_of b)
tree_of (node.Or' p a q b) = Or (tree_of a) (tree_of b)
tree_of (node.Not' p e) = Not (tree_of e)

abbrev mutual
  pub task_of : Step → Task
  task_of (step.Set n e) = Set n (tree_of e)
  task_of (step.Put base t n c e) = Put base t n c (tree_of e)
  task_of (step.Store base t i e) = Store base t (tree_of i) (tree_of e)
  task_of (step.If' c shape one form other) = If (tree_of c) (row_of one) (row_of other)
  task_of (step.Break c) = Break (tree_of c)

  pub row_of : {m : _} → Row_of-Step m → Tasks
  row_of end_of-Step = Done
  row_of (more_of-Step s rest) = Then (task_of s) (row_of rest)

abbrev pub tasks_of : List Step → Tasks
tasks_of [] = Done
tasks_of (s ∷ rest) = Then (task_of s) (tasks_of rest)

-- tasks and then others
abbrev pub followed : Tasks → Tasks → Tasks
followed Done ts = ts
followed (Then t rest) ts = Then t (followed rest ts)

-- how deep the tasks of a list lie in each other
abbrev mutual
  pub task_depth : Task → ℕ
  task_depth (If c one other) = max (tasks_depth one) (tasks_depth other) + 1
  task_depth other = 1

  pub tasks_depth : Tasks → ℕ
  tasks_depth Done = 0
  tasks_depth (Then t rest) = max (task_depth t) (tasks_depth rest)

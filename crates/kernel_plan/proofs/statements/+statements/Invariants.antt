use Rattle.std.proofs.Common.{◌≡◌, ◌+◌, ◌*◌, ◌≤◌, drop}
use Rattle.std.specs.Prelude.{max}
use Rattle.kernel_tree.specs.Plain.{action_of, block_of}
use Rattle.kernel_tree.specs.Limits.{action_depth, block_depth}
use Rattle.kernel_tree.specs.Typing as typing
use Rattle.kernel_scope.specs.Scopes.{scope_of}
use Rattle.kernel_plan.specs.Trees.{tasks_of, followed}
use Rattle.kernel_plan.specs.Resolve as resolving
use Rattle.kernel_plan.proofs.statements.+statements.Given as goal

-- what is left of the statements leads from here to where they all lead
abbrev pub invariant-resolve_block-loop-stmt : goal.invariant-resolve_block-loop-stmt
invariant-resolve_block-loop-stmt l = record {
  depth : block_depth (block_of (drop l.stmt-index l.block)) ≤ block_depth (block_of l.block);
  scope : typing.after_block (scope_of l.scope) (block_of (drop l.stmt-index l.block)) ≡ typing.after_block (scope_of l.fn.scope) (block_of l.block);
  steps : followed (tasks_of l.steps.items) (resolving.resolved_block (scope_of l.scope) (block_of (drop l.stmt-index l.block))) ≡ resolving.resolved_block (scope_of l.fn.scope) (block_of l.block);
}

-- a block stands above its statements, and an `if` above its blocks
abbrev pub decreases-resolve_stmt : goal.decreases-resolve_stmt
decreases-resolve_stmt l = 4 * action_depth (action_of l.stmt.now)

abbrev pub decreases-resolve_if : goal.decreases-resolve_if
decreases-resolve_if l = 4 * max (block_depth (block_of l.block.now)) (block_depth (block_of l.other.now)) + 3

abbrev pub decreases-resolve_inner : goal.decreases-resolve_inner
decreases-resolve_inner l = 4 * block_depth (block_of l.block.now) + 2

abbrev pub decreases-resolve_block : goal.decreases-resolve_block
decreases-resolve_block l = 4 * block_depth (block_of l.block.now) + 1

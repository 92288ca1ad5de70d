use Rattle.std.proofs.Common.{◌≡◌, ◌+◌, ◌*◌, ◌≤◌, drop}
use Rattle.std.specs.Prelude.{max, option_map}
use Rattle.kernel_tree.specs.Plain.{action_of, block_of}
use Rattle.kernel_tree.specs.Items as items
use Rattle.kernel_tree.specs.Limits.{action_depth, block_depth}
use Rattle.kernel_scope.specs.Scopes.{lent_text}
use Rattle.kernel_size.proofs.size.+sizes.Given as goal

abbrev pub invariant-block_size-loop-stmt : goal.invariant-block_size-loop-stmt
invariant-block_size-loop-stmt l = record {
  depth : block_depth (block_of (drop l.stmt-index l.block)) ≤ block_depth (block_of l.block);
  size : l.size + items.block_size (option_map lent_text l.index) (block_of (drop l.stmt-index l.block)) ≡ items.block_size (option_map lent_text l.index) (block_of l.block);
}

-- a block stands above its statements, and an `if` above its blocks
abbrev pub decreases-stmt_size : goal.decreases-stmt_size
decreases-stmt_size l = 3 * action_depth (action_of l.stmt.now)

abbrev pub decreases-if_size : goal.decreases-if_size
decreases-if_size l = 3 * block_depth (block_of l.block.now) + 2

abbrev pub decreases-if_else_size : goal.decreases-if_else_size
decreases-if_else_size l = 3 * max (block_depth (block_of l.block.now)) (block_depth (block_of l.other.now)) + 2

abbrev pub decreases-block_size : goal.decreases-block_size
decreases-block_size l = 3 * block_depth (block_of l.block.now) + 1

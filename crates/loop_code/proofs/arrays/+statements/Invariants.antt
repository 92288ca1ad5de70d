use Rattle.std.proofs.Common.{◌≡◌, ◌+◌, ◌*◌, ◌≤◌, drop}
use Rattle.kernel_tree.specs.Plain.{action_of, block_of}
use Rattle.kernel_tree.specs.Limits.{action_depth, block_depth}
use Rattle.kernel_scope.specs.Scopes.{scope_of}
use Rattle.scalar_words.specs.View.{looses_of}
use Rattle.loop_code.specs.Loosening.{block_arrays}
use Rattle.loop_code.proofs.arrays.+statements.Given as goal

-- what is left of the statements leads from here to where they all lead
abbrev pub invariant-add_block-loop-stmt : goal.invariant-add_block-loop-stmt
invariant-add_block-loop-stmt l = record {
  depth : block_depth (block_of (drop l.stmt-index l.block)) ≤ block_depth (block_of l.block);
  loose : block_arrays (scope_of l.scope) (block_of (drop l.stmt-index l.block)) (looses_of l.loose.items) ≡ block_arrays (scope_of l.scope) (block_of l.block) (looses_of l.fn.loose.items);
}

-- a block stands above its statements
abbrev pub decreases-add_stmt : goal.decreases-add_stmt
decreases-add_stmt l = 2 * action_depth (action_of l.stmt.now)

abbrev pub decreases-add_block : goal.decreases-add_block
decreases-add_block l = 2 * block_depth (block_of l.block.now) + 1

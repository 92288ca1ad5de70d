use Rattle.std.proofs.Common.{◌≡◌, ◌+◌, ◌*◌, ◌≤◌, drop}
use Rattle.std.specs.Prelude.{◌&&◌}
use Rattle.kernel_tree.specs.Plain.{action_of, block_of}
use Rattle.kernel_tree.specs.Limits.{action_depth, block_depth}
use Rattle.kernel_scope.specs.Scopes.{scope_of}
use Rattle.scalar_words.specs.View.{looses_of}
use Rattle.kernel_tree.specs.Typing as typing
use Rattle.loop_code.specs.Loosening as loosening
use Rattle.loop_code.proofs.loosening.+statements.Given as goal

-- what is left of the statements leads from here to where they all lead
abbrev pub invariant-covers_block-loop-stmt : goal.invariant-covers_block-loop-stmt
invariant-covers_block-loop-stmt l = record {
  depth : block_depth (block_of (drop l.stmt-index l.block)) ≤ block_depth (block_of l.block);
  scope : typing.after_block (scope_of l.scope) (block_of (drop l.stmt-index l.block)) ≡ typing.after_block (scope_of l.fn.scope) (block_of l.block);
  covers : (l.covered && loosening.covers_block (looses_of l.loose) (scope_of l.scope) (block_of (drop l.stmt-index l.block))) ≡ (l.before && loosening.covers_block (looses_of l.loose) (scope_of l.fn.scope) (block_of l.block));
}

-- a block stands above its statements
abbrev pub decreases-covers_stmt : goal.decreases-covers_stmt
decreases-covers_stmt l = 3 * action_depth (action_of l.stmt.now)

abbrev pub decreases-covers_inner : goal.decreases-covers_inner
decreases-covers_inner l = 3 * block_depth (block_of l.block.now) + 2

abbrev pub decreases-covers_block : goal.decreases-covers_block
decreases-covers_block l = 3 * block_depth (block_of l.block.now) + 1

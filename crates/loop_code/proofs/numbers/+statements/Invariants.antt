use Rattle.std.proofs.Common.{◌≡◌, ◌+◌, ◌*◌, ◌≤◌, drop}
use Rattle.kernel_tree.specs.Plain.{action_of, block_of}
use Rattle.kernel_tree.specs.Limits.{action_depth, block_depth}
use Rattle.kernel_scope.specs.Scopes.{scope_of}
use Rattle.scalar_words.specs.View.{constants_of, homes_of}
use Rattle.loop_code.specs.LoopNumbers.{hold_block}
use Rattle.loop_code.proofs.numbers.+statements.Given as goal

-- what is left of the statements leads from here to where they all lead
abbrev pub invariant-hold_block-loop-stmt : goal.invariant-hold_block-loop-stmt
invariant-hold_block-loop-stmt l = record {
  depth : block_depth (block_of (drop l.stmt-index l.block)) ≤ block_depth (block_of l.block);
  constants : hold_block l.params (homes_of l.homes) (scope_of l.scope) (block_of (drop l.stmt-index l.block)) (constants_of l.constants.items) ≡ hold_block l.params (homes_of l.homes) (scope_of l.scope) (block_of l.block) (constants_of l.fn.constants.items);
}

-- a block stands above its statements
abbrev pub decreases-hold_stmt : goal.decreases-hold_stmt
decreases-hold_stmt l = 2 * action_depth (action_of l.stmt.now)

abbrev pub decreases-hold_block : goal.decreases-hold_block
decreases-hold_block l = 2 * block_depth (block_of l.block.now) + 1

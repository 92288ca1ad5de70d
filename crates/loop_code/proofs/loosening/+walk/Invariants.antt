use Rattle.std.proofs.Common.{◌≡◌, ◌+◌, ◌*◌, ◌≤◌, drop}
use Rattle.kernel_tree.specs.Plain.{action_of, block_of}
use Rattle.kernel_tree.specs.Limits.{action_depth, block_depth}
use Rattle.kernel_scope.specs.Scopes.{scope_of, in_body}
use Rattle.scalar_words.specs.View.{looses_of}
use Rattle.loop_code.specs.Loosening as loosening
use Rattle.loop_code.proofs.loosening.+walk.Given as goal

-- what is left of the statements leads from here to where they all lead
abbrev pub invariant-loosen_block-loop-stmt : goal.invariant-loosen_block-loop-stmt
invariant-loosen_block-loop-stmt l = record {
  depth : block_depth (block_of (drop l.stmt-index l.block)) ≤ block_depth (block_of l.block);
  scope : scope_of l.scope ≡ scope_of l.fn.scope;
  loose : loosening.loosen_block (in_body (scope_of l.scope)) (block_of l.body) (block_of (drop l.stmt-index l.block)) (looses_of l.loose.items) ≡ loosening.loosen_block (in_body (scope_of l.fn.scope)) (block_of l.body) (block_of l.block) (looses_of l.fn.loose.items);
}

-- a block stands above its statements
abbrev pub decreases-loosen_stmt : goal.decreases-loosen_stmt
decreases-loosen_stmt l = 2 * action_depth (action_of l.stmt.now)

abbrev pub decreases-loosen_block : goal.decreases-loosen_block
decreases-loosen_block l = 2 * block_depth (block_of l.block.now) + 1

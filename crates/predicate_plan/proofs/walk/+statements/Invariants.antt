use Rattle.std.proofs.Common.{◌≡◌, ◌+◌, ◌*◌, ◌≤◌, ◌++◌, drop}
use Rattle.std.specs.Prelude.{length, max}
use Rattle.kernel_tree.specs.Plain.{action_of, block_of}
use Rattle.kernel_tree.specs.Limits.{action_depth, block_depth}
use Rattle.kernel_tree.specs.Items.{loop_index, block_size}
use Rattle.loop_form.specs.View.{program}
use Rattle.predicate_plan.specs.Masks.{block_masks}
use Rattle.predicate_plan.proofs.walk.+statements.Given as goal

abbrev pub invariant-plan_block-loop-stmt : goal.invariant-plan_block-loop-stmt
invariant-plan_block-loop-stmt l = record {
  depth : block_depth (block_of (drop l.stmt-index l.block)) ≤ block_depth (block_of l.block);
  counted : length l.plan + block_size (loop_index (program l.fn.kernel)) (block_of (drop l.stmt-index l.block)) ≡ length l.fn.plan + block_size (loop_index (program l.fn.kernel)) (block_of l.block);
  masks : l.plan ++ block_masks (loop_index (program l.fn.kernel)) (length l.plan) l.mask (block_of (drop l.stmt-index l.block)) ≡ l.fn.plan ++ block_masks (loop_index (program l.fn.kernel)) (length l.fn.plan) l.fn.mask (block_of l.block);
}

-- a block stands above its statements, and an `if` above its blocks
abbrev pub decreases-plan_stmt : goal.decreases-plan_stmt
decreases-plan_stmt l = 4 * action_depth (action_of l.stmt.now)

abbrev pub decreases-plan_if : goal.decreases-plan_if
decreases-plan_if l = 4 * block_depth (block_of l.block.now) + 3

abbrev pub decreases-plan_if_else : goal.decreases-plan_if_else
decreases-plan_if_else l = 4 * max (block_depth (block_of l.block.now)) (block_depth (block_of l.other.now)) + 3

abbrev pub decreases-plan_block : goal.decreases-plan_block
decreases-plan_block l = 4 * block_depth (block_of l.block.now) + 1

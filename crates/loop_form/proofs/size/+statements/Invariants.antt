use Rattle.std.proofs.Common.{◌≡◌, ◌+◌, ◌*◌, ◌≤◌, drop}
use Rattle.kernel_tree.specs.Plain.{action_of, block_of}
use Rattle.kernel_tree.specs.Limits.{action_depth, block_depth}
use Rattle.kernel_tree.specs.Items.{loop_index, block_size}
use Rattle.loop_form.specs.View.{program}
use Rattle.loop_form.proofs.size.+statements.Given as goal

abbrev pub invariant-statements_size-loop-stmt : goal.invariant-statements_size-loop-stmt
invariant-statements_size-loop-stmt l = record {
  depth : block_depth (block_of (drop l.stmt-index l.block)) ≤ block_depth (block_of l.block);
  size : l.size + block_size (loop_index (program l.fn.kernel)) (block_of (drop l.stmt-index l.block)) ≡ block_size (loop_index (program l.fn.kernel)) (block_of l.block);
}

abbrev pub decreases-stmt_size : goal.decreases-stmt_size
decreases-stmt_size l = 2 * action_depth (action_of l.stmt.now)

abbrev pub decreases-statements_size : goal.decreases-statements_size
decreases-statements_size l = 2 * block_depth (block_of l.block.now) + 1

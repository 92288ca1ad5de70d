use Rattle.std.proofs.Common.{◌+◌, ◌*◌}
use Rattle.kernel_tree.specs.Plain.{action_of, block_of}
use Rattle.kernel_tree.specs.Items.{loop_index, action_size, block_size}
use Rattle.loop_form.specs.View.{program}
use Rattle.loop_lists.proofs.walk.+statements.Given as goal

-- by the number of items: a block stands above its statements, and an `if` above its blocks
abbrev pub decreases-list_stmt : goal.decreases-list_stmt
decreases-list_stmt l = 4 * action_size (loop_index (program l.at.kernel.now)) (action_of l.stmt.now)

abbrev pub decreases-list_then : goal.decreases-list_then
decreases-list_then l = 4 * block_size (loop_index (program l.at.kernel.now)) (block_of l.block.now) + 3

abbrev pub decreases-list_if : goal.decreases-list_if
decreases-list_if l = 4 * block_size (loop_index (program l.at.kernel.now)) (block_of l.block.now) + 4

abbrev pub decreases-list_if_else : goal.decreases-list_if_else
decreases-list_if_else l = 4 * (block_size (loop_index (program l.at.kernel.now)) (block_of l.block.now) + block_size (loop_index (program l.at.kernel.now)) (block_of l.other.now)) + 4

abbrev pub decreases-list_block : goal.decreases-list_block
decreases-list_block l = 4 * block_size (loop_index (program l.at.kernel.now)) (block_of l.block.now) + 2

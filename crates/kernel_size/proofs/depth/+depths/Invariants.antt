use Rattle.std.proofs.Common.{◌≡◌, ◌+◌, ◌*◌, drop}
use Rattle.std.specs.Prelude.{max}
use Rattle.kernel_tree.specs.Plain.{action_of, block_of}
use Rattle.kernel_tree.specs.Limits.{action_depth, block_depth}
use Rattle.kernel_size.proofs.depth.+depths.Given as goal

abbrev pub invariant-block_depth-loop-stmt : goal.invariant-block_depth-loop-stmt
invariant-block_depth-loop-stmt l = max l.depth (block_depth (block_of (drop l.stmt-index l.block))) ≡ block_depth (block_of l.block)

-- a block stands above its statements, and an `if` above its blocks
abbrev pub decreases-stmt_depth : goal.decreases-stmt_depth
decreases-stmt_depth l = 3 * action_depth (action_of l.stmt.now)

abbrev pub decreases-if_depth : goal.decreases-if_depth
decreases-if_depth l = 3 * block_depth (block_of l.block.now) + 2

abbrev pub decreases-if_else_depth : goal.decreases-if_else_depth
decreases-if_else_depth l = 3 * max (block_depth (block_of l.block.now)) (block_depth (block_of l.other.now)) + 2

abbrev pub decreases-block_depth : goal.decreases-block_depth
decreases-block_depth l = 3 * block_depth (block_of l.block.now) + 1

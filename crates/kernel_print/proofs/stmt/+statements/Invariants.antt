use Rattle.std.proofs.Common.{◌≡◌, ◌+◌, ◌*◌, ◌≤◌, List, ◌++◌, drop}
use Rattle.std.specs.Prelude.{string_bytes}
use Rattle.kernel_tree.specs.TextToken.{TextToken}
use Rattle.kernel_tree.specs.Plain.{action_of, block_of}
use Rattle.kernel_tree.specs.Limits.{action_depth, block_depth}
use Rattle.kernel_tree.specs.Printing.{spaced, print_block}
use Rattle.kernel_print.proofs.stmt.+statements.Given as goal

abbrev pub invariant-print_statements-loop-stmt : goal.invariant-print_statements-loop-stmt
invariant-print_statements-loop-stmt l = record {
  depth : block_depth (block_of (drop l.stmt-index l.block)) ≤ block_depth (block_of l.block);
  text : (rest : List TextToken) → string_bytes l.out ++ spaced (print_block (block_of (drop l.stmt-index l.block)) rest) ≡ string_bytes l.fn.out ++ spaced (print_block (block_of l.block) rest);
}

-- a block stands above its statements, and an `if` above its blocks
abbrev pub decreases-print_stmt : goal.decreases-print_stmt
decreases-print_stmt l = 3 * action_depth (action_of l.stmt.now)

abbrev pub decreases-print_then : goal.decreases-print_then
decreases-print_then l = 3 * block_depth (block_of l.block.now) + 2

abbrev pub decreases-print_else : goal.decreases-print_else
decreases-print_else l = 3 * block_depth (block_of l.block.now) + 2

abbrev pub decreases-print_statements : goal.decreases-print_statements
decreases-print_statements l = 3 * block_depth (block_of l.block.now) + 1

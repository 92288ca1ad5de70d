use Rattle.std.proofs.Common.{◌+◌, ◌-◌, ◌*◌, ◌≤◌, length, false}
use Rattle.kernel_tree.specs.Plain.{words_of}
use Rattle.kernel_syntax.specs.Statements.{statement_by, block_at}
use Rattle.kernel_syntax.proofs.Blocks.{Follows}
use Rattle.kernel_syntax.proofs.statement.+block.Given as goal

abbrev pub decreases-choice : goal.decreases-choice
decreases-choice l = 4 * l.room + 1

abbrev pub decreases-statement : goal.decreases-statement
decreases-statement l = 4 * l.room + 3

abbrev pub decreases-block : goal.decreases-block
decreases-block l = 4 * l.room

abbrev pub invariant-block-more : goal.invariant-block-more
invariant-block-more l = (length l.rest ≤ length l.tokens) × Follows (statement_by l.whole (block_at false (l.room - 1))) (block_at l.whole l.room (words_of l.tokens)) l.stmts.items (words_of l.rest)

abbrev pub decreases-block-more : goal.decreases-block-more
decreases-block-more l = length l.rest

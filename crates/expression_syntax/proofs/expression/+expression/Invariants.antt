use Rattle.std.proofs.Common.{◌+◌, ◌*◌, ◌<◌, ◌≤◌, length}
use Rattle.kernel_tree.specs.Plain.{term_of, words_of}
use Rattle.expression_syntax.specs.Reading.{unary_at, signed_by}
use Rattle.expression_syntax.proofs.Chain.{Goes}
use Rattle.expression_syntax.proofs.SignRows.{Wraps}
use Rattle.expression_syntax.proofs.expression.+expression.Given as goal

abbrev pub decreases-chain : goal.decreases-chain
decreases-chain l = 32 * l.room + (1 + 2 * l.level)

abbrev pub decreases-extended : goal.decreases-extended
decreases-extended l = 32 * l.room + (2 + 2 * l.level)

abbrev pub decreases-unary : goal.decreases-unary
decreases-unary l = 32 * l.room

abbrev pub decreases-term_then : goal.decreases-term_then
decreases-term_then l = 32 * l.room + 22

abbrev pub decreases-named : goal.decreases-named
decreases-named l = 32 * l.room + 23

abbrev pub decreases-pair : goal.decreases-pair
decreases-pair l = 32 * l.room + 23

abbrev pub decreases-absolute : goal.decreases-absolute
decreases-absolute l = 32 * l.room + 23

abbrev pub decreases-choice : goal.decreases-choice
decreases-choice l = 32 * l.room + 23

abbrev pub decreases-signed : goal.decreases-signed
decreases-signed l = 32 * l.room + 23

abbrev pub decreases-operand : goal.decreases-operand
decreases-operand l = 32 * l.room + 1

abbrev pub invariant-signed-more : goal.invariant-signed-more
invariant-signed-more l = record {
  short : length l.rest ≤ length l.tokens;
  less : l.inner ≤ l.room;
  wraps : Wraps (signed_by (unary_at l.room) l.fn.sign (words_of l.tokens)) l.signs.items (signed_by (unary_at l.inner) l.last (words_of l.rest));
}

abbrev pub decreases-signed-more : goal.decreases-signed-more
decreases-signed-more l = length l.rest

abbrev pub invariant-chain-more : goal.invariant-chain-more
invariant-chain-more l = (length l.rest < length l.tokens) × Goes (unary_at l.room) l.level (words_of l.tokens) (term_of l.left.value) (words_of l.rest)

abbrev pub decreases-chain-more : goal.decreases-chain-more
decreases-chain-more l = length l.rest

use Rattle.std.proofs.Common.{◌≡◌, vec_len}
use Rattle.kernel_tree.specs.Plain.{term_of}
use Rattle.expression_syntax.specs.Signs.{all_signed}
use Rattle.expression_syntax.proofs.expression.following_signs.Given as goal

abbrev pub invariant-more : goal.invariant-more
invariant-more l = all_signed l.left.items (term_of l.expr.value) ≡ all_signed l.fn.signs.items (term_of l.fn.arg.value)

abbrev pub decreases-more : goal.decreases-more
decreases-more l = vec_len l.left

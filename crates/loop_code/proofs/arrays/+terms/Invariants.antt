use Rattle.std.proofs.Common.{◌+◌, ◌*◌}
use Rattle.std.specs.Prelude.{max}
use Rattle.kernel_tree.specs.Plain.{term_of}
use Rattle.kernel_tree.specs.Limits.{term_depth}
use Rattle.loop_code.proofs.arrays.+terms.Given as goal

-- an expression stands above its operands
abbrev pub decreases-add_term : goal.decreases-add_term
decreases-add_term l = 2 * term_depth (term_of l.expr.now)

abbrev pub decreases-add_both : goal.decreases-add_both
decreases-add_both l = 2 * max (term_depth (term_of l.left.now)) (term_depth (term_of l.right.now)) + 1

abbrev pub decreases-add_element : goal.decreases-add_element
decreases-add_element l = 2 * term_depth (term_of l.index.now) + 1

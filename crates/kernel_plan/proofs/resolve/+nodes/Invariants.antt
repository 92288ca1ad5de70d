use Rattle.std.proofs.Common.{◌+◌, ◌*◌}
use Rattle.std.specs.Prelude.{max}
use Rattle.kernel_tree.specs.Plain.{term_of}
use Rattle.kernel_tree.specs.Limits.{term_depth}
use Rattle.kernel_plan.proofs.resolve.+nodes.Given as goal

-- an expression stands above what resolves it by its kind, that above two operands, these above each one, and an operand
-- above its expression
abbrev pub decreases-resolve : goal.decreases-resolve
decreases-resolve l = 4 * term_depth (term_of l.expr.now)

abbrev pub decreases-resolve_number : goal.decreases-resolve_number
decreases-resolve_number l = 4 * term_depth (term_of l.index.now) + 1

abbrev pub decreases-operand : goal.decreases-operand
decreases-operand l = 4 * term_depth (term_of l.expr.now) + 1

abbrev pub decreases-operands : goal.decreases-operands
decreases-operands l = 4 * max (term_depth (term_of l.left.now)) (term_depth (term_of l.right.now)) + 2

abbrev pub decreases-resolve_read : goal.decreases-resolve_read
decreases-resolve_read l = 4 * term_depth (term_of l.index.now) + 3

abbrev pub decreases-resolve_element : goal.decreases-resolve_element
decreases-resolve_element l = 4 * term_depth (term_of l.index.now) + 2

abbrev pub decreases-resolve_binary : goal.decreases-resolve_binary
decreases-resolve_binary l = 4 * max (term_depth (term_of l.left.now)) (term_depth (term_of l.right.now)) + 3

abbrev pub decreases-resolve_compared : goal.decreases-resolve_compared
decreases-resolve_compared l = 4 * max (term_depth (term_of l.left.now)) (term_depth (term_of l.right.now)) + 3

abbrev pub decreases-resolve_both : goal.decreases-resolve_both
decreases-resolve_both l = 4 * max (term_depth (term_of l.left.now)) (term_depth (term_of l.right.now)) + 3

abbrev pub decreases-resolve_either : goal.decreases-resolve_either
decreases-resolve_either l = 4 * max (term_depth (term_of l.left.now)) (term_depth (term_of l.right.now)) + 3

abbrev pub decreases-resolve_select : goal.decreases-resolve_select
decreases-resolve_select l = 4 * max (term_depth (term_of l.cond.now)) (max (term_depth (term_of l.yes.now)) (term_depth (term_of l.no.now))) + 3

use Rattle.std.proofs.Common.{◌+◌, ◌*◌}
use Rattle.std.specs.Prelude.{max}
use Rattle.kernel_tree.specs.Plain.{term_of}
use Rattle.kernel_tree.specs.Walks.{walk_of, walk_of_one}
use Rattle.kernel_tree.specs.Limits.{term_depth}
use Rattle.loop_items.proofs.loop_values.+loop_values.Given as goal

-- an expression stands above what lists it by its kind, that above its operands, and an operand above its expression
abbrev pub decreases-list_value : goal.decreases-list_value
decreases-list_value l = walk_of (term_of l.expr.now)

abbrev pub decreases-list_operand : goal.decreases-list_operand
decreases-list_operand l = walk_of_one (term_of l.arg.now)

abbrev pub decreases-list_truth : goal.decreases-list_truth
decreases-list_truth l = walk_of_one (term_of l.cond.now)

abbrev pub decreases-list_read : goal.decreases-list_read
decreases-list_read l = 3 * term_depth (term_of l.index.now) + 2

abbrev pub decreases-list_gather : goal.decreases-list_gather
decreases-list_gather l = walk_of_one (term_of l.index.now)

abbrev pub decreases-list_unary : goal.decreases-list_unary
decreases-list_unary l = 3 * term_depth (term_of l.arg.now) + 2

abbrev pub decreases-list_binary : goal.decreases-list_binary
decreases-list_binary l = 3 * max (term_depth (term_of l.left.now)) (term_depth (term_of l.right.now)) + 2

abbrev pub decreases-list_cast : goal.decreases-list_cast
decreases-list_cast l = 3 * term_depth (term_of l.arg.now) + 2

abbrev pub decreases-list_shift : goal.decreases-list_shift
decreases-list_shift l = 3 * term_depth (term_of l.arg.now) + 2

abbrev pub decreases-list_select : goal.decreases-list_select
decreases-list_select l = 3 * max (term_depth (term_of l.cond.now)) (max (term_depth (term_of l.yes.now)) (term_depth (term_of l.no.now))) + 2

abbrev pub decreases-list_condition : goal.decreases-list_condition
decreases-list_condition l = walk_of (term_of l.expr.now)

abbrev pub decreases-list_compared : goal.decreases-list_compared
decreases-list_compared l = 3 * max (term_depth (term_of l.left.now)) (term_depth (term_of l.right.now)) + 2

abbrev pub decreases-list_and : goal.decreases-list_and
decreases-list_and l = 3 * max (term_depth (term_of l.left.now)) (term_depth (term_of l.right.now)) + 2

abbrev pub decreases-list_or : goal.decreases-list_or
decreases-list_or l = 3 * max (term_depth (term_of l.left.now)) (term_depth (term_of l.right.now)) + 2

abbrev pub decreases-list_not : goal.decreases-list_not
decreases-list_not l = 3 * term_depth (term_of l.arg.now) + 2

use Rattle.std.proofs.Common.{◌+◌, ◌*◌}
use Rattle.kernel_tree.specs.Plain.{term_of}
use Rattle.kernel_tree.specs.Walks.{walk_of, walk_of_one, walk_of_two, walk_of_three}
use Rattle.kernel_tree.specs.Limits.{term_depth}
use Rattle.kernel_types.proofs.terms.+terms.Given as goal

-- an expression stands above what goes over it by its kind, and that above its operands
abbrev pub decreases-walk_expr : goal.decreases-walk_expr
decreases-walk_expr l = walk_of (term_of l.expr.now)

abbrev pub decreases-walk_index : goal.decreases-walk_index
decreases-walk_index l = walk_of_one (term_of l.index.now)

abbrev pub decreases-walk_read : goal.decreases-walk_read
decreases-walk_read l = 3 * term_depth (term_of l.index.now) + 2

abbrev pub decreases-walk_unary : goal.decreases-walk_unary
decreases-walk_unary l = walk_of_one (term_of l.arg.now)

abbrev pub decreases-walk_binary : goal.decreases-walk_binary
decreases-walk_binary l = walk_of_two (term_of l.left.now) (term_of l.right.now)

abbrev pub decreases-walk_shift : goal.decreases-walk_shift
decreases-walk_shift l = walk_of_one (term_of l.arg.now)

abbrev pub decreases-walk_cast : goal.decreases-walk_cast
decreases-walk_cast l = walk_of_one (term_of l.arg.now)

abbrev pub decreases-walk_select : goal.decreases-walk_select
decreases-walk_select l = walk_of_three (term_of l.cond.now) (term_of l.yes.now) (term_of l.no.now)

abbrev pub decreases-walk_compare : goal.decreases-walk_compare
decreases-walk_compare l = walk_of_two (term_of l.left.now) (term_of l.right.now)

abbrev pub decreases-walk_and : goal.decreases-walk_and
decreases-walk_and l = walk_of_two (term_of l.left.now) (term_of l.right.now)

abbrev pub decreases-walk_or : goal.decreases-walk_or
decreases-walk_or l = walk_of_two (term_of l.left.now) (term_of l.right.now)

abbrev pub decreases-walk_not : goal.decreases-walk_not
decreases-walk_not l = walk_of_one (term_of l.arg.now)

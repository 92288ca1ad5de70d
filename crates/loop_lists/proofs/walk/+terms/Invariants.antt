use Rattle.std.proofs.Common.{◌+◌, ◌*◌}
use Rattle.std.specs.Prelude.{max}
use Rattle.kernel_tree.specs.Plain.{term_of}
use Rattle.kernel_tree.specs.Limits.{term_depth}
use Rattle.loop_lists.proofs.walk.+terms.Given as goal

-- an expression stands above what lists it by its kind, and that above its operands
abbrev pub decreases-list_expr : goal.decreases-list_expr
decreases-list_expr l = 2 * term_depth (term_of l.expr.now)

abbrev pub decreases-list_read : goal.decreases-list_read
decreases-list_read l = 2 * term_depth (term_of l.index.now) + 1

abbrev pub decreases-list_one : goal.decreases-list_one
decreases-list_one l = 2 * term_depth (term_of l.arg.now) + 1

abbrev pub decreases-list_two : goal.decreases-list_two
decreases-list_two l = 2 * max (term_depth (term_of l.left.now)) (term_depth (term_of l.right.now)) + 1

abbrev pub decreases-list_or : goal.decreases-list_or
decreases-list_or l = 2 * max (term_depth (term_of l.left.now)) (term_depth (term_of l.right.now)) + 1

abbrev pub decreases-list_select : goal.decreases-list_select
decreases-list_select l = 2 * max (term_depth (term_of l.cond.now)) (max (term_depth (term_of l.yes.now)) (term_depth (term_of l.no.now))) + 1

use Rattle.std.proofs.Common.{◌+◌, ◌*◌}
use Rattle.std.specs.Prelude.{max}
use Rattle.kernel_tree.specs.Plain.{term_of}
use Rattle.kernel_tree.specs.Limits.{term_depth}
use Rattle.kernel_print.proofs.expr.+terms.Given as goal

-- an expression stands above what prints it by its kind, and that above its operands and the mark after each
abbrev pub decreases-print_expr : goal.decreases-print_expr
decreases-print_expr l = 4 * term_depth (term_of l.expr.now)

abbrev pub decreases-print_argument : goal.decreases-print_argument
decreases-print_argument l = 4 * term_depth (term_of l.arg.now) + 1

abbrev pub decreases-print_read : goal.decreases-print_read
decreases-print_read l = 4 * term_depth (term_of l.index.now) + 2

abbrev pub decreases-print_signed : goal.decreases-print_signed
decreases-print_signed l = 4 * term_depth (term_of l.arg.now) + 2

abbrev pub decreases-print_absolute : goal.decreases-print_absolute
decreases-print_absolute l = 4 * term_depth (term_of l.arg.now) + 2

abbrev pub decreases-print_unary : goal.decreases-print_unary
decreases-print_unary l = 4 * term_depth (term_of l.arg.now) + 3

abbrev pub decreases-print_binary : goal.decreases-print_binary
decreases-print_binary l = 4 * max (term_depth (term_of l.left.now)) (term_depth (term_of l.right.now)) + 3

abbrev pub decreases-print_between : goal.decreases-print_between
decreases-print_between l = 4 * max (term_depth (term_of l.left.now)) (term_depth (term_of l.right.now)) + 2

abbrev pub decreases-print_compared : goal.decreases-print_compared
decreases-print_compared l = 4 * max (term_depth (term_of l.left.now)) (term_depth (term_of l.right.now)) + 2

abbrev pub decreases-print_call : goal.decreases-print_call
decreases-print_call l = 4 * max (term_depth (term_of l.left.now)) (term_depth (term_of l.right.now)) + 2

abbrev pub decreases-print_shift : goal.decreases-print_shift
decreases-print_shift l = 4 * term_depth (term_of l.arg.now) + 2

abbrev pub decreases-print_cast : goal.decreases-print_cast
decreases-print_cast l = 4 * term_depth (term_of l.arg.now) + 2

abbrev pub decreases-print_select : goal.decreases-print_select
decreases-print_select l = 4 * max (term_depth (term_of l.cond.now)) (max (term_depth (term_of l.yes.now)) (term_depth (term_of l.no.now))) + 2

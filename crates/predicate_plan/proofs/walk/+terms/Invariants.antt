use Rattle.std.proofs.Common.{◌+◌, ◌*◌}
use Rattle.std.specs.Prelude.{max}
use Rattle.kernel_tree.specs.Plain.{term_of}
use Rattle.kernel_tree.specs.Limits.{term_depth}
use Rattle.predicate_plan.proofs.walk.+terms.Given as goal

-- an expression stands above what plans it by its kind, and that above its operands
abbrev pub decreases-plan_expr : goal.decreases-plan_expr
decreases-plan_expr l = 2 * term_depth (term_of l.expr.now)

abbrev pub decreases-plan_read : goal.decreases-plan_read
decreases-plan_read l = 2 * term_depth (term_of l.index.now) + 1

abbrev pub decreases-plan_one : goal.decreases-plan_one
decreases-plan_one l = 2 * term_depth (term_of l.arg.now) + 1

abbrev pub decreases-plan_two : goal.decreases-plan_two
decreases-plan_two l = 2 * max (term_depth (term_of l.left.now)) (term_depth (term_of l.right.now)) + 1

abbrev pub decreases-plan_and : goal.decreases-plan_and
decreases-plan_and l = 2 * max (term_depth (term_of l.left.now)) (term_depth (term_of l.right.now)) + 1

abbrev pub decreases-plan_or : goal.decreases-plan_or
decreases-plan_or l = 2 * max (term_depth (term_of l.left.now)) (term_depth (term_of l.right.now)) + 1

abbrev pub decreases-plan_select : goal.decreases-plan_select
decreases-plan_select l = 2 * max (term_depth (term_of l.cond.now)) (max (term_depth (term_of l.yes.now)) (term_depth (term_of l.no.now))) + 1

use Rattle.std.proofs.Common.{◌+◌, ◌*◌}
use Rattle.std.specs.Prelude.{max}
use Rattle.kernel_tree.specs.Plain.{term_of}
use Rattle.kernel_tree.specs.Limits.{term_depth}
use Rattle.value_code.proofs.hold.+terms.Given as goal

-- an expression stands above its operands
abbrev pub decreases-hold_term : goal.decreases-hold_term
decreases-hold_term l = 2 * term_depth (term_of l.expr.now)

abbrev pub decreases-hold_both : goal.decreases-hold_both
decreases-hold_both l = 2 * max (term_depth (term_of l.left.now)) (term_depth (term_of l.right.now)) + 1

abbrev pub decreases-hold_sides : goal.decreases-hold_sides
decreases-hold_sides l = 2 * max (term_depth (term_of l.left.now)) (term_depth (term_of l.right.now)) + 1

abbrev pub decreases-hold_read : goal.decreases-hold_read
decreases-hold_read l = 2 * term_depth (term_of l.index.now) + 1

use Rattle.std.proofs.Common.{◌+◌, ◌*◌}
use Rattle.std.specs.Prelude.{max}
use Rattle.kernel_tree.specs.Plain.{term_of}
use Rattle.kernel_tree.specs.Limits.{term_depth}
use Rattle.scalar_values.proofs.emit.+terms.Given as goal

-- an expression stands above what emits it by its kind, and that above its operands
abbrev pub decreases-emit_loose : goal.decreases-emit_loose
decreases-emit_loose l = 4 * term_depth (term_of l.expr.now) + 1

abbrev pub decreases-emit_two : goal.decreases-emit_two
decreases-emit_two l = 4 * max (term_depth (term_of l.left.now)) (term_depth (term_of l.right.now)) + 4

abbrev pub decreases-emit_sides : goal.decreases-emit_sides
decreases-emit_sides l = 4 * max (term_depth (term_of l.left.now)) (term_depth (term_of l.right.now)) + 3

abbrev pub decreases-emit_read : goal.decreases-emit_read
decreases-emit_read l = 4 * term_depth (term_of l.index.now) + 3

abbrev pub decreases-emit_compared : goal.decreases-emit_compared
decreases-emit_compared l = 4 * max (term_depth (term_of l.left.now)) (term_depth (term_of l.right.now)) + 2

abbrev pub decreases-emit_side : goal.decreases-emit_side
decreases-emit_side l = 4 * term_depth (term_of l.expr.now) + 2

abbrev pub decreases-emit_parts : goal.decreases-emit_parts
decreases-emit_parts l = 4 * term_depth (term_of l.expr.now) + 1

abbrev pub decreases-emit_one_of : goal.decreases-emit_one_of
decreases-emit_one_of l = 4 * term_depth (term_of l.cond.now) + 2

abbrev pub decreases-emit_jump : goal.decreases-emit_jump
decreases-emit_jump l = 4 * term_depth (term_of l.expr.now)

abbrev pub decreases-emit_both : goal.decreases-emit_both
decreases-emit_both l = 4 * max (term_depth (term_of l.left.now)) (term_depth (term_of l.right.now)) + 2

abbrev pub decreases-emit_either : goal.decreases-emit_either
decreases-emit_either l = 4 * max (term_depth (term_of l.left.now)) (term_depth (term_of l.right.now)) + 2

abbrev pub decreases-emit_number : goal.decreases-emit_number
decreases-emit_number l = 4 * term_depth (term_of l.number.now) + 2

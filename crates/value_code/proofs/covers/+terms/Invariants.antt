use Rattle.std.proofs.Common.{◌+◌, ◌*◌}
use Rattle.kernel_tree.specs.Plain.{term_of}
use Rattle.kernel_tree.specs.Limits.{term_depth}
use Rattle.value_code.proofs.covers.+terms.Given as goal

-- an expression stands above its operands
abbrev pub decreases-covers : goal.decreases-covers
decreases-covers l = 2 * term_depth (term_of l.term.now)

abbrev pub decreases-covers_index : goal.decreases-covers_index
decreases-covers_index l = 2 * term_depth (term_of l.index.now) + 1

abbrev pub decreases-covers_truth : goal.decreases-covers_truth
decreases-covers_truth l = 2 * term_depth (term_of l.term.now)

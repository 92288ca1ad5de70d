use Rattle.std.proofs.Common.{◌≡◌, ◌+◌, drop}
use Rattle.kernel_tree.specs.Plain.{accumulators_of}
use Rattle.kernel_tree.specs.Items.{loop_index, vars_size}
use Rattle.loop_form.specs.View.{program}
use Rattle.loop_form.proofs.size.vars_size_of.Given as goal

abbrev pub invariant-loop-var : goal.invariant-loop-var
invariant-loop-var l = l.size + vars_size (loop_index (program l.fn.kernel)) (accumulators_of (drop l.var-index l.vars)) ≡ vars_size (loop_index (program l.fn.kernel)) (accumulators_of l.vars)

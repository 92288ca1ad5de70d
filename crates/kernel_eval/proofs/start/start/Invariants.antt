use Rattle.std.proofs.Common.{◌≡◌, ◌++◌, map, pos, replicate}
use Rattle.kernel_tree.specs.Plain.{parameters_of}
use Rattle.kernel_meaning.specs.Eval.{value_of}
use Rattle.kernel_meaning.specs.ScalarRun as running
use Rattle.kernel_eval.proofs.start.start.Given as goal

abbrev pub invariant-loop-at : goal.invariant-loop-at
invariant-loop-at l = l.slots.items ≡ map value_of (running.argument_names (parameters_of l.params) l.args) ++ replicate l._at (pos 0)

use Rattle.std.proofs.Common.{◌≡◌, ◌++◌, map, drop}
use Rattle.kernel_tree.specs.Plain.{parameters_of}
use Rattle.kernel_meaning.specs.Eval.{value_of}
use Rattle.kernel_meaning.specs.ScalarRun as running
use Rattle.kernel_eval.proofs.start.argument_names.Given as goal

abbrev pub invariant-loop-i : goal.invariant-loop-i
invariant-loop-i l = l.slots.items ++ map value_of (running.argument_names (parameters_of (drop l.i l.params)) (drop l.i l.args)) ≡ map value_of (running.argument_names (parameters_of l.params) l.args)

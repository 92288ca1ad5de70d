use Rattle.std.proofs.Common.{◌≡◌, drop}
use Rattle.kernel_tree.specs.Plain.{accumulators_of}
use Rattle.loop_form.specs.Lanes.{var_type}
use Rattle.loop_form.proofs.names.var_type.Given as goal

abbrev pub invariant-loop-var : goal.invariant-loop-var
invariant-loop-var l = var_type l.name (accumulators_of (drop l.var-index l.vars)) ≡ var_type l.name (accumulators_of l.vars)

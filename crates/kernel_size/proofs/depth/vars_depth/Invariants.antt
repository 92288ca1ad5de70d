use Rattle.std.proofs.Common.{◌≡◌, drop}
use Rattle.std.specs.Prelude.{max}
use Rattle.kernel_tree.specs.Plain.{accumulators_of}
use Rattle.kernel_tree.specs.Limits.{vars_depth}
use Rattle.kernel_size.proofs.depth.vars_depth.Given as goal

abbrev pub invariant-loop-var : goal.invariant-loop-var
invariant-loop-var l = max l.depth (vars_depth (accumulators_of (drop l.var-index l.vars))) ≡ vars_depth (accumulators_of l.vars)

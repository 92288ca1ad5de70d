use Rattle.std.proofs.Common.{◌≡◌, ◌++◌, drop}
use Rattle.std.specs.Prelude.{map}
use Rattle.kernel_tree.specs.Plain.{accumulators_of}
use Rattle.loop_form.specs.HeldView.{view}
use Rattle.loop_form.specs.Needs.{accumulating_of}
use Rattle.loop_lists.proofs.held_throughout.push_vars.Given as goal

abbrev pub invariant-loop-var : goal.invariant-loop-var
invariant-loop-var l = view l.held.items ++ map accumulating_of (accumulators_of (drop l.var-index l.vars)) ≡ view l.fn.held.items ++ map accumulating_of (accumulators_of l.vars)

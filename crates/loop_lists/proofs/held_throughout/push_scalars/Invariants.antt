use Rattle.std.proofs.Common.{◌≡◌, ◌++◌, drop}
use Rattle.kernel_tree.specs.Plain.{parameters_of}
use Rattle.loop_form.specs.HeldView.{view}
use Rattle.loop_form.specs.Needs.{scalars}
use Rattle.loop_form.specs.View.{entries_view}
use Rattle.loop_lists.proofs.held_throughout.push_scalars.Given as goal

abbrev pub invariant-loop-param : goal.invariant-loop-param
invariant-loop-param l = view l.held.items ++ scalars (entries_view l.fn.entries) (parameters_of (drop l.param-index l.params)) ≡ view l.fn.held.items ++ scalars (entries_view l.fn.entries) (parameters_of l.params)

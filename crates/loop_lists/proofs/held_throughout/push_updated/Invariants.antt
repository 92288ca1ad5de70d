use Rattle.std.proofs.Common.{◌≡◌, ◌++◌, drop}
use Rattle.std.specs.Prelude.{map, filter}
use Rattle.kernel_tree.specs.Plain.{accumulators_of}
use Rattle.loop_form.specs.HeldView.{view}
use Rattle.loop_form.specs.Needs.{is_updated, accumulating_of}
use Rattle.loop_form.specs.View.{entries_view}
use Rattle.loop_lists.proofs.held_throughout.push_updated.Given as goal

abbrev pub invariant-loop-var : goal.invariant-loop-var
invariant-loop-var l = view l.held.items ++ map accumulating_of (filter (is_updated (entries_view l.fn.entries)) (accumulators_of (drop l.var-index l.vars))) ≡ view l.fn.held.items ++ map accumulating_of (filter (is_updated (entries_view l.fn.entries)) (accumulators_of l.vars))

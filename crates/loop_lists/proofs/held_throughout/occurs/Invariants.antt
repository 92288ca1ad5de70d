use Rattle.std.proofs.Common.{◌≡◌, drop}
use Rattle.std.specs.List.{list_any}
use Rattle.loop_form.specs.Needs.{is_constant}
use Rattle.loop_form.specs.View.{entries_view}
use Rattle.loop_lists.proofs.held_throughout.occurs.Given as goal

abbrev pub invariant-loop-entry : goal.invariant-loop-entry
invariant-loop-entry l = list_any (is_constant l.fn.ty l.fn.value) (entries_view (drop l.entry-index l.before)) ≡ list_any (is_constant l.fn.ty l.fn.value) (entries_view l.before)

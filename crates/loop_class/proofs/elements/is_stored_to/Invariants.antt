use Rattle.std.proofs.Common.{◌≡◌, drop}
use Rattle.std.specs.List.{list_any}
use Rattle.loop_form.specs.View.{entries_view}
use Rattle.dependence.specs.Classes.{stores_to}
use Rattle.loop_class.proofs.elements.is_stored_to.Given as goal

abbrev pub invariant-loop-entry : goal.invariant-loop-entry
invariant-loop-entry l = list_any (stores_to l.fn.array) (entries_view (drop l.entry-index l.entries)) ≡ list_any (stores_to l.fn.array) (entries_view l.entries)

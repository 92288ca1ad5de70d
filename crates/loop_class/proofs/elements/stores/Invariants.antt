use Rattle.std.proofs.Common.{◌≡◌, drop}
use Rattle.std.specs.List.{list_any}
use Rattle.loop_form.specs.View.{entries_view}
use Rattle.dependence.specs.Classes.{is_storing}
use Rattle.loop_class.proofs.elements.stores.Given as goal

abbrev pub invariant-loop-entry : goal.invariant-loop-entry
invariant-loop-entry l = list_any is_storing (entries_view (drop l.entry-index l.entries)) ≡ list_any is_storing (entries_view l.entries)

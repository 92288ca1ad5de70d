use Rattle.std.proofs.Common.{◌≡◌, drop}
use Rattle.std.specs.List.{list_any}
use Rattle.loop_form.specs.View.{entries_view}
use Rattle.dependence.specs.Classes.{updates_otherwise}
use Rattle.loop_class.proofs.updates.has_other_update.Given as goal

abbrev pub invariant-loop-entry : goal.invariant-loop-entry
invariant-loop-entry l = list_any (updates_otherwise l.name l.fn.op) (entries_view (drop l.entry-index l.entries)) ≡ list_any (updates_otherwise l.name l.fn.op) (entries_view l.entries)

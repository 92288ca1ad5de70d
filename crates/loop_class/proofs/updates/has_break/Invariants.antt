use Rattle.std.proofs.Common.{◌≡◌, drop}
use Rattle.std.specs.List.{list_any}
use Rattle.loop_form.specs.View.{entries_view}
use Rattle.dependence.specs.Classes.{is_break}
use Rattle.loop_class.proofs.updates.has_break.Given as goal

abbrev pub invariant-loop-entry : goal.invariant-loop-entry
invariant-loop-entry l = list_any is_break (entries_view (drop l.entry-index l.entries)) ≡ list_any is_break (entries_view l.entries)

use Rattle.std.proofs.Common.{◌≡◌, drop}
use Rattle.loop_form.specs.View.{entries_view}
use Rattle.dependence.specs.Classes.{before_break}
use Rattle.loop_class.proofs.updates.writes_before_break.Given as goal

abbrev pub invariant-loop-entry : goal.invariant-loop-entry
invariant-loop-entry l = record {
  place : l.following ≡ l.entry-index;
  rest : before_break (entries_view (drop l.entry-index l.entries)) ≡ before_break (entries_view l.entries);
}

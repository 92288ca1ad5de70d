use Rattle.std.proofs.Common.{◌≡◌, ◌+◌, ◌≤◌, ◌++◌, drop}
use Rattle.loop_form.specs.Places.{places_from}
use Rattle.loop_form.specs.View.{entries_view}
use Rattle.loop_lists.proofs.places.places_from.Given as goal

abbrev pub invariant-loop-entry : goal.invariant-loop-entry
invariant-loop-entry l = record {
  small : l.next ≤ l.first + l.entry-index;
  places : l.places.items ++ places_from l.class (entries_view l.all) l.next (entries_view (drop l.entry-index l.some)) ≡ places_from l.class (entries_view l.all) l.first (entries_view l.some);
}

use Rattle.std.proofs.Common.{◌≡◌, drop}
use Rattle.std.specs.List.{find}
use Rattle.loop_form.specs.View.{entries_view}
use Rattle.loop_form.specs.Reaches.{has_number}
use Rattle.loop_lists.proofs.reached.reach_among.Given as goal

abbrev pub invariant-loop-entry : goal.invariant-loop-entry
invariant-loop-entry l = find (has_number l.item) (entries_view (drop l.entry-index l.entries)) ≡ find (has_number l.item) (entries_view l.entries)

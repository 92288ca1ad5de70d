use Rattle.std.proofs.Common.{◌≡◌, drop}
use Rattle.std.specs.List.{list_any}
use Rattle.loop_form.specs.Listing.{names}
use Rattle.loop_form.specs.View.{entries_view}
use Rattle.loop_lists.proofs.held_throughout.is_named.Given as goal

abbrev pub invariant-loop-entry : goal.invariant-loop-entry
invariant-loop-entry l = list_any (names l.name) (entries_view (drop l.entry-index l.entries)) ≡ list_any (names l.name) (entries_view l.entries)

use Rattle.std.proofs.Common.{◌≡◌, drop}
use Rattle.loop_form.specs.Listing.{last_use_from}
use Rattle.loop_form.specs.View.{entries_view}
use Rattle.loop_lists.proofs.item_list.last_use_of.Given as goal

abbrev pub invariant-loop-entry : goal.invariant-loop-entry
invariant-loop-entry l = last_use_from l.name l.last (entries_view (drop l.entry-index l.entries)) ≡ last_use_from l.name l.fn.item (entries_view l.entries)

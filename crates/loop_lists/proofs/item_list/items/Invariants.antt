use Rattle.std.proofs.Common.{◌≡◌, ◌++◌, drop, map}
use Rattle.loop_form.specs.Listing.{item_of}
use Rattle.loop_form.specs.View.{entries_view}
use Rattle.loop_lists.proofs.item_list.items.Given as goal

abbrev pub invariant-loop-entry : goal.invariant-loop-entry
invariant-loop-entry l = l.items.items ++ map (item_of (entries_view l.all)) (entries_view (drop l.entry-index l.all)) ≡ map (item_of (entries_view l.all)) (entries_view l.all)

use Rattle.std.proofs.Common.{◌≡◌, [], ◌++◌, take, drop}
use Rattle.loop_form.specs.HeldView.{view}
use Rattle.loop_form.specs.Needs.{constants}
use Rattle.loop_form.specs.View.{entries_view}
use Rattle.loop_lists.proofs.held_throughout.push_constants.Given as goal

abbrev pub invariant-loop-entry : goal.invariant-loop-entry
invariant-loop-entry l = record {
  place : l.place ≡ l.entry-index;
  held : view l.held.items ++ constants (entries_view (take l.entry-index l.entries)) (entries_view (drop l.entry-index l.entries)) ≡ view l.fn.held.items ++ constants [] (entries_view l.entries);
}

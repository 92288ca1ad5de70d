use Rattle.std.proofs.Common.{◌≡◌, ◌≤◌, ◌++◌, drop}
use Rattle.std.specs.Prelude.{length, filter_map}
use Rattle.loop_form.specs.View.{program, entries_view}
use Rattle.loop_form.specs.Reaches.{reach_at}
use Rattle.loop_lists.proofs.reached.reaches_among.Given as goal

abbrev pub invariant-loop-entry : goal.invariant-loop-entry
invariant-loop-entry l = record {
  room : length l.reaches.items ≤ l.entry-index;
  reaches : l.reaches.items ++ filter_map (reach_at (program l.fn.kernel)) (entries_view (drop l.entry-index l.entries)) ≡ filter_map (reach_at (program l.fn.kernel)) (entries_view l.entries);
}

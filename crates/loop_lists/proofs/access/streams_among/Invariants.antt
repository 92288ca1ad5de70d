use Rattle.std.proofs.Common.{◌≡◌, ◌≤◌, ◌++◌, drop}
use Rattle.std.specs.Prelude.{length, filter_map}
use Rattle.kernel_tree.specs.Items.{loop_index}
use Rattle.loop_form.specs.Near.{AreNear}
use Rattle.loop_form.specs.View.{program, entries_view}
use Rattle.loop_form.specs.Streams.{stream_of}
use Rattle.loop_lists.proofs.access.streams_among.Given as goal

abbrev pub invariant-loop-entry : goal.invariant-loop-entry
invariant-loop-entry l = record {
  room : length l.streams.items ≤ l.entry-index;
  near : AreNear (loop_index (program l.fn.kernel)) (entries_view (drop l.entry-index l.entries));
  streams : l.streams.items ++ filter_map (stream_of (program l.fn.kernel)) (entries_view (drop l.entry-index l.entries)) ≡ filter_map (stream_of (program l.fn.kernel)) (entries_view l.entries);
}

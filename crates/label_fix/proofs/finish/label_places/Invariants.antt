use Rattle.std.proofs.Common.{◌≡◌, ◌+◌, drop, length, map}
use Rattle.std.specs.Prelude.{replicate}
use Rattle.label_fix.specs.Draft.{entry_view}
use Rattle.label_fix.specs.Finished.{AreFit, size}
use Rattle.label_fix.specs.Places.{placed_from}
use Rattle.label_fix.proofs.finish.label_places.Given as goal

abbrev pub invariant-loop-entry : goal.invariant-loop-entry
invariant-loop-entry l = record {
  words : l.words + size (map entry_view (drop l.entry-index l.entries)) ≡ size (map entry_view l.entries);
  fit : AreFit (length l.fn.places.items) (map entry_view (drop l.entry-index l.entries));
  sized : length l.places.items ≡ length l.fn.places.items;
  places : placed_from l.places.items l.words (map entry_view (drop l.entry-index l.entries)) ≡ placed_from (replicate (length l.fn.places.items) (size (map entry_view l.entries))) 0 (map entry_view l.entries);
}

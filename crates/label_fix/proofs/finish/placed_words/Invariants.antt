use Rattle.std.proofs.Common.{◌≡◌, ◌+◌, ◌++◌, drop, length, map}
use Rattle.label_fix.specs.Draft.{entry_view}
use Rattle.label_fix.specs.Finished.{AreFit, size, words_from}
use Rattle.label_fix.proofs.finish.placed_words.Given as goal

abbrev pub invariant-loop-entry : goal.invariant-loop-entry
invariant-loop-entry l = record {
  count : l.count + size (map entry_view (drop l.entry-index l.entries)) ≡ size (map entry_view l.entries);
  fit : AreFit (length l.fn.places) (map entry_view (drop l.entry-index l.entries));
  words : l.words.items ++ words_from (map entry_view l.entries) l.count (map entry_view (drop l.entry-index l.entries)) ≡ words_from (map entry_view l.entries) 0 (map entry_view l.entries);
}

use Rattle.std.proofs.Common.{◌≡◌, ◌+◌, drop, map}
use Rattle.label_fix.specs.Draft.{entry_view}
use Rattle.label_fix.specs.Finished.{size}
use Rattle.label_fix.proofs.finish.count_words.Given as goal

abbrev pub invariant-loop-entry : goal.invariant-loop-entry
invariant-loop-entry l = l.count + size (map entry_view (drop l.entry-index l.entries)) ≡ size (map entry_view l.entries)

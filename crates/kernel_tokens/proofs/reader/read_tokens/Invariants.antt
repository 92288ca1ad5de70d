use Rattle.std.proofs.Common.{length, ◌-◌}
use Rattle.kernel_tree.specs.Plain.{words_of}
use Rattle.kernel_tokens.proofs.Scans.{Scanned}
use Rattle.kernel_tokens.proofs.reader.read_tokens.Given as goal

abbrev pub invariant-loop-at : goal.invariant-loop-at
invariant-loop-at l = Scanned l.text l.at (words_of l.tokens.items)

abbrev pub decreases-loop-at : goal.decreases-loop-at
decreases-loop-at l = length l.text - l.at

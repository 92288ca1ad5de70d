use Rattle.std.proofs.Common.{◌≡◌, ◌++◌, drop}
use Rattle.call_code.specs.Returning.{returning}
use Rattle.call_words.proofs.words.put_returning.Given as goal

abbrev pub invariant-loop-index : goal.invariant-loop-index
invariant-loop-index l = l.all.items ++ returning (drop l.index l.words) ≡ l.initial.all.items ++ returning l.words

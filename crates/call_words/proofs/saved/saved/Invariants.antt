use Rattle.std.proofs.Common.{◌≡◌, ◌++◌, drop}
use Rattle.promises.specs.Saved.{written_among}
use Rattle.call_words.specs.Classes.{numbers_of, written_of}
use Rattle.call_words.proofs.saved.saved.Given as goal

abbrev pub invariant-loop-register : goal.invariant-loop-register
invariant-loop-register l = numbers_of l.kept.items ++ written_among (written_of l.class) l.words (drop l.register-index l.registers) ≡ written_among (written_of l.class) l.words l.registers

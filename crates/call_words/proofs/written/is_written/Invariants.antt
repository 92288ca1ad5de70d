use Rattle.std.proofs.Common.{◌≡◌, drop}
use Rattle.promises.specs.Saved.{is_written}
use Rattle.call_words.specs.Classes.{written_of}
use Rattle.call_words.proofs.written.is_written.Given as goal

abbrev pub invariant-loop-word : goal.invariant-loop-word
invariant-loop-word l = is_written (written_of l.class) l.register l.words ≡ is_written (written_of l.class) l.register (drop l.word-index l.words)

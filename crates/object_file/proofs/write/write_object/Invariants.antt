use Rattle.std.proofs.Common.{◌≡◌, ◌++◌, take}
use Rattle.machine_model.specs.Written.{word_bytes}
use Rattle.object_file.proofs.write.write_object.Given as goal

abbrev pub invariant-loop-word : goal.invariant-loop-word
invariant-loop-word l = l.file.items ≡ l.initial.file.items ++ word_bytes (take l.word-index l.words)

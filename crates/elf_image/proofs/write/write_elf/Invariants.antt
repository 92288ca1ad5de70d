use Rattle.std.proofs.Common.{◌≡◌, ◌++◌, take}
use Rattle.machine_model.specs.Written.{word_bytes}
use Rattle.elf_image.proofs.write.write_elf.Given as goal

abbrev pub invariant-loop-word : goal.invariant-loop-word
invariant-loop-word l = l.file.items ≡ l.initial.file.items ++ word_bytes (take l.word-index l.words)

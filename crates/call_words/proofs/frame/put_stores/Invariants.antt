use Rattle.std.proofs.Common.{◌≡◌, ◌+◌, ◌++◌, drop}
use Rattle.machine_model.specs.CodeInMemory.{words_of}
use Rattle.call_code.specs.Frame.{save_x}
use Rattle.call_words.specs.Classes.{numbers_of}
use Rattle.call_words.proofs.frame.put_stores.Given as goal

abbrev pub invariant-loop-index : goal.invariant-loop-index
invariant-loop-index l = l.all.items ++ words_of (save_x l.index (numbers_of (drop l.index l.registers))) ≡ l.initial.all.items ++ words_of (save_x 0 (numbers_of l.registers))

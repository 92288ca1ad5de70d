use Rattle.std.proofs.Common.{◌≡◌, ◌+◌, ◌++◌, drop}
use Rattle.machine_model.specs.CodeInMemory.{words_of}
use Rattle.call_code.specs.Frame.{restore_z}
use Rattle.call_words.specs.Classes.{numbers_of}
use Rattle.call_words.proofs.frame.put_low_loads.Given as goal

abbrev pub invariant-loop-register : goal.invariant-loop-register
invariant-loop-register l =
    (l.place ≡ l.first + l.register-index)
    × (l.all.items ++ words_of (restore_z l.place (numbers_of (drop l.register-index l.registers))) ≡ l.initial.all.items ++ words_of (restore_z l.first (numbers_of l.registers)))

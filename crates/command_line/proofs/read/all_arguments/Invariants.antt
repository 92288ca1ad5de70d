use Rattle.std.proofs.Common.{◌≡◌, [], drop, length}
use Rattle.command_line.specs.Line.{arguments_from}
use Rattle.command_line.specs.View.{all_left}
use Rattle.command_line.proofs.read.all_arguments.Given as goal

abbrev pub invariant-loop-word : goal.invariant-loop-word
invariant-loop-word l = (arguments_from l.args.items (all_left (drop l.word-index l.words)) ≡ arguments_from [] (all_left l.words)) × (length l.args.items ≡ l.word-index)

use Rattle.std.proofs.Common.{◌≡◌, ◌≤◌, length}
use Rattle.command_line.specs.Line.{arguments_of}
use Rattle.text_parts.specs.Parts.{parts_after, left_size}
use Rattle.pipe_script.proofs.Arguments.{arguments_left}
use Rattle.pipe_script.proofs.script_line.arguments.Given as goal

abbrev pub invariant-loop-rest : goal.invariant-loop-rest
invariant-loop-rest l =
    (arguments_left l.args.items (parts_after 32 l.rest) ≡ arguments_of (parts_after 32 l.words)) × (length l.args.items ≤ 8)

abbrev pub decreases-loop-rest : goal.decreases-loop-rest
decreases-loop-rest l = left_size l.rest

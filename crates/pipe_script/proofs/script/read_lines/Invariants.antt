use Rattle.std.proofs.Common.{◌≡◌, ◌+◌, ◌≤◌, [], length}
use Rattle.pipe_script.specs.Script.{after_lines}
use Rattle.pipe_script.specs.View.{entries_view}
use Rattle.text_parts.specs.Parts.{lines_of, parts_after, left_size}
use Rattle.pipe_script.proofs.script.read_lines.Given as goal

abbrev pub invariant-loop-rest : goal.invariant-loop-rest
invariant-loop-rest l =
    (after_lines l.line (parts_after 10 l.rest) (entries_view l.lines.items) ≡ after_lines 1 (lines_of l.text) [])
    × (l.line + left_size l.rest ≤ length l.text + 2)

abbrev pub decreases-loop-rest : goal.decreases-loop-rest
decreases-loop-rest l = left_size l.rest

use Rattle.std.proofs.Common.{◌≡◌, ◌+◌, ◌≤◌, [], length}
use Rattle.sve_asm.specs.Lines.{after_lines}
use Rattle.text_parts.specs.Parts.{lines_of, parts_after, left_size}
use Rattle.sve_asm.proofs.assembling.read_lines.Given as goal

abbrev pub invariant-loop-rest : goal.invariant-loop-rest
invariant-loop-rest l =
    (after_lines l.line (parts_after 10 l.rest) l.words.items ≡ after_lines 1 (lines_of l.text) [])
    × (l.line + left_size l.rest ≤ length l.text + 2)
    × (length l.words.items ≤ 65536)

abbrev pub decreases-loop-rest : goal.decreases-loop-rest
decreases-loop-rest l = left_size l.rest

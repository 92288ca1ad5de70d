use Rattle.std.proofs.Common.{◌≡◌, ◌+◌, ◌≤◌, length}
use Rattle.map_text.specs.Mapping.{after_lines, map_of}
use Rattle.text_parts.specs.Parts.{parts_after, left_size}
use Rattle.map_text.specs.View.{IsBeside}
use Rattle.map_text.proofs.read.read_lines.Given as goal

abbrev pub invariant-loop-rest : goal.invariant-loop-rest
invariant-loop-rest l =
    (after_lines l.image l.line (parts_after 10 l.rest) l.pages.items ≡ map_of l.text l.image)
    × IsBeside l.image l.pages.items
    × (l.line + left_size l.rest ≤ length l.text + 2)

abbrev pub decreases-loop-rest : goal.decreases-loop-rest
decreases-loop-rest l = left_size l.rest

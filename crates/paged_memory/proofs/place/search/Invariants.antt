use Rattle.std.proofs.Common.{◌-◌}
use Rattle.paged_memory.specs.Layout.{head_numbers}
use Rattle.paged_memory.proofs.Places.{Between}
use Rattle.paged_memory.proofs.place.search.Given as goal

abbrev pub invariant-loop-low : goal.invariant-loop-low
invariant-loop-low l = Between (head_numbers l.heads) l.number l.low l.high

abbrev pub decreases-loop-low : goal.decreases-loop-low
decreases-loop-low l = l.high - l.low

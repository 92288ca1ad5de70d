use Rattle.std.proofs.Common.{◌≡◌}
use Rattle.std.proofs.Math.ListN.{replicate}
use Rattle.loop_lists.proofs.values.whole_intervals.Given as goal

abbrev pub invariant-loop-made : goal.invariant-loop-made
invariant-loop-made l = l.intervals.items ≡ replicate l._made (record { from = 0; last_use = l.size })

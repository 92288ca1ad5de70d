use Rattle.std.proofs.Common.{◌≡◌, drop}
use Rattle.std.specs.Prelude.{filter}
use Rattle.dependence.specs.Apart.{is_reach_of, greatest_reach}
use Rattle.overlap_guard.specs.Arrays.{reach_on}
use Rattle.overlap_guard.proofs.used.find_reach.Given as goal

abbrev pub invariant-loop-reach : goal.invariant-loop-reach
invariant-loop-reach l = reach_on l.found (filter (is_reach_of l.place) (drop l.reach-index l.reaches)) ≡ greatest_reach (filter (is_reach_of l.place) l.reaches)

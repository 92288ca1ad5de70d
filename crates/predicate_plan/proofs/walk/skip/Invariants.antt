use Rattle.std.proofs.Common.{◌≡◌, [], ◌++◌, replicate}
use Rattle.predicate_plan.proofs.walk.skip.Given as goal

abbrev pub invariant-loop-item : goal.invariant-loop-item
invariant-loop-item l = l.plan ≡ l.fn.plan ++ replicate l._item []

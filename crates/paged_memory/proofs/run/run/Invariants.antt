use Rattle.paged_memory.specs.Runs.{IsRun}
use Rattle.paged_memory.proofs.run.run.Given as goal

abbrev pub invariant-loop-k : goal.invariant-loop-k
invariant-loop-k l = IsRun l.from l.k l.perm l.front l.pages.items

use Rattle.std.proofs.Common.{◌≡◌, ◌+◌, ◌<◌, take, length}
use Rattle.paged_memory.specs.Epochs.{past_of}
use Rattle.paged_memory.proofs.pages.go_back.Given as goal

abbrev pub invariant-loop-log : goal.invariant-loop-log
invariant-loop-log l = record {
  pages : l.log.pages ≡ l.fn.log.pages;
  len : length l.store ≡ length l.fn.store;
  some : l.n < length l.log.epochs;
  past : take (l.n + 1) (past_of l.log.epochs l.store) ≡ take (l.n + 1) (past_of l.fn.log.epochs l.fn.store);
}

abbrev pub decreases-loop-log : goal.decreases-loop-log
decreases-loop-log l = length l.log.epochs

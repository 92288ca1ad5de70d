use Rattle.std.proofs.Common.{◌≡◌, [], All, length}
use Rattle.paged_memory.proofs.log.epochs.Given as goal

abbrev pub invariant-loop : goal.invariant-loop
invariant-loop l = record {
  count : length l.epochs.items ≡ l.counter;
  each : All (λ epoch. epoch ≡ record { pages = l.fn.pages; places = []; images = [] }) l.epochs.items;
}

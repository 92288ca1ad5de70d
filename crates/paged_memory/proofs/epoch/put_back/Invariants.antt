use Rattle.std.proofs.Common.{◌≡◌, ◌≤◌, length, take}
use Rattle.paged_memory.specs.Epochs.{put_back}
use Rattle.paged_memory.proofs.epoch.put_back.Given as goal

abbrev pub invariant-loop-k : goal.invariant-loop-k
invariant-loop-k l = record {
  below : l.k ≤ length l.places;
  rest : put_back (take l.k l.places) l.images l.store ≡ put_back l.places l.images l.fn.store;
}

abbrev pub decreases-loop-k : goal.decreases-loop-k
decreases-loop-k l = l.k

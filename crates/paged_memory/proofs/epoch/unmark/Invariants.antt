use Rattle.std.proofs.Common.{◌≡◌, drop}
use Rattle.paged_memory.specs.Epochs.{unmarked}
use Rattle.paged_memory.proofs.epoch.unmark.Given as goal

abbrev pub invariant-loop-place : goal.invariant-loop-place
invariant-loop-place l = unmarked (drop l.place-index l.places) l.marks.items ≡ unmarked l.places l.fn.marks.items

use Rattle.std.proofs.Common.{◌≡◌, ◌≤◌, ◌++◌, ◌-◌, length, take, Some, None}
use Rattle.std.specs.Prelude.{IfSome}
use Rattle.io_edges.proofs.sink.put_all.Given as goal

abbrev pub invariant-loop-at : goal.invariant-loop-at
invariant-loop-at g l = record {
  within : l.at ≤ length l.bytes;
  so_far : IfSome (g.S.Sink.taken l.initial.sink) (λ old. g.S.Sink.taken l.sink ≡ Some (old ++ take l.at l.bytes));
  untold : g.S.Sink.taken l.initial.sink ≡ None → g.S.Sink.taken l.sink ≡ None;
  later : g.S.Sink.faults l.initial.sink ≤ g.S.Sink.faults l.sink;
}

abbrev pub decreases-loop-at : goal.decreases-loop-at
decreases-loop-at g l = length l.bytes - l.at

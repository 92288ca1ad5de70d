use Rattle.std.proofs.Common.{Ok, flat_map}
use Rattle.std.specs.List.{range_with_len}
use Rattle.io_edges.specs.Sink.{PutsText}
use Rattle.machine_model.specs.DumpText.{line_of_dump}
use Rattle.sve_debug.proofs.put.put_dump.Given as goal

abbrev pub invariant-loop-k : goal.invariant-loop-k
invariant-loop-k g l =
    PutsText {T = Unit {0}} (g.S.Sink.taken l.initial.out) (g.S.Sink.taken l.out) (g.S.Sink.faults l.initial.out) (g.S.Sink.faults l.out)
    (flat_map (line_of_dump (g.D.Debuggee.view_of l.machine).state.memory l.address l.len) (range_with_len 0 l.k)) (Ok tt)

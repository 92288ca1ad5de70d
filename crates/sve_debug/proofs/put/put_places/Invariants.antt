use Rattle.std.proofs.Common.{Ok, flat_map, take}
use Rattle.io_edges.specs.Sink.{PutsText}
use Rattle.sve_debug.specs.Replies.{place_text}
use Rattle.sve_debug.proofs.put.put_places.Given as goal

abbrev pub invariant-loop-j : goal.invariant-loop-j
invariant-loop-j g l =
    PutsText {T = Unit {0}} (g.S.Sink.taken l.initial.out) (g.S.Sink.taken l.out) (g.S.Sink.faults l.initial.out) (g.S.Sink.faults l.out)
    (flat_map place_text (take l.j l.places.items)) (Ok tt)

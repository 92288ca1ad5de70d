use Rattle.std.proofs.Common.{subst}
use Rattle.io_edges.specs.Sink.{PutsText}
use Rattle.io_edges.proofs.Puts.{puts_then, parts_cons}
use Rattle.io_edges.proofs.sink.+put_pieces.Goals as goal

pub returns : goal.returns
returns g t c =
    let h = c.put_all.ensures in
    subst
    (λ text. PutsText (g.S.Sink.taken c.args.sink.now) (g.S.Sink.taken c.put_pieces.new.sink) (g.S.Sink.faults c.args.sink.now) (g.S.Sink.faults c.put_pieces.new.sink) text c.put_pieces.result)
    (parts_cons c.args.pieces.now _ c.in-len1-up.len_at_least)
    (puts_then (g.S.Sink.taken c.args.sink.now) (g.S.Sink.taken c.put_all.new.sink) (g.S.Sink.taken c.put_pieces.new.sink) (g.S.Sink.faults c.args.sink.now) (g.S.Sink.faults c.put_all.new.sink) (g.S.Sink.faults c.put_pieces.new.sink) _ _ c.put_all.result c.put_pieces.result c.in_ok-put_all.was
    (record { all = h.all; part = h.prefix; untold = h.untold; cause = h.cause }) c.put_pieces.ensures)

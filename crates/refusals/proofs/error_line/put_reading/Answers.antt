use Rattle.std.proofs.Common.{ap, sym}
use Rattle.io_edges.proofs.Puts.{put_as}
use Rattle.refusals.specs.Lines.{line_of_reading}
use Rattle.refusals.proofs.error_line.put_reading.Goals as goal

pub returns-in-TooDeep : goal.returns-in-TooDeep
returns-in-TooDeep g c =
    put_as (g.S.Sink.taken c.args.sink.now) (g.S.Sink.taken c.put_item-in-TooDeep.new.sink) (g.S.Sink.faults c.args.sink.now) (g.S.Sink.faults c.put_item-in-TooDeep.new.sink) _ (line_of_reading c.args.fault) c.put_item-in-TooDeep.result
    (sym (ap line_of_reading c.in-TooDeep.is)) c.put_item-in-TooDeep.ensures

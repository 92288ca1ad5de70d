use Rattle.std.proofs.Common.{ap, sym, ◌∙◌}
use Rattle.std.specs.Prelude.{codes}
use Rattle.refusals.specs.Lines.{numbered, line_of_fault}
use Rattle.io_edges.proofs.Puts.{put_as}
use Rattle.refusals.proofs.error_line.put_fault.Goals as goal

pub returns-in-BadSegment : goal.returns-in-BadSegment
returns-in-BadSegment g c =
    put_as (g.S.Sink.taken c.args.sink.now) (g.S.Sink.taken c.put_numbered.new.sink) (g.S.Sink.faults c.args.sink.now) (g.S.Sink.faults c.put_numbered.new.sink) _ (line_of_fault c.args.fault) c.put_numbered.result
    (ap (numbered (codes "svec: file: bad segment ")) c.from.ensures ∙ sym (ap line_of_fault c.in-BadSegment.is)) c.put_numbered.ensures

pub returns-in-TooManyPages : goal.returns-in-TooManyPages
returns-in-TooManyPages g c =
    put_as (g.S.Sink.taken c.args.sink.now) (g.S.Sink.taken c.put-in-TooManyPages.new.sink) (g.S.Sink.faults c.args.sink.now) (g.S.Sink.faults c.put-in-TooManyPages.new.sink) _ (line_of_fault c.args.fault) c.put-in-TooManyPages.result
    (sym (ap line_of_fault c.in-TooManyPages.is)) c.put-in-TooManyPages.ensures

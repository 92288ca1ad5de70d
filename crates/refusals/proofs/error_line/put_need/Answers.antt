use Rattle.std.proofs.Common.{ap, sym}
use Rattle.io_edges.proofs.Puts.{put_as}
use Rattle.refusals.specs.Lines.{line_of_need}
use Rattle.refusals.proofs.error_line.put_need.Goals as goal

pub returns-in-Z : goal.returns-in-Z
returns-in-Z g c =
    put_as (g.S.Sink.taken c.args.sink.now) (g.S.Sink.taken c.put_item.new.sink) (g.S.Sink.faults c.args.sink.now) (g.S.Sink.faults c.put_item.new.sink) _ (line_of_need c.args.class c.args.need) c.put_item.result
    (sym (ap (λ k. line_of_need k c.args.need) c.in-Z.is)) c.put_item.ensures

pub returns-in-P : goal.returns-in-P
returns-in-P g c =
    put_as (g.S.Sink.taken c.args.sink.now) (g.S.Sink.taken c.put_item-in-P.new.sink) (g.S.Sink.faults c.args.sink.now) (g.S.Sink.faults c.put_item-in-P.new.sink) _ (line_of_need c.args.class c.args.need) c.put_item-in-P.result
    (sym (ap (λ k. line_of_need k c.args.need) c.in-P.is)) c.put_item-in-P.ensures

pub returns-in-X : goal.returns-in-X
returns-in-X g c =
    put_as (g.S.Sink.taken c.args.sink.now) (g.S.Sink.taken c.put_item-in-X.new.sink) (g.S.Sink.faults c.args.sink.now) (g.S.Sink.faults c.put_item-in-X.new.sink) _ (line_of_need c.args.class c.args.need) c.put_item-in-X.result
    (sym (ap (λ k. line_of_need k c.args.need) c.in-X.is)) c.put_item-in-X.ensures

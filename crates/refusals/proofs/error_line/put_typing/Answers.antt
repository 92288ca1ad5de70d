use Rattle.std.proofs.Common.{ap, sym}
use Rattle.io_edges.proofs.Puts.{put_as}
use Rattle.refusals.specs.Lines.{line_of_typing}
use Rattle.refusals.proofs.error_line.put_typing.Goals as goal

pub returns-in-WrongKind : goal.returns-in-WrongKind
returns-in-WrongKind g c =
    put_as (g.S.Sink.taken c.args.sink.now) (g.S.Sink.taken c.put_item-in-WrongKind.new.sink) (g.S.Sink.faults c.args.sink.now) (g.S.Sink.faults c.put_item-in-WrongKind.new.sink) _ (line_of_typing c.args.fault) c.put_item-in-WrongKind.result
    (sym (ap line_of_typing c.in-WrongKind.is)) c.put_item-in-WrongKind.ensures

pub returns-in-LiteralRange : goal.returns-in-LiteralRange
returns-in-LiteralRange g c =
    put_as (g.S.Sink.taken c.args.sink.now) (g.S.Sink.taken c.put_item-in-LiteralRange.new.sink) (g.S.Sink.faults c.args.sink.now) (g.S.Sink.faults c.put_item-in-LiteralRange.new.sink) _ (line_of_typing c.args.fault) c.put_item-in-LiteralRange.result
    (sym (ap line_of_typing c.in-LiteralRange.is)) c.put_item-in-LiteralRange.ensures

pub returns-in-ShiftRange : goal.returns-in-ShiftRange
returns-in-ShiftRange g c =
    put_as (g.S.Sink.taken c.args.sink.now) (g.S.Sink.taken c.put_item-in-ShiftRange.new.sink) (g.S.Sink.faults c.args.sink.now) (g.S.Sink.faults c.put_item-in-ShiftRange.new.sink) _ (line_of_typing c.args.fault) c.put_item-in-ShiftRange.result
    (sym (ap line_of_typing c.in-ShiftRange.is)) c.put_item-in-ShiftRange.ensures

pub returns-in-TooLarge : goal.returns-in-TooLarge
returns-in-TooLarge g c =
    put_as (g.S.Sink.taken c.args.sink.now) (g.S.Sink.taken c.put_item-in-TooLarge.new.sink) (g.S.Sink.faults c.args.sink.now) (g.S.Sink.faults c.put_item-in-TooLarge.new.sink) _ (line_of_typing c.args.fault) c.put_item-in-TooLarge.result
    (sym (ap line_of_typing c.in-TooLarge.is)) c.put_item-in-TooLarge.ensures

pub returns-in-TooDeep : goal.returns-in-TooDeep
returns-in-TooDeep g c =
    put_as (g.S.Sink.taken c.args.sink.now) (g.S.Sink.taken c.put_item-in-TooDeep.new.sink) (g.S.Sink.faults c.args.sink.now) (g.S.Sink.faults c.put_item-in-TooDeep.new.sink) _ (line_of_typing c.args.fault) c.put_item-in-TooDeep.result
    (sym (ap line_of_typing c.in-TooDeep.is)) c.put_item-in-TooDeep.ensures

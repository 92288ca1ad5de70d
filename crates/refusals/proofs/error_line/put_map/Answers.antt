use Rattle.std.proofs.Common.{ap, sym}
use Rattle.refusals.specs.Lines.{line_of_map}
use Rattle.io_edges.proofs.Puts.{put_as}
use Rattle.refusals.proofs.error_line.put_map.Goals as goal

pub returns-in-Clash : goal.returns-in-Clash
returns-in-Clash g c =
    put_as (g.S.Sink.taken c.args.sink.now) (g.S.Sink.taken c.put_numbered-in-Clash.new.sink) (g.S.Sink.faults c.args.sink.now) (g.S.Sink.faults c.put_numbered-in-Clash.new.sink) _ (line_of_map c.args.fault) c.put_numbered-in-Clash.result
    (sym (ap line_of_map c.in-Clash.is)) c.put_numbered-in-Clash.ensures

pub returns-in-Unmapped : goal.returns-in-Unmapped
returns-in-Unmapped g c =
    put_as (g.S.Sink.taken c.args.sink.now) (g.S.Sink.taken c.put_numbered-in-Unmapped.new.sink) (g.S.Sink.faults c.args.sink.now) (g.S.Sink.faults c.put_numbered-in-Unmapped.new.sink) _ (line_of_map c.args.fault) c.put_numbered-in-Unmapped.result
    (sym (ap line_of_map c.in-Unmapped.is)) c.put_numbered-in-Unmapped.ensures

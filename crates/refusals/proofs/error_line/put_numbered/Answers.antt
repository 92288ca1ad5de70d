use Rattle.std.proofs.Common.{◌∙◌, refl, subst}
use Rattle.std.specs.Prelude.{decimal}
use Rattle.machine_model.specs.OutcomeText.{line_feed}
use Rattle.io_edges.specs.Sink.{PutsText}
use Rattle.refusals.proofs.Numbered.{line_with}
use Rattle.refusals.proofs.error_line.put_numbered.Goals as goal

pub returns : goal.returns
returns g c =
    subst
    (λ text. PutsText (g.S.Sink.taken c.args.sink.now) (g.S.Sink.taken c.put_pieces.new.sink) (g.S.Sink.faults c.args.sink.now) (g.S.Sink.faults c.put_pieces.new.sink) text c.put_pieces.result)
    (line_with c.args.front.now (decimal c.args.number) line_feed _ _ _ refl (c.as_bytes-digits.ensures.value ∙ c.format.ensures.text) c.as_slice.ensures)
    c.put_pieces.ensures

use Rattle.std.proofs.Common.{◌∷◌, ◌++◌, ap, ◌∙◌}
use Rattle.std.proofs.lemmas.Result.{on_ok_weaker}
use Rattle.label_fix.specs.DraftRun.{Put}
use Rattle.reductions.proofs.start.emit_number.Goals as goal

pub returns : goal.returns
returns c =
    on_ok_weaker c.put.result (λ p. record {
      labels = p.labels ∙ c.in_ok-emit_const.ensures.labels;
      code = λ rest. p.code rest ∙ ap (λ i. c.emit_const.new.draft.entries ++ Put i ∷ rest) c.broadcast.ensures ∙ c.in_ok-emit_const.ensures.code _;
    })
    c.put.ensures

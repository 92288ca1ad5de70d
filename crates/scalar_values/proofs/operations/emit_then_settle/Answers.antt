use Rattle.std.proofs.Common.{◌∙◌}
use Rattle.std.proofs.lemmas.Result.{IfOk-from_err}
use Rattle.value_code.proofs.TermCode.{on_ok}
use Rattle.scalar_values.proofs.operations.emit_then_settle.Goals as goal

pub put-requires : goal.put-requires
put-requires c = record { plain = c.requires }

pub returns-in_err-put : goal.returns-in_err-put
returns-in_err-put c = IfOk-from_err _ _ c.from_residual.ensures.0

pub returns : goal.returns
returns c = on_ok c.emit_settle.result c.emit_settle.ensures (λ p. record {
  labels = p.labels ∙ c.in_ok-put.ensures.labels;
  code = λ rest. p.code rest ∙ c.in_ok-put.ensures.code _;
})

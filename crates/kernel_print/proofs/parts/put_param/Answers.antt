use Rattle.std.proofs.Common.{◌∙◌}
use Rattle.std.proofs.lemmas.Result.{IfOk-weaker, IfOk-from_err}
use Rattle.kernel_print.proofs.parts.put_param.Goals as goal

pub returns-in_err-put_name : goal.returns-in_err-put_name
returns-in_err-put_name c = IfOk-from_err _ _ c.from_residual.ensures.0

pub returns-in_err-put_mark : goal.returns-in_err-put_mark
returns-in_err-put_mark c = IfOk-from_err _ _ c.from_residual-in_err-put_mark.ensures.0

pub returns : goal.returns
returns c = IfOk-weaker c.put_shape.result _ _ (λ _ h rest. h rest ∙ c.in_ok-put_mark.ensures _ ∙ c.in_ok-put_name.ensures _) c.put_shape.ensures

use Rattle.std.proofs.Common.{◌∙◌}
use Rattle.std.proofs.lemmas.Result.{IfOk-weaker, IfOk-from_err}
use Rattle.kernel_print.proofs.token.put_negative.Goals as goal

pub returns : goal.returns
returns c = IfOk-weaker c.close.result _ _ (λ _ h rest. h rest ∙ c.in_ok-put_number.ensures _ ∙ c.in_ok-put_mark.ensures _ ∙ c.in_ok-open.ensures _) c.close.ensures

pub returns-in_err-open : goal.returns-in_err-open
returns-in_err-open c = IfOk-from_err _ _ c.from_residual.ensures.0

pub returns-in_err-put_mark : goal.returns-in_err-put_mark
returns-in_err-put_mark c = IfOk-from_err _ _ c.from_residual-in_err-put_mark.ensures.0

pub returns-in_err-put_number : goal.returns-in_err-put_number
returns-in_err-put_number c = IfOk-from_err _ _ c.from_residual-in_err-put_number.ensures.0

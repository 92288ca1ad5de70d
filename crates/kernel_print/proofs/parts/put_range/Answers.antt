use Rattle.std.proofs.Common.{◌∙◌}
use Rattle.std.proofs.lemmas.Result.{IfOk-weaker, IfOk-from_err}
use Rattle.kernel_print.proofs.parts.put_range.Goals as goal

pub returns : goal.returns
returns c = IfOk-weaker c.put_mark-4.result _ _ (λ _ h rest. h rest ∙ c.in_ok-put_name-2.ensures _ ∙ c.in_ok-put_mark-3.ensures _ ∙ c.in_ok-put_number.ensures _ ∙ c.in_ok-put_mark-2.ensures _ ∙ c.in_ok-put_name.ensures _ ∙ c.in_ok-put_mark.ensures _) c.put_mark-4.ensures

pub returns-in_err-put_mark : goal.returns-in_err-put_mark
returns-in_err-put_mark c = IfOk-from_err _ _ c.from_residual.ensures.0

pub returns-in_err-put_name : goal.returns-in_err-put_name
returns-in_err-put_name c = IfOk-from_err _ _ c.from_residual-in_err-put_name.ensures.0

pub returns-in_err-put_mark-2 : goal.returns-in_err-put_mark-2
returns-in_err-put_mark-2 c = IfOk-from_err _ _ c.from_residual-in_err-put_mark-2.ensures.0

pub returns-in_err-put_number : goal.returns-in_err-put_number
returns-in_err-put_number c = IfOk-from_err _ _ c.from_residual-in_err-put_number.ensures.0

pub returns-in_err-put_mark-3 : goal.returns-in_err-put_mark-3
returns-in_err-put_mark-3 c = IfOk-from_err _ _ c.from_residual-in_err-put_mark-3.ensures.0

pub returns-in_err-put_name-2 : goal.returns-in_err-put_name-2
returns-in_err-put_name-2 c = IfOk-from_err _ _ c.from_residual-in_err-put_name-2.ensures.0

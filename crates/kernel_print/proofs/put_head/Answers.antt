use Rattle.std.proofs.Common.{◌∙◌}
use Rattle.std.proofs.lemmas.Result.{IfOk-weaker, IfOk-from_err}
use Rattle.kernel_print.proofs.put_head.Goals as goal

pub returns : goal.returns
returns c = IfOk-weaker c.put_mark-3.result _ _ (λ _ h rest. rw (← c.deref.ensures.value) (h rest ∙ c.in_ok-put_arrow.ensures _ ∙ c.in_ok-put_mark-2.ensures _ ∙ c.in_ok-put_params.ensures _ ∙ c.in_ok-put_mark.ensures _ ∙ c.in_ok-put_name.ensures _)) c.put_mark-3.ensures

pub returns-in_err-put_name : goal.returns-in_err-put_name
returns-in_err-put_name c = IfOk-from_err _ _ c.from_residual.ensures.0

pub returns-in_err-put_mark : goal.returns-in_err-put_mark
returns-in_err-put_mark c = IfOk-from_err _ _ c.from_residual-in_err-put_mark.ensures.0

pub returns-in_err-put_params : goal.returns-in_err-put_params
returns-in_err-put_params c = IfOk-from_err _ _ c.from_residual-in_err-put_params.ensures.0

pub returns-in_err-put_mark-2 : goal.returns-in_err-put_mark-2
returns-in_err-put_mark-2 c = IfOk-from_err _ _ c.from_residual-in_err-put_mark-2.ensures.0

pub returns-in_err-put_arrow : goal.returns-in_err-put_arrow
returns-in_err-put_arrow c = IfOk-from_err _ _ c.from_residual-in_err-put_arrow.ensures.0

use Rattle.std.proofs.Common.{◌∙◌}
use Rattle.std.proofs.lemmas.Result.{IfOk-weaker, IfOk-from_err}
use Rattle.kernel_print.proofs.stmt.print_let.Goals as goal

pub returns : goal.returns
returns c = IfOk-weaker c.print_before.result _ _ (λ _ h rest. h rest ∙ c.in_ok-put_mark-2.ensures _ ∙ c.in_ok-put_shown_type.ensures _ ∙ c.in_ok-put_name.ensures _ ∙ c.in_ok-put_mark.ensures _) c.print_before.ensures

pub returns-in_err-put_mark : goal.returns-in_err-put_mark
returns-in_err-put_mark c = IfOk-from_err _ _ c.from_residual.ensures.0

pub returns-in_err-put_name : goal.returns-in_err-put_name
returns-in_err-put_name c = IfOk-from_err _ _ c.from_residual-in_err-put_name.ensures.0

pub returns-in_err-put_shown_type : goal.returns-in_err-put_shown_type
returns-in_err-put_shown_type c = IfOk-from_err _ _ c.from_residual-in_err-put_shown_type.ensures.0

pub returns-in_err-put_mark-2 : goal.returns-in_err-put_mark-2
returns-in_err-put_mark-2 c = IfOk-from_err _ _ c.from_residual-in_err-put_mark-2.ensures.0

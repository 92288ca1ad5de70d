use Rattle.std.proofs.Common.{◌∙◌}
use Rattle.std.proofs.lemmas.Result.{IfOk-weaker, IfOk-from_err}
use Rattle.kernel_print.proofs.stmt.print_store.Goals as goal

pub returns : goal.returns
returns c = IfOk-weaker c.print_before-2.result _ _ (λ _ h rest. h rest ∙ c.in_ok-put_mark-2.ensures _ ∙ c.in_ok-print_before.ensures _ ∙ c.in_ok-put_mark.ensures _ ∙ c.in_ok-put_name.ensures _) c.print_before-2.ensures

pub returns-in_err-put_name : goal.returns-in_err-put_name
returns-in_err-put_name c = IfOk-from_err _ _ c.from_residual.ensures.0

pub returns-in_err-put_mark : goal.returns-in_err-put_mark
returns-in_err-put_mark c = IfOk-from_err _ _ c.from_residual-in_err-put_mark.ensures.0

pub returns-in_err-print_before : goal.returns-in_err-print_before
returns-in_err-print_before c = IfOk-from_err _ _ c.from_residual-in_err-print_before.ensures.0

pub returns-in_err-put_mark-2 : goal.returns-in_err-put_mark-2
returns-in_err-put_mark-2 c = IfOk-from_err _ _ c.from_residual-in_err-put_mark-2.ensures.0

use Rattle.std.proofs.Common.{◌∙◌}
use Rattle.std.proofs.lemmas.Result.{IfOk-weaker, IfOk-from_err}
use Rattle.kernel_print.proofs.stmt.print_update.Goals as goal

pub returns-in_err-put_name : goal.returns-in_err-put_name
returns-in_err-put_name c = IfOk-from_err _ _ c.from_residual.ensures.0

pub returns-in_err-put_update : goal.returns-in_err-put_update
returns-in_err-put_update c = IfOk-from_err _ _ c.from_residual-in_err-put_update.ensures.0

pub returns : goal.returns
returns c = IfOk-weaker c.print_before.result _ _ (λ _ h rest. h rest ∙ c.in_ok-put_update.ensures _ ∙ c.in_ok-put_name.ensures _) c.print_before.ensures

use Rattle.std.proofs.Common.{◌∙◌}
use Rattle.std.proofs.lemmas.Result.{IfOk-weaker, IfOk-from_err}
use Rattle.kernel_print.proofs.stmt.print_before.Goals as goal

pub returns-in_err-print_expr : goal.returns-in_err-print_expr
returns-in_err-print_expr c = IfOk-from_err _ _ c.from_residual.ensures.0

pub returns : goal.returns
returns c = IfOk-weaker c.put_mark.result _ _ (λ _ h rest. h rest ∙ c.in_ok-print_expr.ensures _) c.put_mark.ensures

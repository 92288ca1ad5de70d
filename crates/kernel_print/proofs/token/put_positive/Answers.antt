use Rattle.std.proofs.lemmas.Result.{IfOk-from_err}
use Rattle.kernel_print.proofs.token.put_positive.Goals as goal

pub returns-in_err-put_mark-in-Negated : goal.returns-in_err-put_mark-in-Negated
returns-in_err-put_mark-in-Negated c = IfOk-from_err _ _ c.from_residual.ensures.0

pub returns-in_err-put_number-in-Negated : goal.returns-in_err-put_number-in-Negated
returns-in_err-put_number-in-Negated c = IfOk-from_err _ _ c.from_residual-in_err-put_number-in-Negated.ensures.0

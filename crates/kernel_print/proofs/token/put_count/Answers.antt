use Rattle.std.proofs.lemmas.Result.{IfOk-from_err}
use Rattle.kernel_print.proofs.token.put_count.Goals as goal

pub returns-in_err-put_mark : goal.returns-in_err-put_mark
returns-in_err-put_mark c = IfOk-from_err _ _ c.from_residual.ensures.0

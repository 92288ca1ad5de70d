use Rattle.std.proofs.lemmas.Result.{IfOk-from_err}
use Rattle.paged_memory.proofs.log.epochs.Goals as goal

pub returns-in_err-epochs : goal.returns-in_err-epochs
returns-in_err-epochs c =
    let failed = c.from_residual.ensures.0 in
    record { eight = IfOk-from_err _ _ failed; each = IfOk-from_err _ _ failed }

pub returns-in_err-new : goal.returns-in_err-new
returns-in_err-new c =
    let failed = c.from_residual-in_err-new.ensures.0 in
    record { eight = IfOk-from_err _ _ failed; each = IfOk-from_err _ _ failed }

pub returns-in_err-push : goal.returns-in_err-push
returns-in_err-push c =
    let failed = c.from_residual-in_err-push.ensures.0 in
    record { eight = IfOk-from_err _ _ failed; each = IfOk-from_err _ _ failed }

use Rattle.std.proofs.lemmas.Result.{IfOk-from_err}
use Rattle.kernel_types.proofs.kernels.notes_in.Goals as goal

pub returns-in_err-walk_parts : goal.returns-in_err-walk_parts
returns-in_err-walk_parts c =
    let failed = c.from_residual.ensures.0 in
    record { found = IfOk-from_err _ _ failed; types = IfOk-from_err _ _ failed }

pub returns : goal.returns
returns c =
    record { found = c.in_ok-walk_parts.ensures.found; types = c.in_ok-walk_parts.ensures.types }

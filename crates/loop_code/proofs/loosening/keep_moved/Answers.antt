use Rattle.guest_types.proofs.Errors.{on_error}
use Rattle.loop_code.proofs.loosening.keep_moved.Goals as goal

pub returns-in_err-answered : goal.returns-in_err-answered
returns-in_err-answered c =
    let failed = c.from_residual.ensures.0 in
    record { scope = on_error _ _ failed; loose = on_error _ _ failed }

pub returns-in_err-covered : goal.returns-in_err-covered
returns-in_err-covered c =
    let failed = c.from_residual-in_err-covered.ensures.0 in
    record { scope = on_error _ _ failed; loose = on_error _ _ failed }

pub returns-then-not-answered-clause-scope : goal.returns-then-not-answered-clause-scope
returns-then-not-answered-clause-scope c = c.in_ok-covered.ensures.scope

pub returns-else-not-answered-clause-scope : goal.returns-else-not-answered-clause-scope
returns-else-not-answered-clause-scope c = c.in_ok-covered.ensures.scope

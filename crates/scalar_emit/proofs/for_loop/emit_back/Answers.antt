use Rattle.guest_types.proofs.Errors.{on_error}
use Rattle.scalar_emit.proofs.for_loop.emit_back.Goals as goal

pub returns-in_err-put-in_default : goal.returns-in_err-put-in_default
returns-in_err-put-in_default c = on_error _ _ c.from_residual.ensures.0

use Rattle.std.proofs.lemmas.Result.{on_ok_weaker}
use Rattle.guest_types.proofs.Errors.{on_error}
use Rattle.lane_emit.proofs.Appended.{adds_after}
use Rattle.lane_emit.proofs.code.settled.Goals as goal

pub returns-in_err-push : goal.returns-in_err-push
returns-in_err-push c = on_error _ _ c.from_residual.ensures.0

pub returns : goal.returns
returns c = on_ok_weaker c.z_settle.result (λ p. adds_after c.args.words.now.items c.push.new.self.items c.z_settle.new.words.items c.args.word _ c.in_ok-push.ensures.items p) c.z_settle.ensures

use Rattle.guest_types.proofs.Errors.{on_error}
use Rattle.lane_emit.proofs.Appended.{no_copy, one_copy}
use Rattle.lane_emit.proofs.code.z_copy.Goals as goal

pub returns-then-d-a : goal.returns-then-d-a
returns-then-d-a c = no_copy c.args.words.now.items c.args.d.number c.args.a.number c.if-d-a.true

pub returns-in_err-push : goal.returns-in_err-push
returns-in_err-push c = on_error _ _ c.from_residual.ensures.0

pub returns : goal.returns
returns c = one_copy c.args.words.now.items c.push.new.self.items c.bitwise.result c.args.d.number c.args.a.number c.if-d-a.false c.in_ok-push.ensures.items c.bitwise.ensures

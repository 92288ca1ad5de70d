use Rattle.std.proofs.Common.{ap, ◌∙◌}
use Rattle.guest_types.specs.Lanes.{shift_at}
use Rattle.a64_machine.specs.Cores.{VectorState}
use Rattle.sve_machine.specs.VectorStates.{z_of, put_lanes}
use Rattle.sve_machine.proofs.VectorStateLaws.{z_read}
use Rattle.sve_machine.proofs.BankShapes.{z_is, bank_shape, bank_put}
use Rattle.sve_machine.proofs.vectors.Vectors.shift.Goals as goal

pub shift_in-requires-clause-ends : goal.shift_in-requires-clause-ends
shift_in-requires-clause-ends c =
    let own = c.self.inside in
    (z_read own.z own.p own.ffr own.vl own.stops c.args.zd c.self.invariant c.requires.zd).past

pub invariant_of-self : goal.invariant_of-self
invariant_of-self c =
    let own = c.self.inside in
    bank_shape own.z own.p own.ffr own.vl own.stops c.args.zd c.args.width _ c.shift_in.new.zs c.self.invariant c.shift_in.ensures

pub returns : goal.returns
returns c =
    let own = c.self.inside in
    bank_put own.z own.p own.ffr own.vl own.stops c.args.zd c.args.width _ _ c.shift_in.new.zs c.shift_in.ensures
    (ap (λ l. shift_at c.args.op c.args.width l c.args.count) (z_is own.z own.p own.ffr own.vl own.stops c.args.zn))
    ∙ ap (λ (r : VectorState). put_lanes r c.args.zd c.args.width (shift_at c.args.op c.args.width (z_of r c.args.zn) c.args.count)) c.self.view_is

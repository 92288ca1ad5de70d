use Rattle.std.proofs.Common.{ap, ap₂, ◌∙◌}
use Rattle.guest_types.specs.Lanes.{binary_at}
use Rattle.a64_machine.specs.Cores.{VectorState}
use Rattle.sve_machine.specs.VectorStates.{z_of, put_lanes}
use Rattle.sve_machine.proofs.VectorStateLaws.{z_read}
use Rattle.sve_machine.proofs.BankShapes.{z_is, bank_shape, bank_put}
use Rattle.sve_machine.proofs.vectors.Vectors.binary.Goals as goal

pub binary_in-requires-clause-ends : goal.binary_in-requires-clause-ends
binary_in-requires-clause-ends c =
    let own = c.self.inside in
    (z_read own.z own.p own.ffr own.vl own.stops c.args.zd c.self.invariant c.requires.zd).past

pub invariant_of-self : goal.invariant_of-self
invariant_of-self c =
    let own = c.self.inside in
    bank_shape own.z own.p own.ffr own.vl own.stops c.args.zd c.args.width _ c.binary_in.new.zs c.self.invariant c.binary_in.ensures

pub returns : goal.returns
returns c =
    let own = c.self.inside in
    bank_put own.z own.p own.ffr own.vl own.stops c.args.zd c.args.width _ _ c.binary_in.new.zs c.binary_in.ensures
    (ap₂ (binary_at c.args.op c.args.width) (z_is own.z own.p own.ffr own.vl own.stops c.args.zn) (z_is own.z own.p own.ffr own.vl own.stops c.args.zm))
    ∙ ap (λ (r : VectorState). put_lanes r c.args.zd c.args.width (binary_at c.args.op c.args.width (z_of r c.args.zn) (z_of r c.args.zm))) c.self.view_is

use Rattle.std.proofs.Common.{ap, ◌∙◌}
use Rattle.guest_types.specs.Lanes.{dup_at}
use Rattle.a64_machine.specs.Cores.{VectorState}
use Rattle.sve_machine.specs.VectorStates.{put_lanes}
use Rattle.sve_machine.proofs.BankShapes.{made_shape, made_put}
use Rattle.sve_machine.proofs.vectors.Vectors.duplicate.Goals as goal

pub invariant_of-self : goal.invariant_of-self
invariant_of-self c =
    let own = c.self.inside in
    made_shape own.z own.p own.ffr own.vl own.stops c.args.zd c.args.width _ c.dup_into.new.out c.self.invariant c.dup_into.ensures

pub returns : goal.returns
returns c =
    let own = c.self.inside in
    made_put own.z own.p own.ffr own.vl own.stops c.args.zd c.args.width _ c.dup_into.new.out c.dup_into.ensures
    ∙ ap (λ (r : VectorState). put_lanes r c.args.zd c.args.width (dup_at c.args.value)) c.self.view_is

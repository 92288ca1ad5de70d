use Rattle.std.proofs.Common.{ap, ◌∙◌}
use Rattle.std.specs.Int.{w32, w64, cast_unsigned}
use Rattle.std.proofs.lemmas.Int.{to_z-of_z}
use Rattle.guest_types.specs.Lanes.{index_at}
use Rattle.a64_machine.specs.Cores.{VectorState}
use Rattle.sve_machine.specs.VectorStates.{vector_state_of, put_lanes}
use Rattle.sve_machine.proofs.BankShapes.{made_shape, made_put}
use Rattle.sve_machine.proofs.vectors.Vectors.index.Goals as goal

pub invariant_of-self : goal.invariant_of-self
invariant_of-self c =
    let own = c.self.inside in
    made_shape own.z own.p own.ffr own.vl own.stops c.args.zd c.args.width _ c.index_into.new.out c.self.invariant c.index_into.ensures

pub returns : goal.returns
returns c =
    let own = c.self.inside in
    made_put own.z own.p own.ffr own.vl own.stops c.args.zd c.args.width _ c.index_into.new.out c.index_into.ensures
    ∙ ap (λ b. put_lanes (vector_state_of own.z own.p own.ffr own.vl own.stops) c.args.zd c.args.width (index_at c.args.from (cast_unsigned w64 b))) (to_z-of_z w32 c.args.by c.ranges.by)
    ∙ ap (λ (r : VectorState). put_lanes r c.args.zd c.args.width (index_at c.args.from (cast_unsigned w64 c.args.by))) c.self.view_is

use Rattle.std.proofs.Common.{sym, ap, ◌∙◌, subst}
use Rattle.guest_types.specs.Lanes.{merge_one_at}
use Rattle.a64_machine.specs.Cores.{VectorState}
use Rattle.sve_machine.specs.VectorStates.{IsVectorState, vector_state_of, z_of, p_of, put_lanes}
use Rattle.sve_machine.proofs.VectorStateLaws.{z_read}
use Rattle.sve_machine.proofs.BankShapes.{mask_back, z_is, predicate_of_bank, bank_shape, bank_put, lane3}
use Rattle.sve_machine.proofs.vectors.Vectors.merge_one.Goals as goal

pub merge_one_in-requires-clause-ends : goal.merge_one_in-requires-clause-ends
merge_one_in-requires-clause-ends c =
    let own = c.self.inside in
    (z_read own.z own.p own.ffr own.vl own.stops c.args.zd c.self.invariant c.requires.zd).past

pub invariant_of-self : goal.invariant_of-self
invariant_of-self c =
    let own = c.self.inside in
    subst (λ p. IsVectorState (vector_state_of c.merge_one_in.new.zs p own.ffr own.vl own.stops)) (sym (mask_back own.p c.args.pg))
    (bank_shape own.z own.p own.ffr own.vl own.stops c.args.zd c.args.width _ c.merge_one_in.new.zs c.self.invariant c.merge_one_in.ensures)

pub returns : goal.returns
returns c =
    let own = c.self.inside in
    ap (λ p. vector_state_of c.merge_one_in.new.zs p own.ffr own.vl own.stops) (mask_back own.p c.args.pg)
    ∙ bank_put own.z own.p own.ffr own.vl own.stops c.args.zd c.args.width _ _ c.merge_one_in.new.zs c.merge_one_in.ensures
    (lane3 (merge_one_at c.args.op c.args.width) _ _ _ _ _ _ (predicate_of_bank own.z own.p own.ffr own.vl own.stops c.args.pg) (z_is own.z own.p own.ffr own.vl own.stops c.args.zd) (z_is own.z own.p own.ffr own.vl own.stops c.args.zn))
    ∙ ap (λ (r : VectorState). put_lanes r c.args.zd c.args.width (merge_one_at c.args.op c.args.width (p_of r c.args.pg) (z_of r c.args.zd) (z_of r c.args.zn))) c.self.view_is

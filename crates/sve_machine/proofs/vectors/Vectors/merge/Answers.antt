use Rattle.std.proofs.Common.{◌≡◌, ℕ, ◌<◌, true, sym, ap, ◌∙◌, subst}
use Rattle.guest_types.specs.Length.{lanes}
use Rattle.guest_types.specs.Elements.{active}
use Rattle.guest_types.specs.Lanes.{merge_at}
use Rattle.a64_machine.specs.Cores.{VectorState}
use Rattle.sve_machine.specs.VectorStates.{IsVectorState, vector_state_of, z_of, p_of, put_lanes}
use Rattle.sve_machine.proofs.VectorStateLaws.{z_read}
use Rattle.sve_machine.proofs.BankShapes.{mask_back, z_is, predicate_of_bank, bank_shape, bank_put, lane3, merged_all}
use Rattle.sve_machine.proofs.vectors.Vectors.merge.Goals as goal

pub merge_in-requires-clause-ends : goal.merge_in-requires-clause-ends
merge_in-requires-clause-ends c =
    let own = c.self.inside in
    (z_read own.z own.p own.ffr own.vl own.stops c.args.zdn c.self.invariant c.requires.zdn).past

pub invariant_of-self : goal.invariant_of-self
invariant_of-self c =
    let own = c.self.inside in
    subst (λ p. IsVectorState (vector_state_of c.merge_in.new.zs p own.ffr own.vl own.stops)) (sym (mask_back own.p c.args.pg))
    (bank_shape own.z own.p own.ffr own.vl own.stops c.args.zdn c.args.width _ c.merge_in.new.zs c.self.invariant c.merge_in.ensures)

pub returns : goal.returns
returns c =
    let own = c.self.inside in
    ap (λ p. vector_state_of c.merge_in.new.zs p own.ffr own.vl own.stops) (mask_back own.p c.args.pg)
    ∙ bank_put own.z own.p own.ffr own.vl own.stops c.args.zdn c.args.width _ _ c.merge_in.new.zs c.merge_in.ensures
    (lane3 (merge_at c.args.op c.args.width) _ _ _ _ _ _ (predicate_of_bank own.z own.p own.ffr own.vl own.stops c.args.pg) (z_is own.z own.p own.ffr own.vl own.stops c.args.zdn) (z_is own.z own.p own.ffr own.vl own.stops c.args.zm))
    ∙ ap (λ (r : VectorState). put_lanes r c.args.zdn c.args.width (merge_at c.args.op c.args.width (p_of r c.args.pg) (z_of r c.args.zdn) (z_of r c.args.zm))) c.self.view_is

pub returns-then-is_all_true : goal.returns-then-is_all_true
returns-then-is_all_true c =
    let own = c.self.inside in
    let w = c.args.width in
    let r = c.args.self.now in
    let all : (v : VectorState) → Type 0 = λ v. (e : ℕ) → e < lanes v.vl w → active w (p_of v c.args.pg) e ≡ true in
    let here : all (vector_state_of own.z own.p own.ffr own.vl own.stops) = λ e lt. ap (λ p. active w p e) (sym (predicate_of_bank own.z own.p own.ffr own.vl own.stops c.args.pg)) ∙ c.is_all_true.ensures c.if-is_all_true.true e lt in
    c.binary.ensures ∙ merged_all r c.args.zdn c.args.op w (p_of r c.args.pg) (z_of r c.args.zdn) (z_of r c.args.zm) (subst all c.self.view_is here)

pub bounds-self-inside-pg : goal.bounds-self-inside-pg
bounds-self-inside-pg c = c.requires.pg

pub binary-requires-clause-zd : goal.binary-requires-clause-zd
binary-requires-clause-zd c = c.requires.zdn

pub binary-requires-clause-zn : goal.binary-requires-clause-zn
binary-requires-clause-zn c = c.requires.zdn

pub binary-requires-clause-zm : goal.binary-requires-clause-zm
binary-requires-clause-zm c = c.requires.zm

pub merge_in-requires-clause-right : goal.merge_in-requires-clause-right
merge_in-requires-clause-right c = c.requires.zm

pub merge_in-requires-clause-out : goal.merge_in-requires-clause-out
merge_in-requires-clause-out c = c.requires.zdn

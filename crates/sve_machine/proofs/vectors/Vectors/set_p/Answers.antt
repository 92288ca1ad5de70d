use Rattle.std.proofs.Common.{ap, sym, subst, ◌∙◌}
use Rattle.machine_model.specs.States.{IsPredicate}
use Rattle.a64_machine.specs.Cores.{VectorState}
use Rattle.sve_machine.specs.VectorStates.{IsVectorState, vector_state_of, put_p}
use Rattle.sve_machine.proofs.VectorStateLaws.{p_set, p_put}
use Rattle.sve_machine.proofs.vectors.Vectors.set_p.Goals as goal

pub invariant_of-self : goal.invariant_of-self
invariant_of-self c =
    let own = c.self.inside in
    let before = vector_state_of own.z own.p own.ffr own.vl own.stops in
    subst IsVectorState (sym (p_set own.z own.p own.ffr own.vl own.stops c.args.n c.args.register.now))
    (p_put before c.args.n c.args.register.now.bits c.self.invariant
    (subst (λ (r : VectorState). IsPredicate r.vl c.args.register.now.bits) (sym c.self.view_is) c.requires.shape))

pub returns : goal.returns
returns c =
    let own = c.self.inside in
    p_set own.z own.p own.ffr own.vl own.stops c.args.n c.args.register.now
    ∙ ap (λ r. put_p r c.args.n c.args.register.now.bits) c.self.view_is

use Rattle.std.proofs.Common.{ap, sym, subst, ◌∙◌}
use Rattle.machine_model.specs.States.{IsVector}
use Rattle.a64_machine.specs.Cores.{VectorState}
use Rattle.sve_machine.specs.VectorStates.{IsVectorState, vector_state_of, put_z}
use Rattle.sve_machine.proofs.VectorStateLaws.{z_set, z_put}
use Rattle.sve_machine.proofs.vectors.Vectors.set_z.Goals as goal

pub invariant_of-self : goal.invariant_of-self
invariant_of-self c =
    let own = c.self.inside in
    let before = vector_state_of own.z own.p own.ffr own.vl own.stops in
    subst IsVectorState (sym (z_set own.z own.p own.ffr own.vl own.stops c.args.n c.args.register.now))
    (z_put before c.args.n c.args.register.now.bytes c.self.invariant
    (subst (λ (r : VectorState). IsVector r.vl c.args.register.now.bytes) (sym c.self.view_is) c.requires.shape))

pub returns : goal.returns
returns c =
    let own = c.self.inside in
    z_set own.z own.p own.ffr own.vl own.stops c.args.n c.args.register.now
    ∙ ap (λ r. put_z r c.args.n c.args.register.now.bytes) c.self.view_is

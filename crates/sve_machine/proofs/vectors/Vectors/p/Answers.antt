use Rattle.std.proofs.Common.{[], get_or, sym, ap, ◌∙◌, subst, arith}
use Rattle.guest_types.specs.Length.{IsLength}
use Rattle.machine_model.specs.States.{IsPredicate}
use Rattle.a64_machine.specs.Cores.{VectorState}
use Rattle.std.proofs.Math.ListN.{get_or-map}
use Rattle.sve_machine.specs.VectorStates.{p_bits, p_of}
use Rattle.sve_machine.proofs.VectorStateLaws.{p_read}
use Rattle.sve_machine.proofs.vectors.Vectors.p.Goals as goal

pub returns-clause-shape : goal.returns-clause-shape
returns-clause-shape c =
    let own = c.self.inside in
    subst (λ (r : VectorState). IsPredicate r.vl (get_or own.p c.args.n (record { bits = [] })).bits) c.self.view_is
    (p_read own.z own.p own.ffr own.vl own.stops c.args.n c.self.invariant c.requires)

pub returns-clause-sized : goal.returns-clause-sized
returns-clause-sized c = subst (λ (r : VectorState). IsLength r.vl) c.self.view_is c.self.invariant.sized

pub offset_bounds-self-inside-n : goal.offset_bounds-self-inside-n
offset_bounds-self-inside-n c = omega (arith, c.requires)

pub bounds-self-inside-n : goal.bounds-self-inside-n
bounds-self-inside-n c = c.requires

pub returns-clause-value : goal.returns-clause-value
returns-clause-value c = sym (get_or-map p_bits c.self.inside.p c.args.n (record { bits = [] })) ∙ ap (λ (r : VectorState). p_of r c.args.n) c.self.view_is

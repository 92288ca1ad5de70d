use Rattle.std.proofs.Common.{arith, refl}
use Rattle.scalar_words.specs.KernelRegisters.{register_in}
use Rattle.scalar_words.proofs.NameSteps.{var_scope, var_more, after_all, all_homes}
use Rattle.guest_types.proofs.Errors.{on_error}
use Rattle.scalar_words.proofs.names.declare_vars.Goals as goal

pub loop-place-preserved : goal.loop-place-preserved
loop-place-preserved c =
    let l = c.loop-place in
    let R = register_in c.args.regs.now in
    let vs = c.args.vars.now in
    let v = c.index-vars-place.result in
    let at = c.index-vars-place.is in
    record {
      scope = var_scope R vs l.place v c.loop-place-test.true at _ _ _ c.in_ok-declare_var.ensures.scope l.invariant.scope;
      homes = var_more R vs l.place v c.loop-place-test.true at _ _ _ c.in_ok-declare_var.ensures.homes l.invariant.homes;
    }

pub declare_var-requires : goal.declare_var-requires
declare_var-requires c = record { assigned = c.requires.assigned; within = omega (arith, c.loop-place-test.true, c.requires.within) }

pub returns : goal.returns
returns c =
    let l = c.loop-place in
    record {
      scope = after_all c.args.vars.now l.place _ _ c.loop-place-test.false l.invariant.scope;
      homes = all_homes (register_in c.args.regs.now) c.args.vars.now l.place _ _ c.loop-place-test.false l.invariant.homes;
    }

pub loop-place-init : goal.loop-place-init
loop-place-init c = record { scope = refl; homes = refl }

pub returns-in_err-declare_var : goal.returns-in_err-declare_var
returns-in_err-declare_var c =
    let failed = c.from_residual.ensures.0 in
    record { scope = on_error _ _ failed; homes = on_error _ _ failed }

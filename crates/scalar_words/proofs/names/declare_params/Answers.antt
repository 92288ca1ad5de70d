use Rattle.std.proofs.Common.{arith, ◌+◌, refl, ap, ◌∙◌}
use Rattle.kernel_tree.specs.Plain.{name_of}
use Rattle.kernel_tree.specs.Typing.{Scope, declared}
use Rattle.kernel_scope.specs.Scopes.{scope_of}
use Rattle.scalar_words.proofs.NameSteps.{param_scope, param_more, params_all, params_homes, param_low}
use Rattle.guest_types.proofs.Errors.{on_error}
use Rattle.scalar_words.proofs.names.declare_params.Goals as goal

pub loop-param-preserved : goal.loop-param-preserved
loop-param-preserved c =
    let l = c.loop-param in
    let ps = c.args.params.now in
    let p = c.param-item.result in
    let held = c.in_ok-declare_held.ensures in
    let scope = held.scope ∙ ap (λ b. declared (scope_of l.scope) (name_of p.name) b) c.binding.ensures in
    let at = c.param-item.is in
    record {
      place = ap (λ n. n + 1) l.invariant.place;
      scope = param_scope ps l.param-index p c.loop-param-test.true at _ _ _ scope l.invariant.scope;
      index = ap (λ (s : Scope). s.index) scope ∙ l.invariant.index;
      homes = param_more ps l.param-index p c.loop-param-test.true at l.place _ _ _ held.homes l.invariant.homes;
    }

pub loop-param-init : goal.loop-param-init
loop-param-init c = record { place = refl; scope = refl; index = refl; homes = refl }

pub returns-in_err-declare_held : goal.returns-in_err-declare_held
returns-in_err-declare_held c =
    let failed = c.from_residual.ensures.0 in
    record { scope = on_error _ _ failed; index = on_error _ _ failed; homes = on_error _ _ failed }

pub invariant_of-register : goal.invariant_of-register
invariant_of-register c = record { in_range = param_low c.args.params.now c.loop-param.param-index c.loop-param.place c.loop-param.invariant.place c.loop-param-test.true c.requires }

pub overflow_add-place : goal.overflow_add-place
overflow_add-place c = omega (arith, c.loop-param.invariant.place, c.loop-param-test.true, c.requires)

pub returns : goal.returns
returns c =
    let l = c.loop-param in
    record {
      scope = params_all c.args.params.now l.param-index _ _ c.loop-param-test.false l.invariant.scope;
      index = l.invariant.index;
      homes = params_homes c.args.params.now l.param-index l.place _ _ c.loop-param-test.false l.invariant.homes;
    }

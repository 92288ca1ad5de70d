use Rattle.std.proofs.Common.{◌+◌, ap, ◌∙◌, arith, drop, refl}
use Rattle.kernel_tree.specs.Plain.{parameter_of, parameters_of}
use Rattle.kernel_scope.specs.Scopes.{scope_of}
use Rattle.kernel_types.proofs.ListWalks.{params_go_on}
use Rattle.std.proofs.lemmas.Result.{IfOk-from_err}
use Rattle.kernel_tree.proofs.Walks.{next_item, no_param}
use Rattle.kernel_types.proofs.PartWalks.{params_end}
use Rattle.kernel_types.proofs.kernels.walk_params.Goals as goal

pub loop-param-preserved : goal.loop-param-preserved
loop-param-preserved c =
    let l = c.loop-param in
    let made = c.in_ok-walk_param.ensures in
    let x = c.param-item.result in
    let e = ap parameters_of (next_item c.args.params.now l.param-index x c.loop-param-test.true c.param-item.is) in
    let step = params_go_on (scope_of l.scope) (scope_of c.walk_param.new.scope) l.notes c.walk_param.new.notes (parameter_of x) (parameters_of (drop (l.param-index + 1) c.args.params.now)) (parameters_of (drop l.param-index c.args.params.now)) e made.scope made.next made.found made.types in
    record {
      scope = step.scope ∙ l.invariant.scope;
      next = omega (arith, made.next, l.invariant.next);
      found = step.found ∙ l.invariant.found;
      types = λ last k. l.invariant.types last (step.types last k);
    }

pub loop-param-init : goal.loop-param-init
loop-param-init c =
    record { scope = refl; next = omega arith; found = refl; types = λ last k. k }

pub walk_param-requires : goal.walk_param-requires
walk_param-requires c =
    omega arith

pub returns-in_err-walk_param : goal.returns-in_err-walk_param
returns-in_err-walk_param c =
    let failed = c.from_residual.ensures.0 in
    record { scope = IfOk-from_err _ _ failed; next = IfOk-from_err _ _ failed; found = IfOk-from_err _ _ failed; types = IfOk-from_err _ _ failed }

pub returns : goal.returns
returns c =
    let l = c.loop-param in
    let made = params_end (scope_of c.args.scope.now) (scope_of l.scope) c.args.notes.now l.notes (parameters_of (drop l.param-index c.args.params.now)) (parameters_of c.args.params.now) (no_param c.args.params.now l.param-index c.loop-param-test.false) l.invariant.scope l.invariant.found l.invariant.types in
    record { scope = made.scope; next = omega arith; found = made.found; types = made.types }

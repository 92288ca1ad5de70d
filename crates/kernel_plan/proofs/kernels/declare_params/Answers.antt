use Rattle.std.proofs.Common.{◌+◌, List, refl, sym, ap, ◌∙◌, drop}
use Rattle.std.proofs.Math.ListN.{drop_of_length-le}
use Rattle.std.proofs.lemmas.Result.{IfOk-from_err}
use Rattle.kernel_tree.specs.declared.ast.Param.{Param}
use Rattle.kernel_tree.specs.Plain.{name_of, parameters_of}
use Rattle.kernel_tree.specs.Typing.{declared, after_params}
use Rattle.kernel_tree.proofs.Walks.{next_item}
use Rattle.kernel_scope.specs.Scopes.{scope_of}
use Rattle.kernel_plan.proofs.kernels.declare_params.Goals as goal

pub loop-param-init : goal.loop-param-init
loop-param-init c = refl

pub returns-in_err-declare : goal.returns-in_err-declare
returns-in_err-declare c = IfOk-from_err _ _ c.from_residual.ensures.0

pub loop-param-preserved : goal.loop-param-preserved
loop-param-preserved c =
    let l = c.loop-param in
    let e = next_item c.args.params.now l.param-index c.param-item.result c.loop-param-test.true c.param-item.is in
    ap (λ s. after_params s (parameters_of (drop (l.param-index + 1) c.args.params.now))) (c.in_ok-declare.ensures ∙ ap (declared (scope_of l.scope) (name_of c.param-item.result.name)) c.binding.ensures)
    ∙ sym (ap (λ (xs : List Param). after_params (scope_of l.scope) (parameters_of xs)) e)
    ∙ l.invariant

pub returns : goal.returns
returns c =
    let l = c.loop-param in
    ap (λ (xs : List Param). after_params (scope_of l.scope) (parameters_of xs)) (sym (drop_of_length-le c.args.params.now c.loop-param-test.false)) ∙ l.invariant

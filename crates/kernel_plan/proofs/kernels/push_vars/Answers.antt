use Rattle.std.proofs.Common.{◌+◌, List, refl, sym, ap, ap₂, ◌∙◌, drop}
use Rattle.std.proofs.Math.ListN.{drop_of_length-le}
use Rattle.std.proofs.lemmas.Result.{IfOk-from_err}
use Rattle.kernel_tree.specs.declared.ast.Var.{Var}
use Rattle.kernel_tree.specs.Plain.{accumulator_of, accumulators_of}
use Rattle.kernel_tree.specs.Typing.{after_vars}
use Rattle.kernel_tree.proofs.Walks.{next_item}
use Rattle.kernel_scope.specs.Scopes.{scope_of}
use Rattle.kernel_plan.specs.Trees.{Set, tasks_of, followed}
use Rattle.kernel_plan.specs.declared.step.Step.TheVariants as step
use Rattle.kernel_plan.specs.Plans as plans
use Rattle.kernel_plan.proofs.ListWalks.{vars_go_on, followed-done}
use Rattle.kernel_plan.proofs.kernels.push_vars.Goals as goal

pub loop-var-preserved : goal.loop-var-preserved
loop-var-preserved c =
    let l = c.loop-var in
    let e = ap accumulators_of (next_item c.args.vars.now l.var-index c.var-item.result c.loop-var-test.true c.var-item.is) in
    let made = ap₂ Set c.visible_count-slot.ensures c.in_ok-value.ensures in
    let on = vars_go_on (scope_of l.scope) (scope_of c.declare.new.scope) l.steps.items c.push.new.self.items (step.Set c.visible_count-slot.result c.in_ok-value.value) (accumulator_of c.var-item.result) (accumulators_of (drop (l.var-index + 1) c.args.vars.now)) (accumulators_of (drop l.var-index c.args.vars.now)) e c.in_ok-declare.ensures c.in_ok-push.ensures.items made in
    record {
      scope = on.scope ∙ l.invariant.scope;
      steps = on.steps ∙ l.invariant.steps;
    }

pub returns-clause-steps : goal.returns-clause-steps
returns-clause-steps c =
    let l = c.loop-var in
    let e = drop_of_length-le c.args.vars.now c.loop-var-test.false in
    sym (followed-done (tasks_of l.steps.items)) ∙ ap (λ (xs : List Var). followed (tasks_of l.steps.items) (plans.resolved_vars (scope_of l.scope) (accumulators_of xs))) (sym e) ∙ l.invariant.steps

pub returns-clause-scope : goal.returns-clause-scope
returns-clause-scope c =
    let l = c.loop-var in
    let e = drop_of_length-le c.args.vars.now c.loop-var-test.false in
    ap (λ (xs : List Var). after_vars (scope_of l.scope) (accumulators_of xs)) (sym e) ∙ l.invariant.scope

pub loop-var-init : goal.loop-var-init
loop-var-init c = record { scope = refl; steps = refl }

pub returns-in_err-value : goal.returns-in_err-value
returns-in_err-value c =
    let failed = c.from_residual.ensures.0 in
    record { steps = IfOk-from_err _ _ failed; scope = IfOk-from_err _ _ failed }

pub returns-in_err-push : goal.returns-in_err-push
returns-in_err-push c =
    let failed = c.from_residual-in_err-push.ensures.0 in
    record { steps = IfOk-from_err _ _ failed; scope = IfOk-from_err _ _ failed }

pub returns-in_err-declare : goal.returns-in_err-declare
returns-in_err-declare c =
    let failed = c.from_residual-in_err-declare.ensures.0 in
    record { steps = IfOk-from_err _ _ failed; scope = IfOk-from_err _ _ failed }

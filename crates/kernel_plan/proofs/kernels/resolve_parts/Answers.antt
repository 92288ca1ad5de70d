use Rattle.std.proofs.Common.{◌≡◌, List, Option, refl, ap, ap₂, ◌∙◌}
use Rattle.kernel_tree.specs.declared.ast.Param.{Param}
use Rattle.kernel_tree.specs.Plain.{parameters_of, accumulators_of, program_of}
use Rattle.kernel_tree.specs.Typing.{after_params, after_vars, after_for_loop, param_scope, var_scope}
use Rattle.kernel_scope.specs.Scopes.{scope_of}
use Rattle.kernel_plan.specs.declared.step.Step.{Step}
use Rattle.kernel_plan.specs.Trees.{Tree, Tasks, tasks_of, followed}
use Rattle.kernel_plan.specs.Plans.{LoopPlan, Planned, resolved_vars, resolved_for_loop, resolved_answer}
use Rattle.kernel_plan.proofs.SameNames.{answer-same}
use Rattle.kernel_plan.proofs.kernels.resolve_parts.Goals as goal

same_plan : (a b : Tasks) (l m : Option LoopPlan) (t u : Option Tree) → a ≡ b → l ≡ m → t ≡ u → ◌≡◌ {A = Planned} (record { start = a; for_loop = l; answer = t }) (record { start = b; for_loop = m; answer = u })
same_plan a b l m t u e f g = rw (e, f, g) refl

pub returns : goal.returns
returns c =
    let k = program_of c.args.kernel.now in
    let params : scope_of c.declare_params.new.scope ≡ param_scope k = c.in_ok-declare_params.ensures ∙ ap₂ (λ s (xs : List Param). after_params s (parameters_of xs)) c.requires c.deref.ensures.value in
    let vars : accumulators_of c.deref-2.result.now ≡ k.vars = ap accumulators_of c.deref-2.ensures.value in
    let scope : scope_of c.push_vars.new.scope ≡ var_scope k = c.in_ok-push_vars.ensures.scope ∙ ap₂ after_vars params vars in
    same_plan _ _ _ _ _ _
    (c.in_ok-push_vars.ensures.steps ∙ ap₂ (λ (xs : List Step) ts. followed (tasks_of xs) ts) c.new-start.ensures.items (ap₂ resolved_vars params vars))
    (c.in_ok-for_loop.ensures.for_loop ∙ ap (λ s. resolved_for_loop s k.for_loop) scope)
    (c.in_ok-answer.ensures ∙ answer-same (after_for_loop (scope_of c.push_vars.new.scope) k.for_loop) (scope_of c.resolve_loop.new.scope) k.answer c.in_ok-for_loop.ensures.visible c.in_ok-for_loop.ensures.index
    ∙ ap (λ s. resolved_answer (after_for_loop s k.for_loop) k.answer) scope)

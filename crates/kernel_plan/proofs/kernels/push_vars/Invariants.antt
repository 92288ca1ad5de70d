use Rattle.std.proofs.Common.{◌≡◌, drop}
use Rattle.kernel_tree.specs.Plain.{accumulators_of}
use Rattle.kernel_tree.specs.Typing as typing
use Rattle.kernel_scope.specs.Scopes.{scope_of}
use Rattle.kernel_plan.specs.Trees.{tasks_of, followed}
use Rattle.kernel_plan.specs.Plans as plans
use Rattle.kernel_plan.proofs.kernels.push_vars.Given as goal

abbrev pub invariant-loop-var : goal.invariant-loop-var
invariant-loop-var l = record {
  scope : typing.after_vars (scope_of l.scope) (accumulators_of (drop l.var-index l.vars)) ≡ typing.after_vars (scope_of l.fn.scope) (accumulators_of l.vars);
  steps : followed (tasks_of l.steps.items) (plans.resolved_vars (scope_of l.scope) (accumulators_of (drop l.var-index l.vars))) ≡ followed (tasks_of l.fn.steps.items) (plans.resolved_vars (scope_of l.fn.scope) (accumulators_of l.vars));
}

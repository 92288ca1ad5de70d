use Rattle.std.proofs.Common.{◌≡◌, drop}
use Rattle.kernel_tree.specs.Plain.{parameters_of}
use Rattle.kernel_tree.specs.Typing as typing
use Rattle.kernel_scope.specs.Scopes.{scope_of}
use Rattle.kernel_plan.proofs.kernels.declare_params.Given as goal

abbrev pub invariant-loop-param : goal.invariant-loop-param
invariant-loop-param l = typing.after_params (scope_of l.scope) (parameters_of (drop l.param-index l.params)) ≡ typing.after_params (scope_of l.fn.scope) (parameters_of l.params)

use Rattle.std.proofs.Common.{◌≡◌, ◌++◌, drop}
use Rattle.kernel_tree.specs.Plain.{parameters_of}
use Rattle.kernel_scope.specs.Scopes.{scope_of}
use Rattle.scalar_words.specs.View.{homes_of}
use Rattle.kernel_tree.specs.Typing as typing
use Rattle.scalar_words.specs.KernelRegisters as kernels
use Rattle.scalar_words.proofs.names.declare_params.Given as goal

abbrev pub invariant-loop-param : goal.invariant-loop-param
invariant-loop-param l = record {
  place : l.place ≡ l.param-index;
  scope : typing.after_params (scope_of l.scope) (parameters_of (drop l.param-index l.params)) ≡ typing.after_params (scope_of l.fn.scope) (parameters_of l.params);
  index : (scope_of l.scope).index ≡ (scope_of l.fn.scope).index;
  homes : homes_of l.homes.items ++ kernels.param_homes l.place (parameters_of (drop l.param-index l.params)) ≡ homes_of l.fn.homes.items ++ kernels.param_homes 0 (parameters_of l.params);
}

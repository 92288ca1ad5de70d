use Rattle.std.proofs.Common.{◌≡◌, ◌++◌, drop}
use Rattle.kernel_tree.specs.Plain.{accumulators_of}
use Rattle.kernel_scope.specs.Scopes.{scope_of}
use Rattle.scalar_words.specs.View.{homes_of}
use Rattle.kernel_tree.specs.Typing as typing
use Rattle.scalar_words.specs.KernelRegisters as kernels
use Rattle.scalar_words.proofs.names.declare_vars.Given as goal

abbrev pub invariant-loop-place : goal.invariant-loop-place
invariant-loop-place l = record {
  scope : typing.after_vars (scope_of l.scope) (accumulators_of (drop l.place l.vars)) ≡ typing.after_vars (scope_of l.fn.scope) (accumulators_of l.vars);
  homes : homes_of l.homes.items ++ kernels.var_homes (kernels.register_in l.regs) l.place (accumulators_of (drop l.place l.vars)) ≡ homes_of l.fn.homes.items ++ kernels.var_homes (kernels.register_in l.regs) 0 (accumulators_of l.vars);
}

use Rattle.std.proofs.Common.{◌≡◌, ◌+◌, drop}
use Rattle.kernel_tree.specs.Plain.{parameters_of}
use Rattle.kernel_tree.specs.Typing as typing
use Rattle.kernel_scope.specs.Scopes.{scope_of}
use Rattle.kernel_types.specs.declared.notes.Notes.{Notes}
use Rattle.kernel_types.specs.Parts.{Adds}
use Rattle.kernel_types.proofs.kernels.walk_params.Given as goal

-- what is left of the parameters leads from here to where they all lead
abbrev pub invariant-loop-param : goal.invariant-loop-param
invariant-loop-param l = record {
  scope : typing.after_params (scope_of l.scope) (parameters_of (drop l.param-index l.params)) ≡ typing.after_params (scope_of l.fn.scope) (parameters_of l.params);
  next : l.notes.next ≡ l.fn.notes.next + l.param-index;
  found : typing.sooner l.notes.found (typing.least (typing.params_faults (scope_of l.scope) l.notes.next (parameters_of (drop l.param-index l.params)))) ≡ typing.sooner l.fn.notes.found (typing.least (typing.params_faults (scope_of l.fn.scope) l.fn.notes.next (parameters_of l.params)));
  types : (last : Notes) → Adds l.notes last (typing.params_types (parameters_of (drop l.param-index l.params))) → Adds l.fn.notes last (typing.params_types (parameters_of l.params));
}

use Rattle.std.proofs.Common.{◌≡◌, ◌+◌, drop}
use Rattle.kernel_tree.specs.Plain.{accumulators_of}
use Rattle.kernel_tree.specs.Items as items
use Rattle.kernel_tree.specs.Typing as typing
use Rattle.kernel_scope.specs.Scopes.{scope_of}
use Rattle.kernel_types.specs.declared.notes.Notes.{Notes}
use Rattle.kernel_types.specs.Parts.{Adds}
use Rattle.kernel_types.proofs.kernels.walk_vars.Given as goal

-- what is left of the accumulators leads from here to where they all lead
abbrev pub invariant-loop-var : goal.invariant-loop-var
invariant-loop-var l = record {
  scope : typing.after_vars (scope_of l.scope) (accumulators_of (drop l.var-index l.vars)) ≡ typing.after_vars (scope_of l.fn.scope) (accumulators_of l.vars);
  next : l.notes.next + items.vars_size (scope_of l.scope).index (accumulators_of (drop l.var-index l.vars)) ≡ l.fn.notes.next + items.vars_size (scope_of l.fn.scope).index (accumulators_of l.vars);
  found : typing.sooner l.notes.found (typing.least (typing.vars_faults (scope_of l.scope) l.notes.next (accumulators_of (drop l.var-index l.vars)))) ≡ typing.sooner l.fn.notes.found (typing.least (typing.vars_faults (scope_of l.fn.scope) l.fn.notes.next (accumulators_of l.vars)));
  types : (last : Notes) → Adds l.notes last (typing.vars_types (scope_of l.scope) (accumulators_of (drop l.var-index l.vars))) → Adds l.fn.notes last (typing.vars_types (scope_of l.fn.scope) (accumulators_of l.vars));
}

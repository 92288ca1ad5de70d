use Rattle.std.proofs.Common.{◌≡◌, ◌+◌, drop}
use Rattle.std.specs.Prelude.{option_map}
use Rattle.kernel_tree.specs.Plain.{accumulators_of}
use Rattle.kernel_tree.specs.Items as items
use Rattle.kernel_scope.specs.Scopes.{lent_text}
use Rattle.kernel_size.proofs.size.vars_size.Given as goal

abbrev pub invariant-loop-var : goal.invariant-loop-var
invariant-loop-var l = l.size + items.vars_size (option_map lent_text l.index) (accumulators_of (drop l.var-index l.vars)) ≡ items.vars_size (option_map lent_text l.index) (accumulators_of l.vars)

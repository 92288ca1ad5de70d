use Rattle.std.proofs.Common.{◌∙◌}
use Rattle.std.specs.Prelude.{option_and_then}
use Rattle.kernel_tree.specs.Plain.{name_of, term_of}
use Rattle.kernel_tree.specs.Typing as typing
use Rattle.kernel_scope.specs.Scopes.{scope_of}
use Rattle.kernel_types.proofs.LeastFault.{then_item}
use Rattle.kernel_types.proofs.TypeLists.{then_types}
use Rattle.kernel_types.proofs.statements.walk_update.Goals as goal

pub returns-clause-found : goal.returns-clause-found
returns-clause-found c =
    let scope = scope_of c.args.scope.now in
    let target = typing.lookup scope (name_of c.args.name.now) in
    let inner = typing.faults scope c.args.notes.now.next (typing.Value (option_and_then typing.accumulator_type target)) (term_of c.args.value.now) in
    let all = then_item c.args.notes.now.found c.walk_expr.new.notes.found c.update_fault.result inner (typing.update_faults c.walk_expr.new.notes.next target) (rw (c.updated_type.ensures, c.lookup-target.ensures) at c.walk_expr.ensures.found) (rw c.lookup-target.ensures at c.update_fault.ensures) in
    c.end.ensures.found ∙ (rw c.walk_expr.ensures.next at all)

pub returns-clause-types : goal.returns-clause-types
returns-clause-types c = then_types (rw (c.updated_type.ensures, c.lookup-target.ensures) at c.walk_expr.ensures.types) c.end.ensures.types

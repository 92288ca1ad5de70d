use Rattle.std.proofs.Common.{◌++◌, ◌∙◌}
use Rattle.std.specs.Prelude.{option_and_then}
use Rattle.kernel_tree.specs.Plain.{name_of, term_of}
use Rattle.kernel_tree.specs.Items as items
use Rattle.kernel_tree.specs.Typing as typing
use Rattle.kernel_scope.specs.Scopes.{scope_of}
use Rattle.kernel_types.proofs.LeastFault.{then_item, both_rules}
use Rattle.kernel_types.proofs.TypeLists.{then_types}
use Rattle.kernel_types.proofs.statements.walk_store.Goals as goal

pub returns-clause-found : goal.returns-clause-found
returns-clause-found c =
    let scope = scope_of c.args.scope.now in
    let target = typing.lookup scope (name_of c.args.array.now) in
    let offset = items.stream_offset scope.index (term_of c.args.index.now) in
    let at = c.walk_expr.new.notes.next in
    let inner = typing.faults scope c.args.notes.now.next (typing.Value (option_and_then typing.element_type target)) (term_of c.args.value.now) in
    let into = typing.target_faults at target in
    let place = typing.stream_faults at offset in
    let here = c.sooner-found.ensures ∙ both_rules c.target_fault.result c.stream_fault.result into place (rw c.lookup-target.ensures at c.target_fault.ensures) (c.stream_fault.ensures offset c.stream_distance-distance.ensures) in
    let all = then_item c.args.notes.now.found c.walk_expr.new.notes.found c.sooner-found.result inner (into ++ place) (rw (c.stored_type.ensures, c.lookup-target.ensures) at c.walk_expr.ensures.found) here in
    c.end.ensures.found ∙ (rw c.walk_expr.ensures.next at all)

pub returns-clause-types : goal.returns-clause-types
returns-clause-types c = then_types (rw (c.stored_type.ensures, c.lookup-target.ensures) at c.walk_expr.ensures.types) c.end.ensures.types

use Rattle.std.proofs.Common.{ap, ◌∙◌}
use Rattle.kernel_tree.specs.Plain.{name_of}
use Rattle.kernel_tree.specs.Typing as typing
use Rattle.kernel_scope.specs.Scopes.{scope_of}
use Rattle.kernel_types.specs.Parts.{role_of}
use Rattle.kernel_types.proofs.LeastFault.{both_rules}
use Rattle.kernel_types.proofs.terms.walk_name.Goals as goal

pub returns-clause-found : goal.returns-clause-found
returns-clause-found c =
    let item = c.args.notes.now.next in
    let role = role_of c.args.role in
    let binding = typing.lookup (scope_of c.args.scope.now) (name_of c.args.name.now) in
    let name = rw (c.wanted-ty.ensures, c.lookup.ensures) at c.name_fault.ensures in
    let here = both_rules c.as_value.result c.name_fault.result (typing.as_value item role) (typing.name_faults item (typing.wanted role) binding) c.as_value.ensures name in
    c.end.ensures.found ∙ ap (typing.sooner c.args.notes.now.found) (c.sooner-found.ensures ∙ here)

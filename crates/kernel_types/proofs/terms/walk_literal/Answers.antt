use Rattle.std.proofs.Common.{ap, ◌∙◌}
use Rattle.std.specs.Int.{w128}
use Rattle.std.proofs.lemmas.Int.{to_z-of_z}
use Rattle.kernel_tree.specs.Typing as typing
use Rattle.kernel_types.specs.Parts.{role_of}
use Rattle.kernel_types.proofs.LeastFault.{both_rules}
use Rattle.kernel_types.proofs.terms.walk_literal.Goals as goal

pub returns-clause-found : goal.returns-clause-found
returns-clause-found c =
    let item = c.args.notes.now.next in
    let role = role_of c.args.role in
    let literal = rw (c.wanted-ty.ensures, to_z-of_z w128 c.args.value c.ranges.value) at c.literal_fault.ensures in
    let here = both_rules c.as_value.result c.literal_fault.result (typing.as_value item role) (typing.literal_faults item (typing.wanted role) c.args.value) c.as_value.ensures literal in
    c.end.ensures.found ∙ ap (typing.sooner c.args.notes.now.found) (c.sooner-found.ensures ∙ here)

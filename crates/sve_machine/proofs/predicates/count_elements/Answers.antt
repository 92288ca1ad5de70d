use Rattle.std.proofs.Common.{ap₂, ◌∙◌}
use Rattle.guest_types.specs.Length.{lanes}
use Rattle.sve_machine.proofs.PredicateRows.{count_row}
use Rattle.sve_machine.proofs.predicates.count_elements.Goals as goal

pub returns : goal.returns
returns c =
    count_row c.args.op c.args.rd.number c.args.core.now c.set_register.new.self c.args.vectors.now c.from.result c.set_register.ensures
    (c.from.ensures ∙ c.lanes-lanes.ensures.value ∙ ap₂ lanes c.vl.ensures.value c.count_width.ensures)

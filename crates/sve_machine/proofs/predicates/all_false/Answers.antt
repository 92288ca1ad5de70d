use Rattle.guest_types.specs.Lanes.{all_at}
use Rattle.sve_machine.proofs.PredicateRows.{none_is, false_row}
use Rattle.sve_machine.proofs.predicates.all_false.Goals as goal

pub set_p-requires-clause-shape : goal.set_p-requires-clause-shape
set_p-requires-clause-shape c = none_is c.args.vectors.now c.none-out.result.bits c.vl-vl.ensures.sized (c.none-out.ensures.elements 1 all_at)

pub returns : goal.returns
returns c core memory = false_row c.args.pd.number c.args.vectors.now c.set_p.new.self c.none-out.result.bits c.set_p.ensures (c.none-out.ensures.elements 1 all_at) core memory

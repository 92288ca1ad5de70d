use Rattle.sve_machine.proofs.PredicateRows.{write_ffr_row}
use Rattle.sve_machine.proofs.predicates.write_ffr.Goals as goal

pub returns : goal.returns
returns c core memory = write_ffr_row c.args.pn.number c.args.vectors.now c.set_ffr.new.self c.p.result.now.bits c.set_ffr.ensures c.p.ensures.value core memory

use Rattle.sve_machine.proofs.PredicateRows.{read_ffr_row}
use Rattle.sve_machine.proofs.predicates.read_ffr.Goals as goal

pub returns : goal.returns
returns c core memory = read_ffr_row c.args.pd.number c.args.vectors.now c.set_p.new.self c.ffr.result.now.bits c.set_p.ensures c.ffr.ensures.value core memory

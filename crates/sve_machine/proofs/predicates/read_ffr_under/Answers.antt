use Rattle.sve_machine.proofs.PredicateRows.{ffr_are, read_under_row}
use Rattle.sve_machine.proofs.predicates.read_ffr_under.Goals as goal

pub set_p-requires-clause-shape : goal.set_p-requires-clause-shape
set_p-requires-clause-shape c =
    let r = c.args.vectors.now in
    (ffr_are r c.args.pg.number c.p-mask.result.now.bits c.ffr-ffr.result.now.bits c.logic_into.new.out.bits (record { value = c.p-mask.ensures.value; shape = c.p-mask.ensures.shape; sized = c.p-mask.ensures.sized }) c.ffr-ffr.ensures.value c.logic_into.ensures).shape

pub returns : goal.returns
returns c core memory =
    let r = c.args.vectors.now in
    read_under_row c.args.pd.number c.args.pg.number r c.set_p.new.self c.logic_into.new.out.bits
    (ffr_are r c.args.pg.number c.p-mask.result.now.bits c.ffr-ffr.result.now.bits c.logic_into.new.out.bits (record { value = c.p-mask.ensures.value; shape = c.p-mask.ensures.shape; sized = c.p-mask.ensures.sized }) c.ffr-ffr.ensures.value c.logic_into.ensures) c.set_p.ensures core memory

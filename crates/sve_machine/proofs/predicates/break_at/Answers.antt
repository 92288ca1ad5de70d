use Rattle.sve_machine.proofs.PredicateRows.{brk_are, break_row}
use Rattle.sve_machine.proofs.predicates.break_at.Goals as goal

pub set_p-requires-clause-shape : goal.set_p-requires-clause-shape
set_p-requires-clause-shape c =
    let r = c.args.vectors.now in
    (brk_are r c.is_after-after.result c.args.pg.number c.args.pn.number c.p-mask.result.now.bits c.p-tested.result.now.bits c.brk_into.new.out.bits (record { value = c.p-mask.ensures.value; shape = c.p-mask.ensures.shape; sized = c.p-mask.ensures.sized }) (record { value = c.p-tested.ensures.value; shape = c.p-tested.ensures.shape; sized = c.p-tested.ensures.sized }) c.brk_into.ensures).shape

pub returns : goal.returns
returns c core memory =
    let r = c.args.vectors.now in
    break_row c.args.op c.args.pd.number c.args.pn.number c.args.pg.number r c.set_p.new.self c.is_after-after.result c.brk_into.new.out.bits c.is_after-after.ensures
    (brk_are r c.is_after-after.result c.args.pg.number c.args.pn.number c.p-mask.result.now.bits c.p-tested.result.now.bits c.brk_into.new.out.bits (record { value = c.p-mask.ensures.value; shape = c.p-mask.ensures.shape; sized = c.p-mask.ensures.sized }) (record { value = c.p-tested.ensures.value; shape = c.p-tested.ensures.shape; sized = c.p-tested.ensures.sized }) c.brk_into.ensures) c.set_p.ensures core memory

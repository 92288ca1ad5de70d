use Rattle.std.proofs.Common.{ap, ◌∙◌}
use Rattle.guest_types.specs.declared.length.Width.TheVariants.{B}
use Rattle.guest_types.specs.Length.{lanes}
use Rattle.guest_types.specs.Elements.{active, pred_test}
use Rattle.a64_machine.specs.Cores.{flags_kept}
use Rattle.sve_machine.specs.Rows.{logic_flags}
use Rattle.sve_machine.proofs.PredicateRows.{logic_are, logic_row}
use Rattle.sve_machine.proofs.predicates.logic.Goals as goal

pub set_p-requires-clause-shape : goal.set_p-requires-clause-shape
set_p-requires-clause-shape c =
    let r = c.args.vectors.now in
    (logic_are r c.logic_op-operation.result c.args.operands.pg.number c.args.operands.pn.number c.args.operands.pm.number c.p-mask.result.now.bits c.p-left.result.now.bits c.p-right.result.now.bits c.logic_into.new.out.bits (record { value = c.p-mask.ensures.value; shape = c.p-mask.ensures.shape; sized = c.p-mask.ensures.sized }) (record { value = c.p-left.ensures.value; shape = c.p-left.ensures.shape; sized = c.p-left.ensures.sized }) (record { value = c.p-right.ensures.value; shape = c.p-right.ensures.shape; sized = c.p-right.ensures.sized }) c.logic_into.ensures).shape

pub returns : goal.returns
returns c =
    let r = c.args.vectors.now in
    logic_row c.args.operands.op c.args.pd.number c.args.operands.pn.number c.args.operands.pg.number c.args.operands.pm.number c.args.core.now c.set_flags_by.new.core r c.set_p.new.self c.logic_op-operation.result c.p-mask.result.now.bits c.logic_into.new.out.bits
    c.vl-vl.ensures.sized c.logic_op-operation.ensures c.p-mask.ensures.value
    (logic_are r c.logic_op-operation.result c.args.operands.pg.number c.args.operands.pn.number c.args.operands.pm.number c.p-mask.result.now.bits c.p-left.result.now.bits c.p-right.result.now.bits c.logic_into.new.out.bits (record { value = c.p-mask.ensures.value; shape = c.p-mask.ensures.shape; sized = c.p-mask.ensures.sized }) (record { value = c.p-left.ensures.value; shape = c.p-left.ensures.shape; sized = c.p-left.ensures.sized }) (record { value = c.p-right.ensures.value; shape = c.p-right.ensures.shape; sized = c.p-right.ensures.sized }) c.logic_into.ensures)
    c.set_p.ensures c.set_flags_by.ensures.kept
    (c.set_flags_by.ensures.flags ∙ ap (λ n. logic_flags c.args.operands.op (flags_kept c.args.core.now.nzcv) (pred_test (active B c.p-mask.result.now.bits) (active B c.logic_into.new.out.bits) (lanes n B))) c.vl-vl.ensures.value)

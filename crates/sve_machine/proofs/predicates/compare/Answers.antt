use Rattle.std.proofs.Common.{ap, ◌∙◌}
use Rattle.guest_types.specs.Length.{width_bytes, lanes}
use Rattle.guest_types.specs.Elements.{predicate, active, pred_test}
use Rattle.guest_types.specs.Lanes.{compare_at}
use Rattle.sve_machine.proofs.PredicateRows.{compare_are, compare_row}
use Rattle.sve_machine.proofs.predicates.compare.Goals as goal

pub set_p-requires-clause-shape : goal.set_p-requires-clause-shape
set_p-requires-clause-shape c =
    let r = c.args.vectors.now in
    (compare_are r c.comparison-operation.result c.width_of-width.result c.args.operands.pg.number c.args.operands.zn.number c.args.operands.zm.number c.p-mask.result.now.bits c.z-left.result.now.bytes c.z-right.result.now.bytes c.compare_into.new.out.bits (record { value = c.p-mask.ensures.value; shape = c.p-mask.ensures.shape; sized = c.p-mask.ensures.sized }) (record { value = c.z-left.ensures.value; shape = c.z-left.ensures.shape; sized = c.z-left.ensures.sized }) (record { value = c.z-right.ensures.value; shape = c.z-right.ensures.shape; sized = c.z-right.ensures.sized }) (c.compare_into.ensures ∙ ap (λ n. predicate (width_bytes c.width_of-width.result) (compare_at c.comparison-operation.result c.width_of-width.result c.p-mask.result.now.bits c.z-left.result.now.bytes c.z-right.result.now.bytes) (lanes n c.width_of-width.result)) c.vl-vl.ensures.value)).shape

pub returns : goal.returns
returns c =
    let r = c.args.vectors.now in
    compare_row c.args.operands.op c.args.pd.number c.args.operands.zn.number c.args.operands.pg.number c.args.operands.zm.number _ c.args.core.now c.set_flags.new.core r c.set_p.new.self c.comparison-operation.result c.width_of-width.result c.p-mask.result.now.bits c.compare_into.new.out.bits
    c.vl-vl.ensures.sized c.comparison-operation.ensures c.width_of-width.ensures c.p-mask.ensures.value
    (compare_are r c.comparison-operation.result c.width_of-width.result c.args.operands.pg.number c.args.operands.zn.number c.args.operands.zm.number c.p-mask.result.now.bits c.z-left.result.now.bytes c.z-right.result.now.bytes c.compare_into.new.out.bits (record { value = c.p-mask.ensures.value; shape = c.p-mask.ensures.shape; sized = c.p-mask.ensures.sized }) (record { value = c.z-left.ensures.value; shape = c.z-left.ensures.shape; sized = c.z-left.ensures.sized }) (record { value = c.z-right.ensures.value; shape = c.z-right.ensures.shape; sized = c.z-right.ensures.sized }) (c.compare_into.ensures ∙ ap (λ n. predicate (width_bytes c.width_of-width.result) (compare_at c.comparison-operation.result c.width_of-width.result c.p-mask.result.now.bits c.z-left.result.now.bytes c.z-right.result.now.bytes) (lanes n c.width_of-width.result)) c.vl-vl.ensures.value))
    c.set_p.ensures c.set_flags.ensures.kept
    (c.set_flags.ensures.flags ∙ ap (λ n. pred_test (active c.width_of-width.result c.p-mask.result.now.bits) (active c.width_of-width.result c.compare_into.new.out.bits) (lanes n c.width_of-width.result)) c.vl-vl.ensures.value)

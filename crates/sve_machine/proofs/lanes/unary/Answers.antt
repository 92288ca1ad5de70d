use Rattle.sve_machine.proofs.LaneRows.{unary_row, unary_narrow}
use Rattle.sve_machine.proofs.lanes.unary.Goals as goal

pub merge_one-requires-clause-narrower : goal.merge_one-requires-clause-narrower
merge_one-requires-clause-narrower c = unary_narrow c.args.op c.unary_op-operation.result c.width_of-width.result c.unary_op-operation.ensures

pub returns : goal.returns
returns c core memory =
    unary_row c.args.op c.args.zd.number c.args.zn.number c.args.pg.number _ c.args.vectors.now c.merge_one.new.self c.unary_op-operation.result c.width_of-width.result c.unary_op-operation.ensures c.width_of-width.ensures
    c.merge_one.ensures core memory

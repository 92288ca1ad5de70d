use Rattle.sve_machine.proofs.LaneRows.{merging_row}
use Rattle.sve_machine.proofs.lanes.merging.Goals as goal

pub returns : goal.returns
returns c core memory =
    merging_row c.args.op c.args.zdn.number c.args.zm.number c.args.pg.number _ c.args.vectors.now c.merge.new.self c.merging_op-operation.result c.width_of-width.result c.merging_op-operation.ensures c.width_of-width.ensures
    c.merge.ensures core memory

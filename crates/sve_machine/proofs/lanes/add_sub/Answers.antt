use Rattle.sve_machine.proofs.LaneRows.{add_sub_row}
use Rattle.sve_machine.proofs.lanes.add_sub.Goals as goal

pub returns : goal.returns
returns c core memory =
    add_sub_row c.args.op c.args.zd.number c.args.zn.number c.args.zm.number _ c.args.vectors.now c.binary.new.self c.add_sub_op.result c.width_of.result c.add_sub_op.ensures c.width_of.ensures
    c.binary.ensures core memory

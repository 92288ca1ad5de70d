use Rattle.sve_machine.proofs.LaneRows.{bitwise_row}
use Rattle.sve_machine.proofs.lanes.bitwise.Goals as goal

pub returns : goal.returns
returns c core memory =
    bitwise_row c.args.op c.args.zd.number c.args.zn.number c.args.zm.number c.args.vectors.now c.binary.new.self c.bitwise_op.result c.bitwise_op.ensures c.binary.ensures core memory

use Rattle.sve_machine.proofs.LaneRows.{select_row}
use Rattle.sve_machine.proofs.lanes.select.Goals as goal

pub returns : goal.returns
returns c core memory =
    select_row c.args.zd.number c.args.zn.number c.args.pg.number c.args.zm.number _ c.args.vectors.now c.select.new.self c.width_of.result c.width_of.ensures c.select.ensures core memory

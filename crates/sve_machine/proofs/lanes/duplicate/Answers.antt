use Rattle.sve_machine.proofs.LaneRows.{dup_row}
use Rattle.sve_machine.proofs.lanes.duplicate.Goals as goal

pub returns : goal.returns
returns c =
    dup_row c.args.zd.number c.args.rn.number _ c.args.core.now c.args.vectors.now c.duplicate.new.self c.width_of-width.result c.register_or_sp-value.result c.width_of-width.ensures c.register_or_sp-value.ensures
    c.duplicate.ensures

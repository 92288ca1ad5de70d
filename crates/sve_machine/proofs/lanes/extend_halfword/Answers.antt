use Rattle.std.proofs.Common.{ap, ◌∙◌}
use Rattle.guest_types.specs.LaneMemory.{width_of_size}
use Rattle.sve_machine.proofs.LaneRows.{extend_half_row, half_narrow}
use Rattle.sve_machine.proofs.lanes.extend_halfword.Goals as goal

pub merge_one-requires-clause-narrower : goal.merge_one-requires-clause-narrower
merge_one-requires-clause-narrower c = half_narrow c.args.op c.args.size _ _ _ c.half_extension-operation.ensures c.width_of-width.ensures c.size.ensures

pub returns : goal.returns
returns c core memory =
    extend_half_row c.args.op c.args.zd.number c.args.zn.number c.args.pg.number _ c.args.vectors.now c.merge_one.new.self c.half_extension-operation.result c.width_of-width.result c.half_extension-operation.ensures (c.width_of-width.ensures ∙ ap width_of_size c.size.ensures)
    c.merge_one.ensures core memory

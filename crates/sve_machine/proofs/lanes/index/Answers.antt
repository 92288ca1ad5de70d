use Rattle.std.proofs.Common.{ap, ◌∙◌}
use Rattle.std.specs.Int.{w32, w64, cast_unsigned}
use Rattle.std.proofs.lemmas.Int.{to_z-of_z}
use Rattle.guest_types.specs.Lanes.{index_at}
use Rattle.sve_machine.specs.VectorStates.{put_lanes}
use Rattle.sve_machine.proofs.LaneRows.{index_row_is}
use Rattle.sve_machine.proofs.lanes.index.Goals as goal

pub returns : goal.returns
returns c =
    index_row_is c.args.zd.number c.args.rn.number c.args.imm5.number _ c.args.core.now c.args.vectors.now c.index.new.self c.width_of-width.result c.register-from.result (cast_unsigned w64 c.signed-by.result) c.width_of-width.ensures c.register-from.ensures c.signed-by.ensures
    (c.index.ensures ∙ ap (λ b. put_lanes c.args.vectors.now c.args.zd.number c.width_of-width.result (index_at c.register-from.result (cast_unsigned w64 b))) (to_z-of_z w32 c.signed-by.result (record { sfits = c.signed-by.type_inv })))

use Rattle.std.proofs.Common.{ap, ◌∙◌}
use Rattle.guest_types.specs.Length.{width_bytes, lanes}
use Rattle.guest_types.specs.Lanes.{dup_at, reduce_of}
use Rattle.sve_machine.proofs.LaneRows.{one_put, one_shape, reduction_row}
use Rattle.sve_machine.proofs.lanes.reduction.Goals as goal

pub set_z-requires-clause-shape : goal.set_z-requires-clause-shape
set_z-requires-clause-shape c =
    one_shape c.args.vectors.now.vl c.reduction_width-wide.result c.reduce-value.result c.put.new.self.bytes c.vl-vl.ensures.sized
    (one_put c.reduction_width-wide.result c.reduce-value.result c.zero-out.result.bytes c.put.new.self.bytes (c.zero-out.ensures.elements (width_bytes c.reduction_width-wide.result) (dup_at c.reduce-value.result)) c.put.ensures)

pub returns : goal.returns
returns c =
    reduction_row c.args.op c.args.zd.number c.args.zn.number c.args.pg.number _ c.args.vectors.now c.set_z.new.self c.reduction_op-operation.result c.width_of-width.result c.reduction_width-wide.result c.p-mask.result.now.bits c.z-z.result.now.bytes
    c.put.new.self.bytes c.reduce-value.result c.reduction_op-operation.ensures c.width_of-width.ensures c.reduction_width-wide.ensures c.p-mask.ensures.value c.z-z.ensures.value
    (c.reduce-value.ensures ∙ ap (λ n. reduce_of c.reduction_op-operation.result c.width_of-width.result (lanes n c.width_of-width.result) c.p-mask.result.now.bits c.z-z.result.now.bytes) c.vl-vl.ensures.value)
    (one_put c.reduction_width-wide.result c.reduce-value.result c.zero-out.result.bytes c.put.new.self.bytes (c.zero-out.ensures.elements (width_bytes c.reduction_width-wide.result) (dup_at c.reduce-value.result)) c.put.ensures) c.set_z.ensures

use Rattle.std.proofs.Common.{ap, sym, subst, ◌∙◌}
use Rattle.guest_types.specs.LaneMemory.{width_of_size}
use Rattle.guest_types.specs.Lanes.{ShiftFits}
use Rattle.sve_machine.specs.Rows.{shift_op}
use Rattle.sve_machine.proofs.LaneRows.{shift_row}
use Rattle.sve_machine.proofs.lanes.shift.Goals as goal

pub returns : goal.returns
returns c core memory =
    shift_row c.args.op c.args.zd.number c.args.zn.number c.args.amount.value c.args.vectors.now c.shift.new.self c.shift_op.result c.width_of-width.result c.shift_count-count.result c.shift_op.ensures (c.width_of-width.ensures ∙ ap width_of_size c.size.ensures) c.shift_count-count.ensures.count
    c.shift.ensures core memory

pub shift-requires-clause-fits : goal.shift-requires-clause-fits
shift-requires-clause-fits c =
    let w = c.width_of-width.ensures ∙ ap width_of_size c.size.ensures in
    subst (λ a. ShiftFits a c.width_of-width.result c.shift_count-count.result) (sym c.shift_op.ensures)
    (subst (λ b. ShiftFits (shift_op c.args.op) b c.shift_count-count.result) (sym w) c.shift_count-count.ensures.fits)

use Rattle.std.proofs.Common.{ap, ◌∙◌}
use Rattle.guest_types.specs.Length.{lanes}
use Rattle.guest_types.specs.Lanes.{count_of}
use Rattle.sve_machine.proofs.PredicateRows.{cntp_row}
use Rattle.sve_machine.proofs.predicates.count_true.Goals as goal

pub returns : goal.returns
returns c =
    cntp_row c.args.rd.number c.args.pn.number c.args.pg.number _ c.args.core.now c.set_register.new.self c.args.vectors.now c.width_of-width.result c.p-mask.result.now.bits c.p-tested.result.now.bits _ c.width_of-width.ensures c.p-mask.ensures.value c.p-tested.ensures.value
    (c.from.ensures ∙ c.count-lanes.ensures ∙ ap (λ n. count_of c.width_of-width.result (lanes n c.width_of-width.result) c.p-mask.result.now.bits c.p-tested.result.now.bits) c.vl-vl.ensures.value)
    c.set_register.ensures

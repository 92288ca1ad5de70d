use Rattle.std.proofs.Common.{ap, ap₂, ◌∙◌, ◌+◌, ◌%◌, ◌^◌}
use Rattle.guest_types.specs.Length.{lanes}
use Rattle.guest_types.specs.Lanes.{count_of}
use Rattle.sve_machine.proofs.PredicateRows.{incp_row}
use Rattle.sve_machine.proofs.predicates.increment_by_count.Goals as goal

pub returns : goal.returns
returns c =
    incp_row c.args.rd.number c.args.pm.number _ c.args.core.now c.set_register.new.self c.args.vectors.now c.width_of-width.result c.p-mask.result.now.bits _ _ c.width_of-width.ensures c.p-mask.ensures.value
    (c.count-lanes.ensures ∙ ap (λ n. count_of c.width_of-width.result (lanes n c.width_of-width.result) c.p-mask.result.now.bits c.p-mask.result.now.bits) c.vl-vl.ensures.value)
    (ap₂ (λ a b. (a + b) % 2 ^ 64) c.register.ensures c.from.ensures) c.set_register.ensures

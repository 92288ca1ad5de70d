use Rattle.reg_assign.specs.declared.interval.RegClass.TheVariants.{P}
use Rattle.loop_form.specs.View.{program}
use Rattle.lane_emit.proofs.PlacesWithin.{item_within}
use Rattle.lane_emit.proofs.registers.LaneRegisters.p.Goals as goal

pub predicate_at-requires-clause-within : goal.predicate_at-requires-clause-within
predicate_at-requires-clause-within c =
    let s = c.args.self.now in
    rw (c.place_of_item-place.ensures, c.deref.ensures.value, s.facts.now.tested, s.facts.now.begins) (item_within (program s.facts.now.kernel.now) P s.regs.now.p c.args.item s.predicates)

use Rattle.reg_assign.specs.declared.interval.RegClass.TheVariants.{Z}
use Rattle.loop_form.specs.View.{program}
use Rattle.lane_emit.proofs.PlacesWithin.{item_within}
use Rattle.lane_emit.proofs.registers.LaneRegisters.z.Goals as goal

pub vector_at-requires-clause-within : goal.vector_at-requires-clause-within
vector_at-requires-clause-within c =
    let s = c.args.self.now in
    rw (c.place_of_item-place.ensures, c.deref.ensures.value, s.facts.now.valued, s.facts.now.begins) (item_within (program s.facts.now.kernel.now) Z s.regs.now.z c.args.item s.vectors)

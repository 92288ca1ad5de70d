use Rattle.loop_form.specs.HeldView.{view_of}
use Rattle.loop_form.specs.View.{program}
use Rattle.lane_emit.proofs.PlacesWithin.{held_within}
use Rattle.lane_emit.proofs.registers.LaneRegisters.held_register.Goals as goal

pub vector_at-requires-clause-within : goal.vector_at-requires-clause-within
vector_at-requires-clause-within c =
    let s = c.args.self.now in
    rw (c.place_among-place.ensures, c.deref.ensures.value, s.facts.now.throughout) (held_within (program s.facts.now.kernel.now) s.regs.now.z (view_of c.args.wanted) s.vectors)

use Rattle.std.proofs.Common.{sym, ap}
use Rattle.guest_types.specs.Length.{width_bytes}
use Rattle.lane_memory.proofs.write.write_part.Goals as goal

pub narrow_from-requires : goal.narrow_from-requires
narrow_from-requires c = record { element = sym (ap width_bytes c.in-B.is); part = c.requires.part; inside = c.requires.inside }

pub returns-in-B : goal.returns-in-B
returns-in-B c = c.narrow_from.ensures

pub narrow_from-requires-in-H : goal.narrow_from-requires-in-H
narrow_from-requires-in-H c = record { element = sym (ap width_bytes c.in-H.is); part = c.requires.part; inside = c.requires.inside }

pub returns-in-H : goal.returns-in-H
returns-in-H c = c.narrow_from-in-H.ensures

pub narrow_from-requires-in-S : goal.narrow_from-requires-in-S
narrow_from-requires-in-S c = record { element = sym (ap width_bytes c.in-S.is); part = c.requires.part; inside = c.requires.inside }

pub returns-in-S : goal.returns-in-S
returns-in-S c = c.narrow_from-in-S.ensures

pub narrow_from-requires-in-D : goal.narrow_from-requires-in-D
narrow_from-requires-in-D c = record { element = sym (ap width_bytes c.in-D.is); part = c.requires.part; inside = c.requires.inside }

pub returns-in-D : goal.returns-in-D
returns-in-D c = c.narrow_from-in-D.ensures

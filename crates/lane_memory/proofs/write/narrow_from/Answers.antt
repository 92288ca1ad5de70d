use Rattle.std.proofs.Common.{sym, ap}
use Rattle.guest_types.specs.Length.{width_bytes}
use Rattle.lane_memory.proofs.write.narrow_from.Goals as goal

pub narrow-requires : goal.narrow-requires
narrow-requires c = record { memory = sym (ap width_bytes c.in-B.is); element = c.requires.element; part = c.requires.part; inside = c.requires.inside }

pub returns-in-B : goal.returns-in-B
returns-in-B c = c.narrow.ensures

pub narrow-requires-in-H : goal.narrow-requires-in-H
narrow-requires-in-H c = record { memory = sym (ap width_bytes c.in-H.is); element = c.requires.element; part = c.requires.part; inside = c.requires.inside }

pub returns-in-H : goal.returns-in-H
returns-in-H c = c.narrow-in-H.ensures

pub narrow-requires-in-S : goal.narrow-requires-in-S
narrow-requires-in-S c = record { memory = sym (ap width_bytes c.in-S.is); element = c.requires.element; part = c.requires.part; inside = c.requires.inside }

pub returns-in-S : goal.returns-in-S
returns-in-S c = c.narrow-in-S.ensures

pub narrow-requires-in-D : goal.narrow-requires-in-D
narrow-requires-in-D c = record { memory = sym (ap width_bytes c.in-D.is); element = c.requires.element; part = c.requires.part; inside = c.requires.inside }

pub returns-in-D : goal.returns-in-D
returns-in-D c = c.narrow-in-D.ensures

use Rattle.std.proofs.Common.{sym, ap}
use Rattle.guest_types.specs.Length.{width_bytes}
use Rattle.lane_memory.proofs.copy.widen_part.Goals as goal

pub widen_from-requires : goal.widen_from-requires
widen_from-requires c = record { memory = sym (ap width_bytes c.in-B.is); part = c.requires.part; inside = c.requires.inside }

pub returns-in-B : goal.returns-in-B
returns-in-B c = c.widen_from.ensures

pub widen_from-requires-in-H : goal.widen_from-requires-in-H
widen_from-requires-in-H c = record { memory = sym (ap width_bytes c.in-H.is); part = c.requires.part; inside = c.requires.inside }

pub returns-in-H : goal.returns-in-H
returns-in-H c = c.widen_from-in-H.ensures

pub widen_from-requires-in-S : goal.widen_from-requires-in-S
widen_from-requires-in-S c = record { memory = sym (ap width_bytes c.in-S.is); part = c.requires.part; inside = c.requires.inside }

pub returns-in-S : goal.returns-in-S
returns-in-S c = c.widen_from-in-S.ensures

pub widen_from-requires-in-D : goal.widen_from-requires-in-D
widen_from-requires-in-D c = record { memory = sym (ap width_bytes c.in-D.is); part = c.requires.part; inside = c.requires.inside }

pub returns-in-D : goal.returns-in-D
returns-in-D c = c.widen_from-in-D.ensures

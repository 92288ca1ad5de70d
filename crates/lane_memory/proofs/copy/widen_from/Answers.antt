use Rattle.std.proofs.Common.{sym, ap}
use Rattle.guest_types.specs.Length.{width_bytes}
use Rattle.lane_memory.proofs.copy.widen_from.Goals as goal

pub widen-requires : goal.widen-requires
widen-requires c = record { memory = c.requires.memory; element = sym (ap width_bytes c.in-B.is); part = c.requires.part; inside = c.requires.inside }

pub returns-in-B : goal.returns-in-B
returns-in-B c = c.widen.ensures

pub widen-requires-in-H : goal.widen-requires-in-H
widen-requires-in-H c = record { memory = c.requires.memory; element = sym (ap width_bytes c.in-H.is); part = c.requires.part; inside = c.requires.inside }

pub returns-in-H : goal.returns-in-H
returns-in-H c = c.widen-in-H.ensures

pub widen-requires-in-S : goal.widen-requires-in-S
widen-requires-in-S c = record { memory = c.requires.memory; element = sym (ap width_bytes c.in-S.is); part = c.requires.part; inside = c.requires.inside }

pub returns-in-S : goal.returns-in-S
returns-in-S c = c.widen-in-S.ensures

pub widen-requires-in-D : goal.widen-requires-in-D
widen-requires-in-D c = record { memory = c.requires.memory; element = sym (ap width_bytes c.in-D.is); part = c.requires.part; inside = c.requires.inside }

pub returns-in-D : goal.returns-in-D
returns-in-D c = c.widen-in-D.ensures

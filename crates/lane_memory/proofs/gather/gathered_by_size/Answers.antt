use Rattle.std.proofs.Common.{sym, ap}
use Rattle.guest_types.specs.Length.{width_bytes}
use Rattle.lane_memory.proofs.gather.gathered_by_size.Goals as goal

pub gathered-requires : goal.gathered-requires
gathered-requires c = record { size = sym (ap width_bytes c.in-B.is); inside = c.requires }

pub returns-in-B : goal.returns-in-B
returns-in-B c = record { done = c.gathered.ensures.done; free = c.gathered.ensures.free; fault = c.gathered.ensures.fault }

pub gathered-requires-in-H : goal.gathered-requires-in-H
gathered-requires-in-H c = record { size = sym (ap width_bytes c.in-H.is); inside = c.requires }

pub returns-in-H : goal.returns-in-H
returns-in-H c = record { done = c.gathered-in-H.ensures.done; free = c.gathered-in-H.ensures.free; fault = c.gathered-in-H.ensures.fault }

pub gathered-requires-in-S : goal.gathered-requires-in-S
gathered-requires-in-S c = record { size = sym (ap width_bytes c.in-S.is); inside = c.requires }

pub returns-in-S : goal.returns-in-S
returns-in-S c = record { done = c.gathered-in-S.ensures.done; free = c.gathered-in-S.ensures.free; fault = c.gathered-in-S.ensures.fault }

pub gathered-requires-in-D : goal.gathered-requires-in-D
gathered-requires-in-D c = record { size = sym (ap width_bytes c.in-D.is); inside = c.requires }

pub returns-in-D : goal.returns-in-D
returns-in-D c = record { done = c.gathered-in-D.ensures.done; free = c.gathered-in-D.ensures.free; fault = c.gathered-in-D.ensures.fault }

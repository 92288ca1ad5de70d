use Rattle.std.proofs.Common.{sym}
use Rattle.std.proofs.lemmas.Bool.{cond-false, and_left}
use Rattle.lane_memory.proofs.gather.lane.Goals as goal

pub returns-then-is_active-clause-free : goal.returns-then-is_active-clause-free
returns-then-is_active-clause-free c = c.read.ensures.free c.args.pg.now.bits

pub read-requires : goal.read-requires
read-requires c = record { size = c.requires.size; inside = c.requires.inside }

pub is_active-requires : goal.is_active-requires
is_active-requires c = c.requires.inside

pub returns-then-is_active-clause-done : goal.returns-then-is_active-clause-done
returns-then-is_active-clause-done c = c.read.ensures.done c.args.pg.now.bits (sym c.if-is_active.ensures)

pub returns-then-is_active-clause-fault : goal.returns-then-is_active-clause-fault
returns-then-is_active-clause-fault c = c.read.ensures.fault

pub returns-clause-done : goal.returns-clause-done
returns-clause-done c = sym (cond-false _ _ _ (sym c.if-is_active.ensures))

pub returns-clause-free : goal.returns-clause-free
returns-clause-free c = and_left _ _ (sym c.if-is_active.ensures)

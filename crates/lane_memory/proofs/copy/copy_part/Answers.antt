use Rattle.lane_memory.proofs.copy.copy_part.Goals as goal

pub copy_whole-requires-clause-part : goal.copy_whole-requires-clause-part
copy_whole-requires-clause-part c = c.requires.part

pub copy_whole-requires-clause-inside : goal.copy_whole-requires-clause-inside
copy_whole-requires-clause-inside c = c.requires.inside

pub returns-then-eq : goal.returns-then-eq
returns-then-eq c = c.copy_whole.ensures

pub widen_part-requires : goal.widen_part-requires
widen_part-requires c = record { part = c.requires.part; inside = c.requires.inside }

pub returns : goal.returns
returns c = c.widen_part.ensures

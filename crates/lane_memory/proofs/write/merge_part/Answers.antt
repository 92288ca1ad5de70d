use Rattle.std.proofs.Common.{arith}
use Rattle.lane_memory.proofs.Sizes.{lanes_most}
use Rattle.lane_memory.proofs.write.merge_part.Goals as goal

pub overflow_add-last : goal.overflow_add-last
overflow_add-last c = omega (arith, c.requires.inside, lanes_most c.args.elements.now.writing.element)

pub is_full-requires : goal.is_full-requires
is_full-requires c = c.requires.inside

pub write_whole-requires : goal.write_whole-requires
write_whole-requires c = record { same = c.requires.same; part = c.requires.part; inside = c.requires.inside; full = c.is_full.ensures c.if-is_full.true }

pub returns-then-is_full : goal.returns-then-is_full
returns-then-is_full c = c.write_whole.ensures

pub merge_some-requires : goal.merge_some-requires
merge_some-requires c = record { same = c.requires.same; part = c.requires.part; inside = c.requires.inside }

pub returns : goal.returns
returns c = c.merge_some.ensures

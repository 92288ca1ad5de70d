use Rattle.guest_types.specs.Lanes.{select_at}
use Rattle.lane_memory.proofs.KeepLaws.{Built}
use Rattle.lane_memory.proofs.write.merge_blocks.Given as goal

abbrev pub invariant-loop-i : goal.invariant-loop-i
invariant-loop-i l = Built l.width (select_at l.width l.pg.bits l.z.bytes l.fn.out.bytes) l.fn.out.bytes l.i l.out.bytes

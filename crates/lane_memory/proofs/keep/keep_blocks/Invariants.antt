use Rattle.lane_memory.specs.Readings.{masked_at}
use Rattle.lane_memory.proofs.KeepLaws.{Built}
use Rattle.lane_memory.proofs.keep.keep_blocks.Given as goal

abbrev pub invariant-loop-i : goal.invariant-loop-i
invariant-loop-i l = Built l.width (masked_at l.width l.kept.bits l.fn.z.bytes) l.fn.z.bytes l.i l.z.bytes

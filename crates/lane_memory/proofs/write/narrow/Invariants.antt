use Rattle.lane_memory.proofs.WriteLaws.{Under}
use Rattle.lane_memory.proofs.write.narrow.Given as goal

abbrev pub invariant-loop-i : goal.invariant-loop-i
invariant-loop-i l = Under l.writing l.pg.bits l.z.bytes l.from l.count l.i l.fn.part l.part

use Rattle.std.proofs.Common.{◌≡◌, length}
use Rattle.lane_memory.specs.Readings.{IsCopied}
use Rattle.lane_memory.proofs.copy.widen.Given as goal

abbrev pub invariant-loop-i : goal.invariant-loop-i
invariant-loop-i l = (length l.out.bytes ≡ 256) × IsCopied l.reading l.part l.from l.i l.fn.out.bytes l.out.bytes

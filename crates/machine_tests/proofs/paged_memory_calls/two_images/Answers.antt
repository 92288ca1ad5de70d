use Rattle.std.proofs.Common.{arith}
use Rattle.paged_memory.proofs.RunLaws.{runs-apart}
use Rattle.machine_tests.proofs.paged_memory_calls.two_images.Goals as goal

pub both-requires-clause-apart : goal.both-requires-clause-apart
both-requires-clause-apart c =
    runs-apart 0x400 2 0x1000 2 c.in_ok-low.low.pages.items c.in_ok-high.high.pages.items c.in_ok-low.ensures.1 c.in_ok-high.ensures.1 (omega arith)

use Rattle.std.proofs.Common.{arith}
use Rattle.paged_memory.proofs.RunLaws.{runs-apart}
use Rattle.machine_tests.proofs.debugger_calls.looping.Goals as goal

pub build-requires-clause-apart : goal.build-requires-clause-apart
build-requires-clause-apart c =
    runs-apart 0x400 1 0x1000 1 c.in_ok-run.field-0.items c.in_ok-run-2.field-0.items c.in_ok-run.ensures c.in_ok-run-2.ensures (omega arith)

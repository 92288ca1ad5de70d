use Rattle.sweep_run.proofs.Causes.{unread, broken}
use Rattle.sweep_run.proofs.file.reading_failed.Goals as goal

pub unreachable-requires : goal.unreachable-requires
unreachable-requires c = c.in_default.not-Memory (unread c.accepts_sweep.ensures c.args.number c.args.fault c.in-Unread.cause c.requires c.in-Unread.is)

pub unreachable-requires-in_default-cause : goal.unreachable-requires-in_default-cause
unreachable-requires-in_default-cause c = c.in_default-cause.not-Memory (broken c.accepts_sweep.ensures c.args.number c.args.fault c.in-Broken.cause c.requires c.in-Broken.is)

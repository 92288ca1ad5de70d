use Rattle.sweep_run.proofs.SweepLines.{sweep_lines}
use Rattle.sweep_run.proofs.laws.sweep_lines.Goals as goal

pub returns : goal.returns
returns c = sweep_lines c.sweep_runs_end.ensures c.kernel_ends.ensures

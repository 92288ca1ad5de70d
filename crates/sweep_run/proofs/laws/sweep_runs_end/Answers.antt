use Rattle.sweep_run.proofs.Programs.{runs_end}
use Rattle.sweep_run.proofs.laws.sweep_runs_end.Goals as goal

pub returns : goal.returns
returns c = runs_end c.faithful_files.ensures.free c.faithful_files.ensures.slow c.faithful_ends.ensures

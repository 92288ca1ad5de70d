use Rattle.kernel_meaning.proofs.RunsFrom as runs
use Rattle.kernel_meaning.proofs.laws.whole_run.Goals as goal

pub returns : goal.returns
returns c k args memory names start = runs.whole_run k args memory names start

use Rattle.chunk_emit.proofs.ItemRuns as runs
use Rattle.chunk_emit.proofs.items_run.Goals as goal

pub returns : goal.returns
returns c = runs.items_run

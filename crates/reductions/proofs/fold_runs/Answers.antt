use Rattle.reductions.proofs.FoldEnds.{folds_at}
use Rattle.reductions.proofs.fold_runs.Goals as goal

pub returns : goal.returns
returns c = folds_at

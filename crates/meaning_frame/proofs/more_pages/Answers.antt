use Rattle.meaning_frame.proofs.MoreRuns.{run-merged}
use Rattle.meaning_frame.proofs.more_pages.Goals as goal

pub returns-clause-same : goal.returns-clause-same
returns-clause-same c k args memory others after result m apart ends = (run-merged others k args memory after result m apart ends).0

pub returns-clause-apart : goal.returns-clause-apart
returns-clause-apart c k args memory others after result m apart ends = (run-merged others k args memory after result m apart ends).1

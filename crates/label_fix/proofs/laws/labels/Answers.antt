use Rattle.label_fix.proofs.PlacedRuns.{runs_as_draft, cuts_are_suppressed, words_length}
use Rattle.label_fix.proofs.laws.labels.Goals as goal

pub returns : goal.returns
returns c = record { runs = runs_as_draft; cuts = cuts_are_suppressed; count = words_length }

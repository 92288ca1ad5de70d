use Rattle.label_fix.proofs.FitEntries.{fit_put}
use Rattle.label_fix.proofs.draft.Draft.put.Goals as goal

pub invariant_of-self-2 : goal.invariant_of-self-2
invariant_of-self-2 c = rw c.in_ok-push.ensures.items (fit_put _ _ _ c.requires.plain c.self.invariant)

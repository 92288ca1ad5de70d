use Rattle.paged_memory.specs.Loans.{place_in}
use Rattle.paged_memory.proofs.pages.open.Goals as goal

pub returns-in-Some-clause-kept : goal.returns-in-Some-clause-kept
returns-in-Some-clause-kept c = λ other saved below. c.save.ensures.kept (place_in c.args.store.now other) (saved below)

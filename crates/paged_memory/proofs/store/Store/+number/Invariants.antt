use Rattle.paged_memory.proofs.store.Store.+number.Given as goal

abbrev pub decreases-number : goal.decreases-number
decreases-number l = l.size

use Rattle.paged_memory.proofs.store.Store.+read_fault.Given as goal

abbrev pub decreases-read_fault : goal.decreases-read_fault
decreases-read_fault l = l.size

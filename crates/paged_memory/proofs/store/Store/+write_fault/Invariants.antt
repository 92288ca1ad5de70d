use Rattle.paged_memory.proofs.store.Store.+write_fault.Given as goal

abbrev pub decreases-write_fault : goal.decreases-write_fault
decreases-write_fault l = l.size

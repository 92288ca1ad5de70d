use Rattle.a64_machine.proofs.accesses.store.Goals as goal

pub store-requires : goal.store-requires
store-requires g c = c.requires

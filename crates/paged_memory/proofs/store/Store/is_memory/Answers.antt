use Rattle.std.proofs.Common.{◌<◌, subst}
use Rattle.std.specs.List.{All}
use Rattle.guest_types.specs.Memory.{IsMemory}
use Rattle.paged_memory.proofs.Places.{memory-from_laid}
use Rattle.paged_memory.proofs.store.Store.is_memory.Goals as goal

pub returns : goal.returns
returns c =
    let small = subst (All (λ b. b < 256)) c.deref.ensures.value c.are_bytes.ensures in
    subst IsMemory c.self.view_is (memory-from_laid c.self.inside.heads.items c.self.inside.bytes.items c.self.invariant small)

use Rattle.std.proofs.Common.{◌/◌, ap, ◌∙◌}
use Rattle.guest_types.specs.Memory.{is_writable}
use Rattle.paged_memory.proofs.Places.{page_of}
use Rattle.paged_memory.proofs.HeadPlaces.{rising, stands, page_of_standing_head, no_page_of_no_head, head-read, write-none, write-found}
use Rattle.paged_memory.proofs.store.Store.can_write.Goals as goal

pub place_of-requires : goal.place_of-requires
place_of-requires c = rising c.self.inside.heads.items c.deref.result.now c.self.inside.bytes.items c.deref.ensures.value c.self.invariant

pub returns-in-Some : goal.returns-in-Some
returns-in-Some c =
    let heads = c.self.inside.heads.items in
    let bs = c.self.inside.bytes.items in
    let m = c.args.self.now in
    let a = c.args.address in
    let i = c.in-Some.place in
    let here = stands heads c.deref.result.now (a / 4096) i c.deref.ensures.value c.in-Some.ensures.found in
    let page = page_of_standing_head heads bs m (a / 4096) i c.self.view_is c.self.invariant here in
    c.is_writable.ensures ∙ ap is_writable (head-read heads i c.index.result.now here.below c.index.ensures) ∙ write-found m a (page_of heads bs i) page

pub returns-in-None : goal.returns-in-None
returns-in-None c =
    let heads = c.self.inside.heads.items in
    let bs = c.self.inside.bytes.items in
    let m = c.args.self.now in
    let a = c.args.address in
    write-none m a (no_page_of_no_head heads c.deref.result.now bs m (a / 4096) c.self.view_is c.deref.ensures.value c.in-None.ensures.absent)

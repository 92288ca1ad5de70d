use Rattle.std.proofs.Common.{◌+◌, ◌/◌, ◌%◌, get_or, ap, ◌∙◌}
use Rattle.paged_memory.proofs.HeadPlaces.{rising, stands, start-read, no_page_of_no_head, byte-none, byte-found}
use Rattle.paged_memory.proofs.store.Store.byte.Goals as goal

pub read_place_of-requires : goal.read_place_of-requires
read_place_of-requires c = rising c.self.inside.heads.items c.deref.result.now c.self.inside.bytes.items c.deref.ensures.value c.self.invariant

pub returns-in_default : goal.returns-in_default
returns-in_default c =
    let heads = c.self.inside.heads.items in
    let bs = c.self.inside.bytes.items in
    let m = c.args.self.now in
    let a = c.args.address in
    byte-none m a (no_page_of_no_head heads c.deref.result.now bs m (a / 4096) c.self.view_is c.deref.ensures.value c.in_default.ensures.absent)

pub returns : goal.returns
returns c =
    let heads = c.self.inside.heads.items in
    let bs = c.self.inside.bytes.items in
    let m = c.args.self.now in
    let a = c.args.address in
    let here = stands heads c.deref.result.now (a / 4096) c.in-Some.place c.deref.ensures.value c.in-Some.ensures.found in
    let start = start-read heads c.in-Some.place c.index.result.now here.below c.index.ensures in
    let byte = c.index-2.result.now in
    byte-found heads bs m a c.in-Some.place byte c.self.view_is c.self.invariant here (c.index-2.ensures ∙ ap (λ n. get_or bs (n + a % 4096) byte) start)

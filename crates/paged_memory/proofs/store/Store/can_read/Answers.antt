use Rattle.std.proofs.Common.{◌/◌, sym, ap}
use Rattle.std.specs.Prelude.{is_some}
use Rattle.paged_memory.proofs.HeadPlaces.{rising, stands, page_of_standing_head, no_page_of_no_head}
use Rattle.paged_memory.proofs.store.Store.can_read.Goals as goal

pub read_place_of-requires : goal.read_place_of-requires
read_place_of-requires c = rising c.self.inside.heads.items c.deref.result.now c.self.inside.bytes.items c.deref.ensures.value c.self.invariant

pub returns-in-Some : goal.returns-in-Some
returns-in-Some c =
    let heads = c.self.inside.heads.items in
    let bs = c.self.inside.bytes.items in
    let a = c.args.address in
    let i = c.in-Some._place in
    let here = stands heads c.deref.result.now (a / 4096) i c.deref.ensures.value c.in-Some.ensures.found in
    sym (ap is_some (page_of_standing_head heads bs c.args.self.now (a / 4096) i c.self.view_is c.self.invariant here))

pub returns-in-None : goal.returns-in-None
returns-in-None c =
    let heads = c.self.inside.heads.items in
    let bs = c.self.inside.bytes.items in
    let a = c.args.address in
    sym (ap is_some (no_page_of_no_head heads c.deref.result.now bs c.args.self.now (a / 4096) c.self.view_is c.deref.ensures.value c.in-None.ensures.absent))

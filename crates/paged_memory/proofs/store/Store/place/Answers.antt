use Rattle.std.proofs.Common.{arith}
use Rattle.paged_memory.proofs.HeadPlaces.{rising, stands, length-pages}
use Rattle.paged_memory.proofs.PageLaws.{place_in-stands, place_in-none}
use Rattle.paged_memory.proofs.store.Store.place.Goals as goal

pub place_of-requires : goal.place_of-requires
place_of-requires c = rising c.self.inside.heads.items c.deref.result.now c.self.inside.bytes.items c.deref.ensures.value c.self.invariant

pub returns-in-Some-clause-some : goal.returns-in-Some-clause-some
returns-in-Some-clause-some c =
    let heads = c.self.inside.heads.items in
    let here = stands heads c.deref.result.now c.args.number c.in-Some.place c.deref.ensures.value c.in-Some.ensures.found in
    place_in-stands heads c.self.inside.bytes.items c.args.self.now c.args.number c.in-Some.place c.self.view_is c.self.invariant here

pub returns-in-Some-clause-below : goal.returns-in-Some-clause-below
returns-in-Some-clause-below c =
    let heads = c.self.inside.heads.items in
    let here = stands heads c.deref.result.now c.args.number c.in-Some.place c.deref.ensures.value c.in-Some.ensures.found in
    omega (arith, here.below, length-pages heads c.self.inside.bytes.items c.args.self.now c.self.view_is)

pub returns-in-None-clause-none : goal.returns-in-None-clause-none
returns-in-None-clause-none c = place_in-none c.self.inside.heads.items c.deref.result.now c.self.inside.bytes.items c.args.self.now c.args.number c.self.view_is c.deref.ensures.value c.in-None.ensures.absent

use Rattle.std.proofs.Common.{◌+◌, ◌/◌, ◌%◌, ◌≤◌, ap₂, ◌∙◌, arith}
use Rattle.paged_memory.specs.Numbers.{number_in}
use Rattle.paged_memory.proofs.HeadPlaces.{rising, stands, start-read, load-found}
use Rattle.paged_memory.proofs.store.StoreGuestMemory.load.Goals as goal

pub read_place_of-requires : goal.read_place_of-requires
read_place_of-requires c = rising c.self.inside.heads.items c.deref.result.now c.self.inside.bytes.items c.deref.ensures.value c.self.invariant

pub returns-in-Some : goal.returns-in-Some
returns-in-Some c =
    let heads = c.self.inside.heads.items in
    let bs = c.self.inside.bytes.items in
    let m = c.args.self.now in
    let a = c.args.address in
    let i = c.in-Some.place in
    let here = stands heads c.deref.result.now (a / 4096) i c.deref.ensures.value c.in-Some.ensures.found in
    let start = start-read heads i c.index.result.now here.below c.index.ensures in
    let number = c.number.ensures ∙ ap₂ (λ l n. number_in l (n + a % 4096) c.args.size) c.deref-in-Some.ensures.value start in
    let fits : a % 4096 + c.args.size ≤ 4096 = omega (arith, c.from.ensures, c.if-offset-from-le-PAGE_BYTES.true) in
    record { value = load-found heads bs m a c.args.size i c.number.result c.self.view_is c.self.invariant here (omega arith) fits number }

use Rattle.std.proofs.Common.{◌+◌, ◌/◌, ◌%◌, ◌≤◌, sym, ap, ap₂, ◌∙◌, arith, rules, length}
use Rattle.std.proofs.lemmas.List.{with_items_is}
use Rattle.guest_types.specs.Memory.{is_writable}
use Rattle.paged_memory.specs.Numbers.{with_number}
use Rattle.paged_memory.proofs.HeadPlaces.{rising, stands, head-read, start-read, laid-written, store-found}
use Rattle.paged_memory.proofs.Places.{within}
use Rattle.paged_memory.proofs.store.StoreGuestMemory.store.Goals as goal

pub place_of-requires : goal.place_of-requires
place_of-requires c = rising c.self.inside.heads.items c.deref.result.now c.self.inside.bytes.items c.deref.ensures.value c.self.invariant

pub invariant_of-self : goal.invariant_of-self
invariant_of-self c =
    let heads = c.self.inside.heads.items in
    let bs = c.self.inside.bytes.items in
    let m = c.args.self.now in
    let a = c.args.address in
    let i = c.in-Some.place in
    let here = stands heads c.deref.result.now (a / 4096) i c.deref.ensures.value c.in-Some.ensures.found in
    let start = start-read heads i c.index-then-is_writable.result.now here.below c.index-then-is_writable.ensures in
    let items = with_items_is c.self.inside.bytes c.put_number.new.bytes (c.put_number.auto.bytes ∙ c.deref_mut.ensures.len) in
    let new = items ∙ c.put_number.ensures ∙ ap₂ (λ l n. with_number l (n + a % 4096) c.args.size c.args.value) c.deref_mut.ensures.value start in
    let fits : a % 4096 + c.args.size ≤ 4096 = omega (arith, c.from.ensures, c.if-offset-from-le-PAGE_BYTES.true) in
    laid-written heads bs _ a c.args.size c.args.value i c.self.invariant here fits new

pub returns-then-is_writable-clause-done : goal.returns-then-is_writable-clause-done
returns-then-is_writable-clause-done c =
    let heads = c.self.inside.heads.items in
    let bs = c.self.inside.bytes.items in
    let m = c.args.self.now in
    let a = c.args.address in
    let i = c.in-Some.place in
    let here = stands heads c.deref.result.now (a / 4096) i c.deref.ensures.value c.in-Some.ensures.found in
    let start = start-read heads i c.index-then-is_writable.result.now here.below c.index-then-is_writable.ensures in
    let items = with_items_is c.self.inside.bytes c.put_number.new.bytes (c.put_number.auto.bytes ∙ c.deref_mut.ensures.len) in
    let new = items ∙ c.put_number.ensures ∙ ap₂ (λ l n. with_number l (n + a % 4096) c.args.size c.args.value) c.deref_mut.ensures.value start in
    let fits : a % 4096 + c.args.size ≤ 4096 = omega (arith, c.from.ensures, c.if-offset-from-le-PAGE_BYTES.true) in
    let perm = head-read heads i c.index.result.now here.below c.index.ensures in
    let writable = sym (ap is_writable perm) ∙ sym c.is_writable.ensures ∙ c.if-is_writable.true in
    store-found heads bs _ m a c.args.size c.args.value i c.self.view_is c.self.invariant here writable (omega arith) fits new

pub index-requires : goal.index-requires
index-requires c = omega (arith, (stands c.self.inside.heads.items c.deref.result.now (c.args.address / 4096) c.in-Some.place c.deref.ensures.value c.in-Some.ensures.found).below, c.self.inside.heads.ok.0)

pub index-requires-then-is_writable : goal.index-requires-then-is_writable
index-requires-then-is_writable c = omega (arith, (stands c.self.inside.heads.items c.deref.result.now (c.args.address / 4096) c.in-Some.place c.deref.ensures.value c.in-Some.ensures.found).below, c.self.inside.heads.ok.0)

pub overflow_add-at : goal.overflow_add-at
overflow_add-at c =
    let heads = c.self.inside.heads.items in
    let bs = c.self.inside.bytes.items in
    let i = c.in-Some.place in
    let here = stands heads c.deref.result.now (c.args.address / 4096) i c.deref.ensures.value c.in-Some.ensures.found in
    let most : length bs ≤ 9223372036854775808 = search rules in
    omega (arith, start-read heads i c.index-then-is_writable.result.now here.below c.index-then-is_writable.ensures, within heads bs i c.self.invariant here.below, most)

pub put_number-requires-clause-inside : goal.put_number-requires-clause-inside
put_number-requires-clause-inside c =
    let heads = c.self.inside.heads.items in
    let bs = c.self.inside.bytes.items in
    let i = c.in-Some.place in
    let here = stands heads c.deref.result.now (c.args.address / 4096) i c.deref.ensures.value c.in-Some.ensures.found in
    omega (arith, start-read heads i c.index-then-is_writable.result.now here.below c.index-then-is_writable.ensures, within heads bs i c.self.invariant here.below, ap length c.deref_mut.ensures.value, c.from.ensures, c.if-offset-from-le-PAGE_BYTES.true)

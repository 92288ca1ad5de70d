use Rattle.std.proofs.Common.{◌+◌, ◌/◌, ◌%◌, ap, ap₂, ◌∙◌, arith}
use Rattle.std.proofs.lemmas.List.{with_items_is}
use Rattle.guest_types.specs.Memory.{put_number}
use Rattle.paged_memory.specs.Numbers.{with_number}
use Rattle.paged_memory.proofs.HeadPlaces.{rising, stands, start-read, no_page_of_no_head, laid-written, number-written, byte-written, byte-unmapped}
use Rattle.paged_memory.proofs.store.Store.put_byte.Goals as goal

pub place_of-requires : goal.place_of-requires
place_of-requires c = rising c.self.inside.heads.items c.deref.result.now c.self.inside.bytes.items c.deref.ensures.value c.self.invariant

pub invariant_of-self : goal.invariant_of-self
invariant_of-self c =
    let heads = c.self.inside.heads.items in
    let bs = c.self.inside.bytes.items in
    let m = c.args.self.now in
    let a = c.args.address in
    let i = c.in-Some.place in
    let here = stands heads c.deref.result.now (a / 4096) i c.deref.ensures.value c.in-Some.ensures.found in
    let start = start-read heads i c.index.result.now here.below c.index.ensures in
    let items = with_items_is c.self.inside.bytes c.put_number.new.bytes (c.put_number.auto.bytes ∙ c.deref_mut.ensures.len) in
    let new = items ∙ c.put_number.ensures ∙ ap₂ (λ l n. with_number l (n + a % 4096) 1 c.from.result) c.deref_mut.ensures.value start in
    laid-written heads bs _ a 1 c.from.result i c.self.invariant here (omega arith) new

pub returns-in-Some : goal.returns-in-Some
returns-in-Some c =
    let heads = c.self.inside.heads.items in
    let bs = c.self.inside.bytes.items in
    let m = c.args.self.now in
    let a = c.args.address in
    let i = c.in-Some.place in
    let here = stands heads c.deref.result.now (a / 4096) i c.deref.ensures.value c.in-Some.ensures.found in
    let start = start-read heads i c.index.result.now here.below c.index.ensures in
    let items = with_items_is c.self.inside.bytes c.put_number.new.bytes (c.put_number.auto.bytes ∙ c.deref_mut.ensures.len) in
    let new = items ∙ c.put_number.ensures ∙ ap₂ (λ l n. with_number l (n + a % 4096) 1 c.from.result) c.deref_mut.ensures.value start in
    number-written heads bs _ m a 1 c.from.result i c.self.view_is c.self.invariant here (omega arith) (omega arith) new
    ∙ ap (put_number m a 1) c.from.ensures
    ∙ byte-written m a c.args.byte (omega arith)

pub returns-in_default : goal.returns-in_default
returns-in_default c =
    let heads = c.self.inside.heads.items in
    let bs = c.self.inside.bytes.items in
    let m = c.args.self.now in
    let a = c.args.address in
    byte-unmapped m a c.args.byte (no_page_of_no_head heads c.deref.result.now bs m (a / 4096) c.self.view_is c.deref.ensures.value c.in_default.ensures.absent)

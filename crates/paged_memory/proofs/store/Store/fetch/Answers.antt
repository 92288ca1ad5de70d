use Rattle.std.proofs.Common.{◌+◌, ◌/◌, ◌%◌, sym, ap, ap₂, ◌∙◌, arith}
use Rattle.guest_types.specs.Memory.{is_executable}
use Rattle.paged_memory.specs.Numbers.{number_in}
use Rattle.paged_memory.proofs.Places.{page_of}
use Rattle.paged_memory.proofs.HeadPlaces.{rising, stands, page_of_standing_head, no_page_of_no_head, head-read, start-read, fetch-none, fetch-unaligned, fetch-refused, fetch-found}
use Rattle.paged_memory.proofs.store.Store.fetch.Goals as goal

pub returns-then-address-ne0 : goal.returns-then-address-ne0
returns-then-address-ne0 c = fetch-unaligned c.args.self.now c.args.address c.if-address-ne0.true

pub place_of-requires : goal.place_of-requires
place_of-requires c = rising c.self.inside.heads.items c.deref.result.now c.self.inside.bytes.items c.deref.ensures.value c.self.invariant

pub returns-in_default : goal.returns-in_default
returns-in_default c =
    let heads = c.self.inside.heads.items in
    let bs = c.self.inside.bytes.items in
    let m = c.args.self.now in
    let a = c.args.address in
    fetch-none m a (no_page_of_no_head heads c.deref.result.now bs m (a / 4096) c.self.view_is c.deref.ensures.value c.in_default.ensures.absent)

pub returns-then-not-is_executable : goal.returns-then-not-is_executable
returns-then-not-is_executable c =
    let heads = c.self.inside.heads.items in
    let bs = c.self.inside.bytes.items in
    let m = c.args.self.now in
    let a = c.args.address in
    let i = c.in-Some.place in
    let here = stands heads c.deref.result.now (a / 4096) i c.deref.ensures.value c.in-Some.ensures.found in
    let page = page_of_standing_head heads bs m (a / 4096) i c.self.view_is c.self.invariant here in
    let perm = head-read heads i c.index.result.now here.below c.index.ensures in
    fetch-refused m a (page_of heads bs i) page c.if-address-ne0.false (sym (ap is_executable perm) ∙ sym c.is_executable.ensures ∙ c.if-not-is_executable.true)

pub returns : goal.returns
returns c =
    let heads = c.self.inside.heads.items in
    let bs = c.self.inside.bytes.items in
    let m = c.args.self.now in
    let a = c.args.address in
    let i = c.in-Some.place in
    let here = stands heads c.deref.result.now (a / 4096) i c.deref.ensures.value c.in-Some.ensures.found in
    let perm = head-read heads i c.index.result.now here.below c.index.ensures in
    let runs = sym (ap is_executable perm) ∙ sym c.is_executable.ensures ∙ c.if-not-is_executable.false in
    let start = start-read heads i c.index-2.result.now here.below c.index-2.ensures in
    let word = c.word.ensures ∙ ap₂ (λ l n. number_in l (n + a % 4096) 4) c.deref-2.ensures.value start in
    fetch-found heads bs m a i c.word.result c.self.view_is c.self.invariant here (omega arith) c.if-address-ne0.false runs word

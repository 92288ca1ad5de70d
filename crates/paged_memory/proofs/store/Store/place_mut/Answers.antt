use Rattle.std.proofs.Common.{◌≡◌, ◌/◌, true, false, refl, sym, ap, ap₂, ◌∙◌}
use Rattle.std.specs.Prelude.{◌&&◌}
use Rattle.std.proofs.lemmas.Bool.{and_parts, false≢true}
use Rattle.guest_types.specs.Memory.{can_write, is_writable}
use Rattle.guest_types.specs.Spans.{in_one_page}
use Rattle.guest_types.proofs.SpanLaws.{in_one_page-fits}
use Rattle.paged_memory.proofs.Places.{page_of}
use Rattle.paged_memory.proofs.HeadPlaces.{rising, stands, page_of_standing_head, no_page_of_no_head, head-read, write-none, write-found, place-of}
use Rattle.paged_memory.proofs.store.Store.place_mut.Goals as goal

pub place_of-requires : goal.place_of-requires
place_of-requires c = rising c.self.inside.heads.items c.deref.result.now c.self.inside.bytes.items c.deref.ensures.value c.self.invariant

pub returns-then-is_writable-clause-some : goal.returns-then-is_writable-clause-some
returns-then-is_writable-clause-some c =
    let heads = c.self.inside.heads.items in
    let bs = c.self.inside.bytes.items in
    let m = c.args.self.now in
    let a = c.args.address in
    let i = c.in-Some.place in
    let here = stands heads c.deref.result.now (a / 4096) i c.deref.ensures.value c.in-Some.ensures.found in
    let page = page_of_standing_head heads bs m (a / 4096) i c.self.view_is c.self.invariant here in
    let may : can_write m a ≡ true = sym (c.is_writable.ensures ∙ ap is_writable (head-read heads i c.index.result.now here.below c.index.ensures) ∙ write-found m a (page_of heads bs i) page) ∙ c.if-is_writable.true in
    (λ e. ap₂ (λ x y. x && y) (sym c.in_one_page.ensures ∙ c.if-not-in_one_page.false) may, λ e. refl)

pub returns-then-is_writable-clause-value : goal.returns-then-is_writable-clause-value
returns-then-is_writable-clause-value c =
    let heads = c.self.inside.heads.items in
    let a = c.args.address in
    let here = stands heads c.deref.result.now (a / 4096) c.in-Some.place c.deref.ensures.value c.in-Some.ensures.found in
    place-of heads c.self.inside.bytes.items c.args.self.now a c.args.len c.in-Some.place c.self.view_is c.self.invariant here (in_one_page-fits a c.args.len (sym c.in_one_page.ensures ∙ c.if-not-in_one_page.false)).1

pub returns-else-is_writable-clause-some : goal.returns-else-is_writable-clause-some
returns-else-is_writable-clause-some c =
    let heads = c.self.inside.heads.items in
    let bs = c.self.inside.bytes.items in
    let m = c.args.self.now in
    let a = c.args.address in
    let i = c.in-Some.place in
    let here = stands heads c.deref.result.now (a / 4096) i c.deref.ensures.value c.in-Some.ensures.found in
    let page = page_of_standing_head heads bs m (a / 4096) i c.self.view_is c.self.invariant here in
    let may_not : can_write m a ≡ false = sym (c.is_writable.ensures ∙ ap is_writable (head-read heads i c.index.result.now here.below c.index.ensures) ∙ write-found m a (page_of heads bs i) page) ∙ c.if-is_writable.false in
    (λ e. absurd (false≢true e), λ has. sym may_not ∙ (and_parts (in_one_page a c.args.len) (can_write m a) has).1)

pub returns-in-None-clause-some : goal.returns-in-None-clause-some
returns-in-None-clause-some c =
    let m = c.args.self.now in
    let a = c.args.address in
    let unmapped : false ≡ can_write m a = write-none m a (no_page_of_no_head c.self.inside.heads.items c.deref.result.now c.self.inside.bytes.items m (a / 4096) c.self.view_is c.deref.ensures.value c.in-None.ensures.absent) in
    (λ e. absurd (false≢true e), λ has. unmapped ∙ (and_parts (in_one_page a c.args.len) (can_write m a) has).1)

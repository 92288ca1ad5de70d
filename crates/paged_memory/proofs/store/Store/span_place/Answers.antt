use Rattle.std.proofs.Common.{◌≡◌, ◌/◌, true, false, refl, sym, ap, ap₂, ◌∙◌}
use Rattle.std.specs.Prelude.{◌&&◌, is_some}
use Rattle.std.proofs.lemmas.Bool.{and_parts, false≢true}
use Rattle.guest_types.specs.Memory.{can_read}
use Rattle.guest_types.specs.Spans.{in_one_page}
use Rattle.guest_types.proofs.SpanLaws.{in_one_page-fits}
use Rattle.paged_memory.proofs.HeadPlaces.{rising, stands, page_of_standing_head, no_page_of_no_head, place-of}
use Rattle.paged_memory.proofs.store.Store.span_place.Goals as goal

pub read_place_of-requires : goal.read_place_of-requires
read_place_of-requires c = rising c.self.inside.heads.items c.deref.result.now c.self.inside.bytes.items c.deref.ensures.value c.self.invariant

pub returns-in-Some-clause-some : goal.returns-in-Some-clause-some
returns-in-Some-clause-some c =
    let heads = c.self.inside.heads.items in
    let m = c.args.self.now in
    let a = c.args.address in
    let here = stands heads c.deref.result.now (a / 4096) c.in-Some.place c.deref.ensures.value c.in-Some.ensures.found in
    let mapped : can_read m a ≡ true = ap is_some (page_of_standing_head heads c.self.inside.bytes.items m (a / 4096) c.in-Some.place c.self.view_is c.self.invariant here) in
    (λ e. ap₂ (λ x y. x && y) (sym c.in_one_page.ensures ∙ c.if-not-in_one_page.false) mapped, λ e. refl)

pub returns-in-Some-clause-value : goal.returns-in-Some-clause-value
returns-in-Some-clause-value c =
    let heads = c.self.inside.heads.items in
    let a = c.args.address in
    let here = stands heads c.deref.result.now (a / 4096) c.in-Some.place c.deref.ensures.value c.in-Some.ensures.found in
    place-of heads c.self.inside.bytes.items c.args.self.now a c.args.len c.in-Some.place c.self.view_is c.self.invariant here (in_one_page-fits a c.args.len (sym c.in_one_page.ensures ∙ c.if-not-in_one_page.false)).1

pub returns-in-None-clause-some : goal.returns-in-None-clause-some
returns-in-None-clause-some c =
    let m = c.args.self.now in
    let a = c.args.address in
    let unmapped : can_read m a ≡ false = ap is_some (no_page_of_no_head c.self.inside.heads.items c.deref.result.now c.self.inside.bytes.items m (a / 4096) c.self.view_is c.deref.ensures.value c.in-None.ensures.absent) in
    (λ e. absurd (false≢true e), λ has. sym unmapped ∙ (and_parts (in_one_page a c.args.len) (can_read m a) has).1)

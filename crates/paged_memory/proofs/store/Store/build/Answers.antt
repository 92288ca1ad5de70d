use Rattle.std.proofs.Common.{◌≡◌, List, length, sym, ap, ap₂, ◌∙◌, subst, arith}
use Rattle.guest_types.specs.Memory.{Memory, DoNotMeet, merged}
use Rattle.guest_types.proofs.Merges.{merged-nil_right}
use Rattle.paged_memory.specs.declared.head.Head.{Head}
use Rattle.paged_memory.specs.Layout.{memory_of}
use Rattle.std.proofs.lemmas.Result.{IfOk-from_err}
use Rattle.paged_memory.proofs.store.Store.build.Goals as goal

pub map_pages-requires-2-clause-apart : goal.map_pages-requires-2-clause-apart
map_pages-requires-2-clause-apart c =
    let map = c.args.map.now.pages.items in
    let now : c.map_pages.new.self ≡ map = c.in_ok-map_pages.ensures.memory ∙ ap (λ (l : List Head). merged c.deref.result.now (memory_of l c.in_ok-with_capacity.field-0.items)) c.new.ensures.items ∙ merged-nil_right c.deref.result.now ∙ c.deref.ensures.value in
    subst (λ (m : Memory). DoNotMeet m c.map_pages.new.self) (sym c.deref-2.ensures.value) (subst (DoNotMeet c.args.image.now.pages.items) (sym now) c.requires.apart)

pub map_pages-requires-2-clause-few : goal.map_pages-requires-2-clause-few
map_pages-requires-2-clause-few c =
    let map = c.args.map.now.pages.items in
    let now : c.map_pages.new.self ≡ map = c.in_ok-map_pages.ensures.memory ∙ ap (λ (l : List Head). merged c.deref.result.now (memory_of l c.in_ok-with_capacity.field-0.items)) c.new.ensures.items ∙ merged-nil_right c.deref.result.now ∙ c.deref.ensures.value in
    omega (arith, ap length now, ap length c.deref-2.ensures.value, c.requires.few)

pub returns : goal.returns
returns c =
    let map = c.args.map.now.pages.items in
    let now : c.map_pages.new.self ≡ map = c.in_ok-map_pages.ensures.memory ∙ ap (λ (l : List Head). merged c.deref.result.now (memory_of l c.in_ok-with_capacity.field-0.items)) c.new.ensures.items ∙ merged-nil_right c.deref.result.now ∙ c.deref.ensures.value in
    c.in_ok-map_pages-2.ensures.memory ∙ ap₂ merged c.deref-2.ensures.value now

pub overflow_add-count : goal.overflow_add-count
overflow_add-count c = omega (arith, c.requires.few)

pub overflow_mul-count : goal.overflow_mul-count
overflow_mul-count c = omega (arith, c.requires.few)

pub returns-in_err-with_capacity : goal.returns-in_err-with_capacity
returns-in_err-with_capacity c = IfOk-from_err _ _ c.from_residual.ensures.0

pub returns-in_err-map_pages : goal.returns-in_err-map_pages
returns-in_err-map_pages c = IfOk-from_err _ _ c.from_residual-in_err-map_pages.ensures.0

pub returns-in_err-map_pages-2 : goal.returns-in_err-map_pages-2
returns-in_err-map_pages-2 c = IfOk-from_err _ _ c.from_residual-in_err-map_pages-2.ensures.0

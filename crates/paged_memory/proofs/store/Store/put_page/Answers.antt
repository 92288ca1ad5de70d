use Rattle.std.proofs.Common.{◌≡◌, ◌+◌, ◌-◌, ◌<◌, ◌≤◌, length, rules, sym, ap, ◌∙◌, arith, vec_len}
use Rattle.std.proofs.lemmas.List.{with_items_is}
use borrow.Rule.Slice.PartMut.{put_mid}
use Rattle.paged_memory.specs.Layout.{memory_of}
use Rattle.paged_memory.specs.Epochs.{with_page}
use Rattle.paged_memory.proofs.HeadPlaces.{length-pages, start-read, put-mid}
use Rattle.paged_memory.proofs.Parts.{put_at, length-put_at}
use Rattle.paged_memory.proofs.Places.{within}
use Rattle.paged_memory.proofs.PageLaws.{with_page-whole, with_page-none, laid-same}
use Rattle.paged_memory.proofs.store.Store.put_page.Goals as goal

pub returns-then-place-len : goal.returns-then-place-len
returns-then-place-len c =
    let heads = c.self.inside.heads.items in
    let bs = c.self.inside.bytes.items in
    let p = c.args.place in
    let page = c.args.page.now in
    let at = c.index.result.now.start in
    let count : vec_len c.self.inside.heads ≡ length heads = search rules in
    let below : p < length heads = omega (arith, c.if-place-len.true, c.len.ensures, count) in
    let start = start-read heads p c.index.result.now below c.index.ensures in
    let inside : at + 4096 ≤ length bs = omega (arith, start, within heads bs p c.self.invariant below) in
    let size : at + 4096 - at ≡ length c.copy_from_slice.new.self = omega (arith, c.requires, ap length c.copy_from_slice.ensures.after) in
    let put : put_mid at (at + 4096 - at) c.deref_mut.result.now c.copy_from_slice.new.self ≡ put_at at page bs =
    put-mid bs c.deref_mut.result.now c.copy_from_slice.new.self at (at + 4096 - at) c.deref_mut.ensures.value size
    ∙ ap (λ l. put_at at l bs) c.copy_from_slice.ensures.after in
    let long = length-put_at at page bs (omega (arith, inside, c.requires)) in
    ap (memory_of heads) (with_items_is c.self.inside.bytes _ (ap length put ∙ long ∙ sym c.self.inside.bytes.ok.0) ∙ put ∙ ap (λ n. put_at n page bs) start)
    ∙ with_page-whole heads bs p page c.self.invariant below c.requires
    ∙ ap (with_page p page) c.self.view_is

pub returns-else-place-len : goal.returns-else-place-len
returns-else-place-len c =
    let heads = c.self.inside.heads.items in
    let count : vec_len c.self.inside.heads ≡ length heads = search rules in
    let pages = length-pages heads c.self.inside.bytes.items c.args.self.now c.self.view_is in
    sym (with_page-none c.args.place c.args.page.now c.args.self.now (omega (arith, c.if-place-len.false, c.len.ensures, count, pages)))

pub index-requires : goal.index-requires
index-requires c = omega (arith, c.if-place-len.true, c.len.ensures)

pub overflow_add-at : goal.overflow_add-at
overflow_add-at c =
    let heads = c.self.inside.heads.items in
    let bs = c.self.inside.bytes.items in
    let most : length bs ≤ 9223372036854775808 = search rules in
    let below : c.args.place < length heads = omega (arith, c.if-place-len.true, c.len.ensures, c.self.inside.heads.ok.0) in
    omega (arith, start-read heads c.args.place c.index.result.now below c.index.ensures, within heads bs c.args.place c.self.invariant below, most)

pub slice_bounds-copy_from_slice-count : goal.slice_bounds-copy_from_slice-count
slice_bounds-copy_from_slice-count c = omega arith

pub slice_bounds-copy_from_slice-end : goal.slice_bounds-copy_from_slice-end
slice_bounds-copy_from_slice-end c =
    let heads = c.self.inside.heads.items in
    let bs = c.self.inside.bytes.items in
    let below : c.args.place < length heads = omega (arith, c.if-place-len.true, c.len.ensures, c.self.inside.heads.ok.0) in
    omega (arith, start-read heads c.args.place c.index.result.now below c.index.ensures, within heads bs c.args.place c.self.invariant below, ap length c.deref_mut.ensures.value)

pub slice_bounds-copy_from_slice-start : goal.slice_bounds-copy_from_slice-start
slice_bounds-copy_from_slice-start c =
    let heads = c.self.inside.heads.items in
    let bs = c.self.inside.bytes.items in
    let below : c.args.place < length heads = omega (arith, c.if-place-len.true, c.len.ensures, c.self.inside.heads.ok.0) in
    omega (arith, start-read heads c.args.place c.index.result.now below c.index.ensures, within heads bs c.args.place c.self.invariant below, ap length c.deref_mut.ensures.value)

pub invariant_of-self : goal.invariant_of-self
invariant_of-self c =
    let heads = c.self.inside.heads.items in
    let bs = c.self.inside.bytes.items in
    let p = c.args.place in
    let page = c.args.page.now in
    let at = c.index.result.now.start in
    let below : p < length heads = omega (arith, c.if-place-len.true, c.len.ensures, c.self.inside.heads.ok.0) in
    let start = start-read heads p c.index.result.now below c.index.ensures in
    let inside : at + 4096 ≤ length bs = omega (arith, start, within heads bs p c.self.invariant below) in
    let size : at + 4096 - at ≡ length c.copy_from_slice.new.self = omega (arith, c.requires, ap length c.copy_from_slice.ensures.after) in
    let put : put_mid at (at + 4096 - at) c.deref_mut.result.now c.copy_from_slice.new.self ≡ put_at at page bs =
    put-mid bs c.deref_mut.result.now c.copy_from_slice.new.self at (at + 4096 - at) c.deref_mut.ensures.value size
    ∙ ap (λ l. put_at at l bs) c.copy_from_slice.ensures.after in
    let whole = ap length put ∙ length-put_at at page bs (omega (arith, inside, c.requires)) in
    laid-same heads bs _ c.self.invariant (ap length (with_items_is c.self.inside.bytes _ (whole ∙ sym c.self.inside.bytes.ok.0)) ∙ whole)

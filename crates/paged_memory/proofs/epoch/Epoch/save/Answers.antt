use Rattle.std.proofs.Common.{◌≡◌, ◌<◌, [], ◌∷◌, ◌++◌, false, length, rules, sym, ap, ap₂, ◌∙◌, arith, vec_len, refl}
use Rattle.std.proofs.lemmas.List.{get_or_read}
use Rattle.paged_memory.specs.Epochs.{put_back, undone, with_page, has_place}
use Rattle.paged_memory.proofs.PageLaws.{with_page-same}
use Rattle.paged_memory.proofs.UndoLaws.{has_place-push, has_place-more, put_back-push}
use Rattle.paged_memory.proofs.Marks.{marked-room, epoch-push}
use Rattle.paged_memory.proofs.epoch.Epoch.save.Goals as goal

pub push_reserved-requires : goal.push_reserved-requires
push_reserved-requires c =
    let marks = c.self.inside.marks.items in
    let count : vec_len c.self.inside.places ≡ length c.self.inside.places.items = search rules in
    let below : c.args.place < length marks = omega (arith, c.requires.inside, ap (λ s. s.pages) c.self.view_is) in
    let not = sym (get_or_read marks c.args.place c.index.result.now below c.index.ensures false) ∙ c.if-index.false in
    omega (arith, count, marked-room marks c.args.place below not, c.self.invariant.counted, c.self.invariant.fits)

pub unwrap-requires : goal.unwrap-requires
unwrap-requires c =
    let marks = c.self.inside.marks.items in
    let count : vec_len c.self.inside.images ≡ length c.self.inside.images.items = search rules in
    let below : c.args.place < length marks = omega (arith, c.requires.inside, ap (λ s. s.pages) c.self.view_is) in
    let not = sym (get_or_read marks c.args.place c.index.result.now below c.index.ensures false) ∙ c.if-index.false in
    c.extend_from_slice.ensures.succeeds (omega (arith, count, marked-room marks c.args.place below not, c.self.invariant.counted, c.self.invariant.whole, c.requires.whole, c.self.invariant.fits_images))

pub invariant_of-self : goal.invariant_of-self
invariant_of-self c =
    let marks = c.self.inside.marks.items in
    let below : c.args.place < length marks = omega (arith, c.requires.inside, ap (λ s. s.pages) c.self.view_is) in
    let not = sym (get_or_read marks c.args.place c.index.result.now below c.index.ensures false) ∙ c.if-index.false in
    let images : c.extend_from_slice.new.self.items ≡ c.self.inside.images.items ++ c.args.page.now = search rules in
    epoch-push marks c.self.inside.places.items c.self.inside.images.items _ _ c.args.place c.args.page.now _ _ _ _ c.self.invariant below not c.requires.whole c.push_reserved.ensures.items images
    (omega (arith, c.push_reserved.ensures.capacity))
    (omega (arith, c.extend_from_slice.ensures.capacity))

pub returns-clause-saved : goal.returns-clause-saved
returns-clause-saved c = ap (has_place c.args.place) c.push_reserved.ensures.items ∙ has_place-push c.args.place c.self.inside.places.items

pub returns-clause-kept : goal.returns-clause-kept
returns-clause-kept c = λ other h.
    ap (has_place other) c.push_reserved.ensures.items
    ∙ has_place-more other c.self.inside.places.items (c.args.place ∷ []) (ap (λ s. has_place other s.places) c.self.view_is ∙ h)

pub returns-clause-same : goal.returns-clause-same
returns-clause-same c = λ memory e.
    let places = c.self.inside.places.items in
    let ims = c.self.inside.images.items in
    let p = c.args.place in
    let page = c.args.page.now in
    let images : c.extend_from_slice.new.self.items ≡ ims ++ page = search rules in
    ap₂ (λ ps i. put_back ps i memory) c.push_reserved.ensures.items images
    ∙ put_back-push p places ims page memory c.self.invariant.whole c.requires.whole
    ∙ ap (put_back places ims) (ap (λ x. with_page p x memory) (sym e) ∙ with_page-same p memory)
    ∙ ap (λ s. undone s memory) c.self.view_is

pub index-requires : goal.index-requires
index-requires c = omega (arith, c.requires.inside, ap (λ s. s.pages) c.self.view_is)

pub index_mut-requires : goal.index_mut-requires
index_mut-requires c = omega (arith, c.requires.inside, ap (λ s. s.pages) c.self.view_is)

pub returns-then-index-clause-pages : goal.returns-then-index-clause-pages
returns-then-index-clause-pages c = refl

pub returns-then-index-clause-kept : goal.returns-then-index-clause-kept
returns-then-index-clause-kept c = λ other has. has

pub returns-then-index-clause-same : goal.returns-then-index-clause-same
returns-then-index-clause-same c = λ memory e. refl

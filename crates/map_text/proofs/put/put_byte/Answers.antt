use Rattle.std.proofs.Common.{◌≡◌, ◌/◌, ◌<◌, ℕ, List, get_or, None, length, ap, sym, ◌∙◌, arith}
use Rattle.std.specs.Prelude.{is_some, slice_index, slice_set}
use Rattle.guest_types.specs.Memory.{page_at, page_numbers}
use Rattle.guest_types.proofs.Merges.{page_at-place}
use Rattle.guest_types.proofs.Writes.{put_byte-unmapped}
use Rattle.map_text.proofs.Places.{no_page, put-place, number_at_place}
use Rattle.map_text.proofs.put.put_byte.Goals as goal
use Rattle.map_text.proofs.put.put_byte.Goals.{Joined-else-place-pages, else-place-pages-via-then-place-pages+else-number, else-place-pages-via-else-place-pages}

pub returns-then-number-clause-mapped : goal.returns-then-number-clause-mapped
returns-then-number-clause-mapped c =
    let pages = c.args.pages.now in
    let place = c.place_of-place.result in
    sym (ap is_some (page_at-place pages place (c.args.address / 4096) c.index-pages-place.result c.requires c.if-place-pages.true (sym c.number.ensures.value ∙ c.if-number.true)))

pub returns-then-number-clause-put : goal.returns-then-number-clause-put
returns-then-number-clause-put c =
    let pages = c.args.pages.now in
    let place = c.place_of-place.result in
    let r = c.index-pages-place-then-number.result in
    let inside = c.if-place-pages.true in
    let number = sym (number_at_place pages place r inside) ∙ number_at_place pages place c.index-pages-place.result inside ∙ sym c.number.ensures.value ∙ c.if-number.true in
    ap (λ (bytes : List ℕ). slice_set pages place (record (get_or pages place r) { bytes = bytes })) c.put.ensures
    ∙ sym (put-place pages c.args.address c.args.byte place r c.requires inside number)

page_not_mapped : (c : Joined-else-place-pages) → page_at c.args.pages.now (c.args.address / 4096) ≡ None
page_not_mapped c =
    let pages = c.args.pages.now in
    let place = c.place_of-place.result in
    no_page pages (c.args.address / 4096) place c.requires.ascending c.place_of-place.ensures
    (λ (inside : place < length pages) (same : slice_index (page_numbers pages) place ≡ c.args.address / 4096).
    elim c.else-place-pages.branch [
      | else-place-pages-via-then-place-pages+else-number w ↦
          w.if-number.false (w.number.ensures.value ∙ sym (number_at_place pages place w.index-pages-place.result inside) ∙ same)
      | else-place-pages-via-else-place-pages w ↦ absurd (omega arith)
    ])

pub returns-else-place-pages-clause-mapped : goal.returns-else-place-pages-clause-mapped
returns-else-place-pages-clause-mapped c = sym (ap is_some (page_not_mapped c))

pub returns-else-place-pages-clause-put : goal.returns-else-place-pages-clause-put
returns-else-place-pages-clause-put c = sym (put_byte-unmapped c.args.pages.now c.args.address c.args.byte (page_not_mapped c))

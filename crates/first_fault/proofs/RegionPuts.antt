-- The code of one more item of the region.
use Rattle.std.proofs.Common.{◌≡◌, ℕ, ◌+◌, ◌<◌, ◌≤◌, List, ◌∷◌, length, drop, sym, ap, ◌∙◌}
use Rattle.std.specs.Prelude.{slice_index_or}
use Rattle.std.proofs.lemmas.List.{drop_all}
use Rattle.loop_form.specs.declared.loop_item.LoopItem.{LoopItem}
use Rattle.loop_form.specs.LoopView.{view_of, view}
use Rattle.chunk_emit.proofs.StepCode.{no_item, at_place}
use Rattle.guest_types.specs.declared.length.Width.{Width}
use Rattle.label_fix.specs.DraftRun.{DraftEntry}
use Rattle.loop_form.specs.LoopItems.{Item}
use Rattle.chunk_emit.specs.Registers.{Layout}
use Rattle.chunk_emit.specs.ChunkCode.{puts}
use Rattle.chunk_emit.proofs.ItemRuns.{puts-append}
use Rattle.first_fault.specs.RegionCode.{Mode, step_words, region_words}

puts_of_one_item : (mode : Mode) (w : Width) (l : Layout) (it : Item) (items : List Item) (rest : List DraftEntry) → puts (region_words mode w l (it ∷ items)) rest ≡ puts (step_words mode w l it.item it.mask it.op) (puts (region_words mode w l items) rest)
puts_of_one_item mode w l it items rest = puts-append (step_words mode w l it.item it.mask it.op) (region_words mode w l items) rest

-- the item at a place, and those after it
pub next_puts : (mode : Mode) (w : Width) (l : Layout) (items : List LoopItem) (p : ℕ) (rest : List DraftEntry) → p < length items → let it = view_of (slice_index_or items p no_item) in puts (step_words mode w l it.item it.mask it.op) (puts (region_words mode w l (view (drop (p + 1) items))) rest) ≡ puts (region_words mode w l (view (drop p items))) rest
next_puts mode w l items p rest h =
    let it : Item = view_of (slice_index_or items p no_item) in
    sym (puts_of_one_item mode w l it (view (drop (p + 1) items)) rest) ∙ ap (λ its. puts (region_words mode w l its) rest) (sym (at_place items p no_item h))

-- after the last item
pub no_region_words_past_items : (mode : Mode) (w : Width) (l : Layout) (items : List LoopItem) (p : ℕ) (rest : List DraftEntry) → length items ≤ p → rest ≡ puts (region_words mode w l (view (drop p items))) rest
no_region_words_past_items mode w l items p rest h = ap (λ its. puts (region_words mode w l (view its)) rest) (sym (drop_all p items h))

-- The entries of a pass, part by part.
use Rattle.std.proofs.Common.{◌≡◌, ℕ, List, [], ◌∷◌, ◌++◌, ap, ◌∙◌}
use Rattle.guest_types.specs.declared.length.Width.{Width}
use Rattle.machine_model.specs.InstructionTable.{Listed}
use Rattle.label_fix.specs.DraftRun.{DraftEntry, Put}
use Rattle.loop_form.specs.LoopItems.{Item}
use Rattle.chunk_emit.specs.Registers.{Layout}
use Rattle.chunk_emit.specs.ChunkCode.{items_words, puts}
use Rattle.chunk_emit.proofs.ItemRuns.{puts-append}
use Rattle.first_fault.specs.RegionCode.{exits_words, single_words}
use Rattle.first_fault.specs.BreakRegion.{region_of, rest_of}
use Rattle.chunk_pass.specs.PassCode.{lanes_word, first_lane_words, index_words, advance_word, chunk_words, iteration_words, plain_words}

-- three stretches, one after another
three : (xs ys : List Listed) (z : Listed) (rest : List DraftEntry) → puts (xs ++ (ys ++ z ∷ [])) rest ≡ puts xs (puts ys (Put z ∷ rest))
three xs ys z rest = puts-append xs (ys ++ z ∷ []) rest ∙ ap (puts xs) (puts-append ys (z ∷ []) rest)

pub chunk_puts : (w : Width) (l : Layout) (n : ℕ) (items : List Item) (rest : List DraftEntry) → puts (chunk_words w l n items) rest ≡ Put (lanes_word w n) ∷ puts (index_words l) (puts (exits_words w l (region_of items)) (puts (items_words w l (rest_of items)) (Put (advance_word w) ∷ rest)))
chunk_puts w l n items rest =
    ap (λ es. Put (lanes_word w n) ∷ es)
    (puts-append (index_words l) (exits_words w l (region_of items) ++ (items_words w l (rest_of items) ++ advance_word w ∷ [])) rest ∙ ap (puts (index_words l)) (three (exits_words w l (region_of items)) (items_words w l (rest_of items)) (advance_word w) rest))

pub iteration_puts : (w : Width) (l : Layout) (items : List Item) (rest : List DraftEntry) → puts (iteration_words w l items) rest ≡ puts (first_lane_words w) (puts (single_words w l (region_of items)) (puts (items_words w l (rest_of items)) (Put (advance_word w) ∷ rest)))
iteration_puts w l items rest = puts-append (first_lane_words w) (single_words w l (region_of items) ++ (items_words w l (rest_of items) ++ advance_word w ∷ [])) rest ∙ ap (puts (first_lane_words w)) (three (single_words w l (region_of items)) (items_words w l (rest_of items)) (advance_word w) rest)

pub plain_puts : (w : Width) (l : Layout) (items : List Item) (rest : List DraftEntry) → puts (plain_words w l items) rest ≡ puts (index_words l) (puts (items_words w l items) (Put (advance_word w) ∷ rest))
plain_puts w l items rest = three (index_words l) (items_words w l items) (advance_word w) rest

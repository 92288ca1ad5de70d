-- The places of labels, collected in one pass.
use Rattle.std.specs.Prelude.{ℕ, ◌+◌, List, [], ◌∷◌, min, slice_index, slice_set}
use Rattle.label_fix.specs.DraftRun.{DraftEntry, Put, Branch, Place}

-- Places by the number of their label, after some more entries, the first of which has number n: the least number of words
-- before a place of the label.
abbrev pub placed_from : List ℕ → ℕ → List DraftEntry → List ℕ
placed_from places n [] = places
placed_from places n (Put i ∷ rest) = placed_from places (n + 1) rest
placed_from places n (Branch k l ∷ rest) = placed_from places (n + 1) rest
placed_from places n (Place l ∷ rest) = placed_from (slice_set places l (min (slice_index places l) n)) n rest

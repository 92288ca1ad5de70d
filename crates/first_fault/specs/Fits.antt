-- When a layout fits the items of a break region.
use Rattle.std.specs.Prelude.{◌≡◌, ℕ, ◌+◌, ◌≤◌, List, [], ◌∷◌, Option, None}
use Rattle.loop_form.specs.LoopItems.{Op, Item}
use Rattle.loop_form.specs.LoopItems as ops
use Rattle.chunk_emit.specs.Registers.{Layout}
use Rattle.chunk_emit.specs.Chunk.{Setting}
use Rattle.chunk_emit.specs.Fits.{FitsOp, FitsMask, FitsTruth, MakesNothing, NoneBetween}

-- nothing is stored or updated, and a break stands at the top level
abbrev pub FitsStep : Layout → Setting → ℕ → Option ℕ → Op → Type 0
FitsStep l f p mask (ops.Break c) = (mask ≡ None) × FitsTruth l p c × MakesNothing l p
FitsStep l f p mask (ops.Gather a base t r u x) = ⊥
FitsStep l f p mask (ops.Store a base t c v) = ⊥
FitsStep l f p mask (ops.Update x op t v) = ⊥
FitsStep l f p mask op = FitsOp l f p op

-- items of a region, with ascending numbers from p on
abbrev pub FitsRegion : Layout → Setting → ℕ → List Item → Type 0
FitsRegion l f p [] = Unit {0}
FitsRegion l f p (it ∷ items) = (p ≤ it.item) × NoneBetween l p it.item × FitsMask l it.item it.mask × FitsStep l f it.item it.mask it.op × FitsRegion l f (it.item + 1) items

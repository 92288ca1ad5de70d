-- What fits a list of items fits each part of it.
use Rattle.std.proofs.Common.{ℕ, ◌+◌, List, [], ◌∷◌, ◌++◌}
use Rattle.loop_form.specs.LoopItems.{Op, Item}
use Rattle.loop_form.specs.LoopItems as ops
use Rattle.chunk_emit.specs.Registers.{Layout}
use Rattle.chunk_emit.specs.Chunk.{Setting}
use Rattle.chunk_emit.specs.Fits.{FitsOp, FitsCast, FitsItems, following_items}
use Rattle.chunk_emit.specs.LoopFits.{FitsStep, FitsSteps, IsNoBreak, AreNoBreaks}

cast_first : (l : Layout) (it : Item) (xs ys : List Item) → FitsCast l it (xs ++ ys) → FitsCast l it xs
cast_first l it [] ys h = tt
cast_first l it (x ∷ xs) ys h = h

-- the items before a place, and those after it
pub first_part : (l : Layout) (f : Setting) (p : ℕ) (xs ys : List Item) → FitsSteps l f p (xs ++ ys) → FitsSteps l f p xs
first_part l f p [] ys h = tt
first_part l f p (x ∷ xs) ys h = (h.0, h.1, h.2, h.3, cast_first l x xs ys h.4, first_part l f (x.item + 1) xs ys h.5)

pub second_part : (l : Layout) (f : Setting) (p : ℕ) (xs ys : List Item) → FitsSteps l f p (xs ++ ys) → FitsSteps l f (following_items p xs) ys
second_part l f p [] ys h = h
second_part l f p (x ∷ xs) ys h = second_part l f (x.item + 1) xs ys h.5

step_fits : (l : Layout) (f : Setting) (p : ℕ) (op : Op) → IsNoBreak op → FitsStep l f p op → FitsOp l f p op
step_fits l f p (ops.Break c) n h = elim n [ ]
step_fits l f p other n h = h

-- without a break
pub items_fit : (l : Layout) (f : Setting) (p : ℕ) (items : List Item) → AreNoBreaks items → FitsSteps l f p items → FitsItems l f p items
items_fit l f p [] n h = tt
items_fit l f p (x ∷ xs) n h = (h.0, h.1, h.2, step_fits l f x.item x.op n.0 h.3, h.4, items_fit l f (x.item + 1) xs n.1 h.5)

-- The owner of an item's mask: the condition item whose truth in a lane is the mask.
use Rattle.std.specs.Prelude.{◌≡◌, ℕ, List, [], ◌∷◌, Option, Some, None, Bool, true, false, not, ◌&&◌}
use Rattle.loop_form.specs.LoopItems.{Op, Item}
use Rattle.loop_form.specs.LoopItems as ops
use Rattle.predicate_plan.specs.declared.part.MaskPart.{MaskPart}
use Rattle.predicate_plan.specs.Masks.{meets}

-- whether a lane is in a mask, by the truth of its owner
abbrev pub is_on : (ℕ → Bool) → Option ℕ → Bool
is_on truth None = true
is_on truth (Some q) = truth q

-- What an item leaves of its own truth: a condition is false outside its mask, and a contrary is true where its mask is and
-- the condition is not. A break makes no truth, and where it was not taken its condition is false.
abbrev pub SettledOp : (ℕ → Bool) → ℕ → Option ℕ → Op → Type 0
SettledOp truth q mask (ops.Compare op t x y) = truth q ≡ true → is_on truth mask ≡ true
SettledOp truth q mask (ops.Not c) = truth q ≡ (is_on truth mask && not (truth c))
SettledOp truth q mask (ops.And c) = truth q ≡ true → is_on truth mask ≡ true
SettledOp truth q mask (ops.Or c d) = truth q ≡ true → is_on truth mask ≡ true
SettledOp truth q mask (ops.Break c) = (truth q ≡ false) × (is_on truth mask ≡ true → truth c ≡ false)
SettledOp truth q mask _ = Unit {0}

abbrev pub AreSettled : (ℕ → Bool) → List Item → Type 0
AreSettled truth [] = Unit {0}
AreSettled truth (it ∷ items) = SettledOp truth it.item it.mask it.op × AreSettled truth items

-- each item is done in a lane exactly where all parts of its mask are met
abbrev pub AreOwned : (ℕ → List MaskPart) → (ℕ → Bool) → List Item → Type 0
AreOwned masks truth [] = Unit {0}
AreOwned masks truth (it ∷ items) = (is_on truth it.mask ≡ meets truth (masks it.item)) × AreOwned masks truth items

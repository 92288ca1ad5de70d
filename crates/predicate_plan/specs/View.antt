-- What contracts see of a plan.
use Rattle.std.specs.Prelude.{◌≡◌, ℕ, ◌+◌, ◌≤◌, List, [], ◌∷◌, ◌++◌, length}
use Rattle.kernel_tree.specs.Plain.{Term, Action, Block, Program}
use Rattle.kernel_tree.specs.Items.{loop_index, term_size, action_size, block_size}
use Rattle.predicate_plan.specs.declared.part.MaskPart.{MaskPart}
use Rattle.predicate_plan.specs.declared.mask.Mask.{Mask}
use Rattle.predicate_plan.specs.Masks.{term_masks, action_masks, block_masks}

abbrev pub parts_of : Mask → List MaskPart
parts_of m = m.parts.items

-- ---- what calls append to a plan

-- how many items an expression, a statement and a block of a kernel's loop have
abbrev pub term_items : Program → Term → ℕ
term_items k t = term_size (loop_index k) t

abbrev pub action_items : Program → Action → ℕ
action_items k s = action_size (loop_index k) s

abbrev pub block_items : Program → Block → ℕ
block_items k b = block_size (loop_index k) b

-- a plan with these appended has at most 1000 items, and as many more
abbrev pub FitsTerm : Program → Term → List (List MaskPart) → Type 0
FitsTerm k t old = length old + term_items k t ≤ 1000

abbrev pub GrowsTerm : Program → Term → (old new : List (List MaskPart)) → Type 0
GrowsTerm k t old new = length new ≡ length old + term_items k t

abbrev pub FitsAction : Program → Action → List (List MaskPart) → Type 0
FitsAction k s old = length old + action_items k s ≤ 1000

abbrev pub GrowsAction : Program → Action → (old new : List (List MaskPart)) → Type 0
GrowsAction k s old new = length new ≡ length old + action_items k s

abbrev pub FitsBlock : Program → Block → List (List MaskPart) → Type 0
FitsBlock k b old = length old + block_items k b ≤ 1000

abbrev pub GrowsBlock : Program → Block → (old new : List (List MaskPart)) → Type 0
GrowsBlock k b old new = length new ≡ length old + block_items k b

-- the masks of an expression under a mask, and of one or two operands with the item that uses them
abbrev pub PlansTerm : Program → List MaskPart → Term → (old new : List (List MaskPart)) → Type 0
PlansTerm k mask t old new = new ≡ old ++ term_masks (loop_index k) (length old) mask t

abbrev pub PlansOne : Program → List MaskPart → Term → (old new : List (List MaskPart)) → Type 0
PlansOne k mask a old new = new ≡ old ++ (term_masks (loop_index k) (length old) mask a ++ mask ∷ [])

abbrev pub PlansTwo : Program → List MaskPart → Term → Term → (old new : List (List MaskPart)) → Type 0
PlansTwo k mask a b old new =
    new ≡ old ++ (term_masks (loop_index k) (length old) mask a ++ (term_masks (loop_index k) (length old + term_items k a) mask b ++ mask ∷ []))

abbrev pub PlansAction : Program → List MaskPart → Action → (old new : List (List MaskPart)) → Type 0
PlansAction k mask s old new = new ≡ old ++ action_masks (loop_index k) (length old) mask s

abbrev pub PlansBlock : Program → List MaskPart → Block → (old new : List (List MaskPart)) → Type 0
PlansBlock k mask b old new = new ≡ old ++ block_masks (loop_index k) (length old) mask b

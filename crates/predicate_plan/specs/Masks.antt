-- The mask of an item: the conditions of the listing under which an iteration evaluates it, each with the truth value that
-- it must have.
use Rattle.std.specs.Prelude.{◌≡◌, ℕ, ◌+◌, ◌-◌, ◌<◌, ◌≤◌, ℤ, List, [], ◌∷◌, ◌++◌, replicate, Option, Some, None, Bool, true, false, not, ◌&&◌, slice_index_or}
use Rattle.kernel_tree.specs.Plain.{Term, Literal, Variable, Element, Unary, Operation, Shift, Conversion, Choice, Comparison, Both, Either, Not, Action, Define, Put, Update, Choose, Leave, Block, Done, Then, Otherwise, Nothing, Else, PlainLoop, Program}
use Rattle.kernel_tree.specs.Items.{stream_offset, term_size, action_size, block_size, loop_start, loop_end}
use Rattle.kernel_meaning.specs.Reaches.{at_item, reaches}
use Rattle.predicate_plan.specs.declared.part.MaskPart.{MaskPart}

abbrev pub part : ℕ → Bool → MaskPart
part item holds = record { item = item; holds = holds }

-- ---- what a mask says

-- a truth value is the one wanted
abbrev pub agrees : Bool → Bool → Bool
agrees true b = b
agrees false b = not b

-- all parts are met, where each item has a truth value
abbrev pub meets : (ℕ → Bool) → List MaskPart → Bool
meets truth [] = true
meets truth (p ∷ parts) = agrees p.holds (truth p.item) && meets truth parts

-- the mask of an item, and none for an item past the last one
abbrev pub mask_at : List (List MaskPart) → ℕ → List MaskPart
mask_at masks item = slice_index_or masks item []

-- for each item of the loop: an iteration comes to it exactly where all parts of its mask are met
abbrev pub MeetsMasks : Program → List (List MaskPart) → Type 0
MeetsMasks k masks = (truths : List Bool) (item : ℕ) → loop_start k ≤ item → item < loop_end k → reaches k truths item ≡ meets (at_item truths) (mask_at masks item)

-- ---- the masks of a kernel, in the order of the listing

-- a mask with one more condition
abbrev pub and_part : List MaskPart → ℕ → Bool → List MaskPart
and_part mask item holds = mask ++ part item holds ∷ []

-- a stream index has no items
abbrev pub inner_masks : Option ℤ → List (List MaskPart) → List (List MaskPart)
inner_masks (Some c) masks = []
inner_masks None masks = masks

-- the items of an expression that begin at a number, under a mask
abbrev pub term_masks : Option (List ℕ) → ℕ → List MaskPart → Term → List (List MaskPart)
term_masks index from mask (Literal n) = mask ∷ []
term_masks index from mask (Variable x) = mask ∷ []
term_masks index from mask (Element a i) = inner_masks (stream_offset index i) (term_masks index from mask i) ++ mask ∷ []
term_masks index from mask (Unary op e) = term_masks index from mask e ++ mask ∷ []
term_masks index from mask (Operation op a b) = term_masks index from mask a ++ (term_masks index (from + term_size index a) mask b ++ mask ∷ [])
term_masks index from mask (Shift left e n) = term_masks index from mask e ++ mask ∷ []
term_masks index from mask (Conversion e t) = term_masks index from mask e ++ mask ∷ []
term_masks index from mask (Choice c a b) =
    let next = from + term_size index a in
    term_masks index from mask a ++ (term_masks index next mask b ++ (term_masks index (next + term_size index b) mask c ++ mask ∷ []))
term_masks index from mask (Comparison op a b) = term_masks index from mask a ++ (term_masks index (from + term_size index a) mask b ++ mask ∷ [])
-- the second side is evaluated where the first one is true, or for `||` where it is false
term_masks index from mask (Both a b) =
    let next = from + term_size index a in
    term_masks index from mask a ++ (term_masks index next (and_part mask (next - 1) true) b ++ mask ∷ [])
term_masks index from mask (Either a b) =
    let mark = from + term_size index a in
    term_masks index from mask a ++ (mask ∷ (term_masks index (mark + 1) (and_part mask (mark - 1) false) b ++ mask ∷ []))
term_masks index from mask (Not e) = term_masks index from mask e ++ mask ∷ []

-- a block of an `if` is evaluated where its condition is true, the second one where it is false
abbrev mutual
  pub action_masks : Option (List ℕ) → ℕ → List MaskPart → Action → List (List MaskPart)
  action_masks index from mask (Define x t e) = term_masks index from mask e ++ mask ∷ []
  action_masks index from mask (Put a i e) = term_masks index from mask e ++ mask ∷ []
  action_masks index from mask (Update x op e) = term_masks index from mask e ++ mask ∷ []
  action_masks index from mask (Choose c b d) =
      let first = from + term_size index c in
      term_masks index from mask c
      ++ (mask ∷ (block_masks index (first + 1) (and_part mask (first - 1) true) b ++ (otherwise_masks index (first + 1 + block_size index b) mask (and_part mask (first - 1) false) d ++ mask ∷ [])))
  action_masks index from mask (Leave c) = term_masks index from mask c ++ mask ∷ []

  pub block_masks : Option (List ℕ) → ℕ → List MaskPart → Block → List (List MaskPart)
  block_masks index from mask Done = []
  block_masks index from mask (Then s b) = action_masks index from mask s ++ block_masks index (from + action_size index s) mask b

  -- `else` has the mask of the `if`, and the block after it the inner one
  pub otherwise_masks : Option (List ℕ) → ℕ → (mask inner : List MaskPart) → Otherwise → List (List MaskPart)
  otherwise_masks index from mask inner Nothing = []
  otherwise_masks index from mask inner (Else b) = mask ∷ block_masks index (from + 1) inner b

-- `for` and the body
abbrev pub for_loop_masks : ℕ → PlainLoop → List (List MaskPart)
for_loop_masks from l = [] ∷ block_masks (Some l.index) (from + 1) [] l.body

-- of all items up to the last one of the loop; those before the loop have none
abbrev pub loop_masks : ℕ → Option PlainLoop → List (List MaskPart)
loop_masks from None = []
loop_masks from (Some l) = replicate from [] ++ for_loop_masks from l

abbrev pub masks_of : Program → List (List MaskPart)
masks_of k = loop_masks (loop_start k) k.for_loop

-- The masks of a kernel are met exactly where the walk of an iteration comes to their items.
use Rattle.std.proofs.Common.{◌≡◌, ℕ, zero, suc, ◌+◌, ◌-◌, ◌<◌, ◌≤◌, ℤ, List, [], ◌∷◌, ◌++◌, length, replicate, map, Option, Some, None, Bool, true, false, not, ◌&&◌, refl, sym, ap, ap₂, ◌∙◌, arith, length-append, get_or}
use Rattle.std.proofs.lemmas.List.{get_or-append_right, get_or_append_left, get_or-map, length-map, length-replicate}
use Rattle.std.proofs.Math.Bool.{and_assoc}
use mathlib.Core.Bool.{and-true}
use Rattle.kernel_tree.specs.Plain.{Term, Literal, Variable, Element, Unary, Operation, Shift, Conversion, Choice, Comparison, Both, Either, Not, Action, Define, Put, Update, Choose, Leave, Block, Done, Then, Otherwise, Nothing, Else, PlainLoop, Program}
use Rattle.kernel_tree.specs.Items.{stream_offset, term_size, action_size, block_size, otherwise_size, for_loop_size, index_size, answer_size, loop_index, loop_start}
use Rattle.kernel_meaning.specs.Reaches.{at_item, inner_reached, term_reached, action_reached, block_reached, otherwise_reached, for_loop_reached}
use Rattle.predicate_plan.specs.declared.part.MaskPart.{MaskPart}
use Rattle.predicate_plan.specs.Masks.{agrees, meets, mask_at, MeetsMasks, and_part, inner_masks, term_masks, action_masks, block_masks, otherwise_masks, for_loop_masks, loop_masks, masks_of}

-- one more part
pub meets-more : (truth : ℕ → Bool) (mask : List MaskPart) (item : ℕ) (holds : Bool) → meets truth (and_part mask item holds) ≡ (meets truth mask && agrees holds (truth item))
meets-more truth [] item holds = and-true (agrees holds (truth item))
meets-more truth (p ∷ mask) item holds =
    ap (λ b. agrees p.holds (truth p.item) && b) (meets-more truth mask item holds) ∙ sym (and_assoc (agrees p.holds (truth p.item)) (meets truth mask) (agrees holds (truth item)))

map-append : (truth : ℕ → Bool) (xs ys : List (List MaskPart)) → map (meets truth) (xs ++ ys) ≡ map (meets truth) xs ++ map (meets truth) ys
map-append truth [] ys = refl
map-append truth (x ∷ xs) ys = ap (λ l. meets truth x ∷ l) (map-append truth xs ys)

module _ (index : Option (List ℕ)) (truths : List Bool) where
  abbrev truth : ℕ → Bool
  truth = at_item truths

  -- two lists, each the other's masks met
  meets_append : {bs cs : List Bool} (ms ns : List (List MaskPart)) → bs ≡ map (meets truth) ms → cs ≡ map (meets truth) ns → bs ++ cs ≡ map (meets truth) (ms ++ ns)
  meets_append ms ns e f = ap₂ ◌++◌ e f ∙ sym (map-append truth ms ns)

  meets_one : {on : Bool} (mask : List MaskPart) → on ≡ meets truth mask → on ∷ [] ≡ map (meets truth) (mask ∷ [])
  meets_one mask h = ap (λ b. b ∷ []) h

  meets_inner : (o : Option ℤ) {bs : List Bool} (ms : List (List MaskPart)) → bs ≡ map (meets truth) ms → inner_reached o bs ≡ map (meets truth) (inner_masks o ms)
  meets_inner (Some c) ms h = refl
  meets_inner None ms h = h

  side : (on : Bool) (mask : List MaskPart) (item : ℕ) (holds : Bool) → on ≡ meets truth mask → (on && agrees holds (truth item)) ≡ meets truth (and_part mask item holds)
  side on mask item holds h = ap (λ b. b && agrees holds (truth item)) h ∙ sym (meets-more truth mask item holds)

  term_met : (t : Term) (from : ℕ) (on : Bool) (mask : List MaskPart) → on ≡ meets truth mask → term_reached index truths from on t ≡ map (meets truth) (term_masks index from mask t)
  term_met (Literal n) from on mask h = meets_one mask h
  term_met (Variable x) from on mask h = meets_one mask h
  term_met (Element a i) from on mask h = meets_append _ _ (meets_inner (stream_offset index i) _ (term_met i from on mask h)) (meets_one mask h)
  term_met (Unary op e) from on mask h = meets_append _ _ (term_met e from on mask h) (meets_one mask h)
  term_met (Operation op a b) from on mask h = meets_append _ _ (term_met a from on mask h) (meets_append _ _ (term_met b (from + term_size index a) on mask h) (meets_one mask h))
  term_met (Shift left e n) from on mask h = meets_append _ _ (term_met e from on mask h) (meets_one mask h)
  term_met (Conversion e t) from on mask h = meets_append _ _ (term_met e from on mask h) (meets_one mask h)
  term_met (Choice c a b) from on mask h =
      let next = from + term_size index a in
      meets_append _ _ (term_met a from on mask h) (meets_append _ _ (term_met b next on mask h) (meets_append _ _ (term_met c (next + term_size index b) on mask h) (meets_one mask h)))
  term_met (Comparison op a b) from on mask h = meets_append _ _ (term_met a from on mask h) (meets_append _ _ (term_met b (from + term_size index a) on mask h) (meets_one mask h))
  term_met (Both a b) from on mask h =
      let next = from + term_size index a in
      meets_append _ _ (term_met a from on mask h) (meets_append _ _ (term_met b next (on && truth (next - 1)) (and_part mask (next - 1) true) (side on mask (next - 1) true h)) (meets_one mask h))
  term_met (Either a b) from on mask h =
      let mark = from + term_size index a in
      meets_append _ _ (term_met a from on mask h) (meets_append (mask ∷ []) _ (meets_one mask h) (meets_append _ _ (term_met b (mark + 1) (on && not (truth (mark - 1))) (and_part mask (mark - 1) false) (side on mask (mark - 1) false h)) (meets_one mask h)))
  term_met (Not e) from on mask h = meets_append _ _ (term_met e from on mask h) (meets_one mask h)

  mutual
    action_met : (s : Action) (from : ℕ) (on : Bool) (mask : List MaskPart) → on ≡ meets truth mask → action_reached index truths from on s ≡ map (meets truth) (action_masks index from mask s)
    action_met (Define x t e) from on mask h = meets_append _ _ (term_met e from on mask h) (meets_one mask h)
    action_met (Put a i e) from on mask h = meets_append _ _ (term_met e from on mask h) (meets_one mask h)
    action_met (Update x op e) from on mask h = meets_append _ _ (term_met e from on mask h) (meets_one mask h)
    action_met (Choose c b d) from on mask h =
        let first = from + term_size index c in
        meets_append _ _ (term_met c from on mask h)
        (meets_append (mask ∷ []) _ (meets_one mask h)
        (meets_append _ _ (block_met b (first + 1) (on && truth (first - 1)) (and_part mask (first - 1) true) (side on mask (first - 1) true h))
        (meets_append _ _ (otherwise_met d (first + 1 + block_size index b) on (on && not (truth (first - 1))) mask (and_part mask (first - 1) false) h (side on mask (first - 1) false h)) (meets_one mask h))))
    action_met (Leave c) from on mask h = meets_append _ _ (term_met c from on mask h) (meets_one mask h)

    block_met : (b : Block) (from : ℕ) (on : Bool) (mask : List MaskPart) → on ≡ meets truth mask → block_reached index truths from on b ≡ map (meets truth) (block_masks index from mask b)
    block_met Done from on mask h = refl
    block_met (Then s b) from on mask h = meets_append _ _ (action_met s from on mask h) (block_met b (from + action_size index s) on mask h)

    otherwise_met : (d : Otherwise) (from : ℕ) (on in_on : Bool) (mask in_mask : List MaskPart) → on ≡ meets truth mask → in_on ≡ meets truth in_mask → otherwise_reached index truths from on in_on d ≡ map (meets truth) (otherwise_masks index from mask in_mask d)
    otherwise_met Nothing from on in_on mask in_mask h i = refl
    otherwise_met (Else b) from on in_on mask in_mask h i = meets_append (mask ∷ []) _ (meets_one mask h) (block_met b (from + 1) in_on in_mask i)

pub for_loop_met : (l : PlainLoop) (truths : List Bool) (from : ℕ) → for_loop_reached truths from (Some l) ≡ map (meets (at_item truths)) (for_loop_masks from l)
for_loop_met l truths from = ap (λ bs. true ∷ bs) (block_met (Some l.index) truths l.body (from + 1) true [] refl)

-- ---- how many masks there are

module _ (index : Option (List ℕ)) where
  length_append_is : (xs ys : List (List MaskPart)) (m n : ℕ) → length xs ≡ m → length ys ≡ n → length (xs ++ ys) ≡ m + n
  length_append_is xs ys m n e f = length-append xs ys ∙ ap₂ ◌+◌ e f

  inner_count : (o : Option ℤ) (ms : List (List MaskPart)) (n : ℕ) → length ms ≡ n → length (inner_masks o ms) ≡ index_size o n
  inner_count (Some c) ms n e = refl
  inner_count None ms n e = e

  pub term_count : (t : Term) (from : ℕ) (mask : List MaskPart) → length (term_masks index from mask t) ≡ term_size index t
  term_count (Literal n) from mask = refl
  term_count (Variable x) from mask = refl
  term_count (Element a i) from mask = length_append_is _ _ _ 1 (inner_count (stream_offset index i) (term_masks index from mask i) (term_size index i) (term_count i from mask)) refl
  term_count (Unary op e) from mask = length_append_is _ _ _ 1 (term_count e from mask) refl
  term_count (Operation op a b) from mask = length_append_is _ _ _ _ (term_count a from mask) (length_append_is _ _ _ 1 (term_count b (from + term_size index a) mask) refl) ∙ omega arith
  term_count (Shift left e n) from mask = length_append_is _ _ _ 1 (term_count e from mask) refl
  term_count (Conversion e t) from mask = length_append_is _ _ _ 1 (term_count e from mask) refl
  term_count (Choice c a b) from mask =
      let next = from + term_size index a in
      length_append_is _ _ _ _ (term_count a from mask) (length_append_is _ _ _ _ (term_count b next mask) (length_append_is _ _ _ 1 (term_count c (next + term_size index b) mask) refl)) ∙ omega arith
  term_count (Comparison op a b) from mask = length_append_is _ _ _ _ (term_count a from mask) (length_append_is _ _ _ 1 (term_count b (from + term_size index a) mask) refl) ∙ omega arith
  term_count (Both a b) from mask = let next = from + term_size index a in length_append_is _ _ _ _ (term_count a from mask) (length_append_is _ _ _ 1 (term_count b next (and_part mask (next - 1) true)) refl) ∙ omega arith
  term_count (Either a b) from mask =
      let mark = from + term_size index a in
      length_append_is _ _ _ _ (term_count a from mask) (length_append_is (mask ∷ []) _ 1 _ refl (length_append_is _ _ _ 1 (term_count b (mark + 1) (and_part mask (mark - 1) false)) refl)) ∙ omega arith
  term_count (Not e) from mask = length_append_is _ _ _ 1 (term_count e from mask) refl

  mutual
    pub action_count : (s : Action) (from : ℕ) (mask : List MaskPart) → length (action_masks index from mask s) ≡ action_size index s
    action_count (Define x t e) from mask = length_append_is _ _ _ 1 (term_count e from mask) refl
    action_count (Put a i e) from mask = length_append_is _ _ _ 1 (term_count e from mask) refl
    action_count (Update x op e) from mask = length_append_is _ _ _ 1 (term_count e from mask) refl
    action_count (Choose c b d) from mask =
        let first = from + term_size index c in
        length_append_is _ _ _ _ (term_count c from mask)
        (length_append_is (mask ∷ []) _ 1 _ refl
        (length_append_is _ _ _ _ (block_count b (first + 1) (and_part mask (first - 1) true)) (length_append_is _ _ _ 1 (otherwise_count d (first + 1 + block_size index b) mask (and_part mask (first - 1) false)) refl)))
        ∙ omega arith
    action_count (Leave c) from mask = length_append_is _ _ _ 1 (term_count c from mask) refl

    pub block_count : (b : Block) (from : ℕ) (mask : List MaskPart) → length (block_masks index from mask b) ≡ block_size index b
    block_count Done from mask = refl
    block_count (Then s b) from mask = length_append_is _ _ _ _ (action_count s from mask) (block_count b (from + action_size index s) mask)

    pub otherwise_count : (d : Otherwise) (from : ℕ) (mask in_mask : List MaskPart) → length (otherwise_masks index from mask in_mask d) ≡ otherwise_size index d
    otherwise_count Nothing from mask in_mask = refl
    otherwise_count (Else b) from mask in_mask = length_append_is (mask ∷ []) _ 1 _ refl (block_count b (from + 1) in_mask)

for_loop_count : (l : PlainLoop) (from : ℕ) → length (for_loop_masks from l) ≡ for_loop_size (Some l)
for_loop_count l from = length_append_is (Some l.index) ([] ∷ []) _ 1 _ refl (block_count (Some l.index) l.body (from + 1) [])

-- ---- the masks of the loop

at_item-is : (bs : List Bool) (i : ℕ) → at_item bs i ≡ get_or bs i false
at_item-is [] i = refl
at_item-is (b ∷ bs) zero = refl
at_item-is (b ∷ bs) (suc i) = at_item-is bs i

-- the items of a loop stand after some items and before others
in_loop : (o : Option PlainLoop) (truths : List Bool) (from after item : ℕ) → from ≤ item → item < from + for_loop_size o → at_item (replicate from false ++ (for_loop_reached truths from o ++ replicate after false)) item ≡ meets (at_item truths) (mask_at (loop_masks from o) item)
in_loop None truths from after item le lt = absurd (omega (arith, le, lt))
in_loop (Some l) truths from after item le lt =
    let i = item - from in
    let ms = for_loop_masks from l in
    let count : length ms ≡ for_loop_size (Some l) = for_loop_count l from in
    let inside : i < length ms = omega (arith, count, le, lt) in
    let met = for_loop_met l truths from in
    let reach = for_loop_reached truths from (Some l) in
    let rest = replicate after false in
    let same_length : length reach ≡ length ms = ap (λ (bs : List Bool). length bs) met ∙ length-map ms (meets (at_item truths)) in
    at_item-is (replicate from false ++ (reach ++ rest)) item
    ∙ get_or-append_right (replicate from false) (reach ++ rest) from item false (length-replicate from false) le
    ∙ get_or_append_left reach rest false i (omega (arith, same_length, inside))
    ∙ ap (λ bs. get_or bs i false) met
    ∙ get_or-map (meets (at_item truths)) ms i [] false inside
    ∙ ap (meets (at_item truths)) (sym (get_or-append_right (replicate from []) ms from item [] (length-replicate from []) le))

pub masks_met : (k : Program) → MeetsMasks k (masks_of k)
masks_met k truths item le lt = in_loop k.for_loop truths (loop_start k) (answer_size (loop_index k) k.answer) item le lt

-- What fits a loop fits its break region and the rest of its items.
use Rattle.std.proofs.Common.{◌≡◌, ℕ, ◌+◌, ◌≤◌, Bool, true, false, List, [], ◌∷◌, ◌++◌, Option, refl, sym, ap, ◌∙◌, subst, arith}
use Rattle.std.specs.Prelude.{is_some, ◌||◌, ◌&&◌, if◌then◌else◌}
use Rattle.std.specs.List.{list_any}
use Rattle.std.proofs.lemmas.Bool.{or_parts}
use Rattle.loop_form.specs.LoopItems.{Op, Item}
use Rattle.loop_form.specs.LoopItems as ops
use Rattle.chunk_emit.specs.Registers.{Layout}
use Rattle.chunk_emit.specs.Chunk.{Setting}
use Rattle.chunk_emit.specs.Fits.{MakesNothing, FitsItems, following_items}
use Rattle.chunk_emit.specs.LoopFits as whole
use Rattle.chunk_emit.specs.LoopFits.{FitsSteps, IsNoBreak, AreNoBreaks}
use Rattle.chunk_emit.proofs.FitsParts.{first_part, second_part, items_fit}
use Rattle.first_fault.specs.Fits.{FitsStep, FitsRegion}
use Rattle.first_fault.specs.BreakRegion.{breaks_loop, is_loop_break, writes, is_write, region_of, rest_of}
use Rattle.first_fault.specs.KernelFits.{is_inner_break}
use Rattle.first_fault.proofs.EarlyReads.{is_none}

none_in_front_of_append : {A : Type 0} (p : A → Bool) (xs ys : List A) → list_any p (xs ++ ys) ≡ false → list_any p xs ≡ false
none_in_front_of_append p [] ys e = refl
none_in_front_of_append p (x ∷ xs) ys e = let h = or_parts (p x) (list_any p (xs ++ ys)) e in both (p x) (list_any p xs) h.0 (none_in_front_of_append p xs ys h.1)
  where
    both : (a b : Bool) → a ≡ false → b ≡ false → a || b ≡ false
    both true b e f = e
    both false b e f = f

-- ---- the region

region_step : (l : Layout) (f : Setting) (p : ℕ) (mask : Option ℕ) (op : Op) → writes op ≡ false → breaks_loop op && is_some mask ≡ false → whole.FitsStep l f p op → FitsStep l f p mask op
region_step l f p mask (ops.Break c) w e h = (is_none mask e, h.0, h.1)
region_step l f p mask (ops.Load a base t c) w e h = h
region_step l f p mask (ops.Gather a base t r u x) w e h = absurd cc
region_step l f p mask (ops.Unary op t x) w e h = h
region_step l f p mask (ops.Binary op t x y) w e h = h
region_step l f p mask (ops.Shift left k t x) w e h = h
region_step l f p mask (ops.Cast s t x) w e h = h
region_step l f p mask (ops.Let t x) w e h = h
region_step l f p mask (ops.Select t c x y) w e h = h
region_step l f p mask (ops.Store a base t c v) w e h = absurd cc
region_step l f p mask (ops.Update x op t v) w e h = absurd cc
region_step l f p mask other w e h = h

region_fits : (l : Layout) (f : Setting) (p : ℕ) (items : List Item) → list_any is_write items ≡ false → list_any is_inner_break items ≡ false → FitsSteps l f p items → FitsRegion l f p items
region_fits l f p [] w e h = tt
region_fits l f p (it ∷ items) w e h =
    let ws = or_parts (is_write it) (list_any is_write items) w in
    let es = or_parts (is_inner_break it) (list_any is_inner_break items) e in
    (h.0, h.1, h.2, region_step l f it.item it.mask it.op ws.0 es.0 h.3, region_fits l f (it.item + 1) items ws.1 es.1 h.5)

-- ---- the rest

no_break : (op : Op) → breaks_loop op ≡ false → IsNoBreak op
no_break (ops.Break c) e = absurd cc
no_break other e = tt

no_breaks : (items : List Item) → list_any is_loop_break items ≡ false → AreNoBreaks items
no_breaks [] e = tt
no_breaks (it ∷ items) e = let h = or_parts (is_loop_break it) (list_any is_loop_break items) e in (no_break it.op h.0, no_breaks items h.1)

-- ---- both

-- of items that are split
pub record BothFit (l : Layout) (f : Setting) (p : ℕ) (items : List Item) : Type 0 where
  pub region : FitsRegion l f p (region_of items)
  pub rest : FitsItems l f (following_items p (region_of items)) (rest_of items)

pub both_fit : (l : Layout) (f : Setting) (p : ℕ) (items : List Item) → region_of items ++ rest_of items ≡ items → list_any is_write (region_of items) ≡ false → list_any is_loop_break (rest_of items) ≡ false → list_any is_inner_break items ≡ false → FitsSteps l f p items → BothFit l f p items
both_fit l f p items split unwritten unbroken outer h =
    let parts : FitsSteps l f p (region_of items ++ rest_of items) = subst (FitsSteps l f p) (sym split) h in
    let outer2 = none_in_front_of_append is_inner_break (region_of items) (rest_of items) (ap (list_any is_inner_break) split ∙ outer) in
    record {
      region = region_fits l f p (region_of items) unwritten outer2 (first_part l f p (region_of items) (rest_of items) parts);
      rest = items_fit l f (following_items p (region_of items)) (rest_of items) (no_breaks (rest_of items) unbroken) (second_part l f p (region_of items) (rest_of items) parts);
    }

-- ---- the item before the rest

break_nothing : (l : Layout) (f : Setting) (q : ℕ) (mask : Option ℕ) (op : Op) → breaks_loop op ≡ true → FitsStep l f q mask op → MakesNothing l q
break_nothing l f q mask (ops.Break c) e h = h.2
break_nothing l f q mask op e h = absurd cc

only_first : (a b : Bool) → a || b ≡ true → b ≡ false → a ≡ true
only_first true b e f = refl
only_first false b e f = absurd cc

-- it is a break, which makes no condition
pub last_nothing : (l : Layout) (f : Setting) (p : ℕ) (items : List Item) → FitsRegion l f p (region_of items) → (list_any is_loop_break items ≡ false → (r : ℕ) → r + 1 ≡ p → l.p_last_use r ≤ r) → (r : ℕ) → r + 1 ≡ following_items p (region_of items) → l.p_last_use r ≤ r
last_nothing l f p [] h start r e = start refl r e
last_nothing l f p (it ∷ items) h start r e = by (list_any is_loop_break (it ∷ items)) refl h e (λ g here same. last_nothing l f (it.item + 1) items g here r same)
  where
    by : (b : Bool) → list_any is_loop_break (it ∷ items) ≡ b → FitsRegion l f p (if b then it ∷ region_of items else []) → r + 1 ≡ following_items p (if b then it ∷ region_of items else [])
        → (FitsRegion l f (it.item + 1) (region_of items) → (list_any is_loop_break items ≡ false → (r : ℕ) → r + 1 ≡ it.item + 1 → l.p_last_use r ≤ r) → r + 1 ≡ following_items (it.item + 1) (region_of items) → l.p_last_use r ≤ r) → l.p_last_use r ≤ r
    by false any h e more = start any r e
    by true any h e more =
        more h.4
        (λ none r same.
        let number : it.item ≡ r = omega (arith, same) in
        subst (λ n. l.p_last_use n ≤ n) number (break_nothing l f it.item it.mask it.op (only_first (breaks_loop it.op) (list_any is_loop_break items) any none) h.3).1) e

-- The size of the break region.
use Rattle.std.proofs.Common.{◌≡◌, ℕ, zero, suc, ◌+◌, ◌≤◌, Bool, true, false, cond, List, [], ◌∷◌, length, take, drop, refl, ap, ◌∙◌, arith}
use Rattle.std.specs.Prelude.{if◌then◌else◌}
use Rattle.std.specs.List.{list_any}
use Rattle.std.proofs.lemmas.List.{length-map}
use Rattle.loop_form.specs.declared.loop_item.LoopItem.{LoopItem}
use Rattle.loop_form.specs.LoopView.{view_of, view}
use Rattle.loop_form.specs.LoopItems.{Item}
use Rattle.first_fault.specs.BreakRegion.{is_loop_break, region_of, rest_of}
use Rattle.first_fault.specs.View.{region_size, size_from}

no_region : (items : List Item) → list_any is_loop_break items ≡ false → region_size items ≡ 0
no_region [] e = refl
no_region (it ∷ items) e = rw e refl

-- a break
at_loop_break : (size place : ℕ) (it : Item) (items : List Item) → is_loop_break it ≡ true → size_from (place + 1) (place + 1) items ≡ size_from size place (it ∷ items)
at_loop_break size place it items e = by (list_any is_loop_break items) refl
  where
    by : (b : Bool) → list_any is_loop_break items ≡ b → size_from (place + 1) (place + 1) items ≡ size_from size place (it ∷ items)
    by true f = rw (e, f) (let h : place + 1 + region_size items ≡ place + suc (region_size items) = omega arith in h)
    by false f = let none = no_region items f in rw (e, f) (let h : place + 1 ≡ place + suc (region_size items) = omega (arith, none) in h)

-- another item
at_other : (size place : ℕ) (it : Item) (items : List Item) → is_loop_break it ≡ false → size_from size (place + 1) items ≡ size_from size place (it ∷ items)
at_other size place it items e = by (list_any is_loop_break items) refl
  where
    by : (b : Bool) → list_any is_loop_break items ≡ b → size_from size (place + 1) items ≡ size_from size place (it ∷ items)
    by true f = rw (e, f) (let h : place + 1 + region_size items ≡ place + suc (region_size items) = omega arith in h)
    by false f = rw (e, f) refl

-- either of them
pub at_item : (size place : ℕ) (it : Item) (items : List Item) → size_from (if is_loop_break it then place + 1 else size) (place + 1) items ≡ size_from size place (it ∷ items)
at_item size place it items = by (is_loop_break it) refl
  where
    by : (b : Bool) → is_loop_break it ≡ b → size_from (if b then place + 1 else size) (place + 1) items ≡ size_from size place (it ∷ items)
    by true e = at_loop_break size place it items e
    by false e = at_other size place it items e

pub none_before : (items : List Item) → size_from 0 0 items ≡ region_size items
none_before [] = refl
none_before (it ∷ items) = by (list_any is_loop_break (it ∷ items)) refl
  where
    by : (b : Bool) → list_any is_loop_break (it ∷ items) ≡ b → size_from 0 0 (it ∷ items) ≡ region_size (it ∷ items)
    by true f = rw f (let h : 0 + suc (region_size items) ≡ suc (region_size items) = omega arith in h)
    by false f = rw f refl

-- the region and the rest by their size
region_taken : (items : List Item) → take (region_size items) items ≡ region_of items
region_taken [] = refl
region_taken (it ∷ items) = by (list_any is_loop_break (it ∷ items)) (region_taken items)
  where
    by : (b : Bool) → take (region_size items) items ≡ region_of items → take (cond b (suc (region_size items)) 0) (it ∷ items) ≡ cond b (it ∷ region_of items) []
    by true h = ap (λ its. it ∷ its) h
    by false h = refl

rest_dropped : (items : List Item) → drop (region_size items) items ≡ rest_of items
rest_dropped [] = refl
rest_dropped (it ∷ items) = by (list_any is_loop_break (it ∷ items)) (rest_dropped items)
  where
    by : (b : Bool) → drop (region_size items) items ≡ rest_of items → drop (cond b (suc (region_size items)) 0) (it ∷ items) ≡ cond b (rest_of items) (it ∷ items)
    by true h = h
    by false h = refl

region_small : (items : List Item) → region_size items ≤ length items
region_small [] = omega arith
region_small (it ∷ items) = by (list_any is_loop_break (it ∷ items)) (region_small items)
  where
    by : (b : Bool) → region_size items ≤ length items → cond b (suc (region_size items)) 0 ≤ length (it ∷ items)
    by true h = omega (arith, h)
    by false h = omega arith

-- ---- as the code has them

take_view : (n : ℕ) (items : List LoopItem) → view (take n items) ≡ take n (view items)
take_view zero items = refl
take_view (suc n) [] = refl
take_view (suc n) (x ∷ xs) = ap (λ its. view_of x ∷ its) (take_view n xs)

drop_view : (n : ℕ) (items : List LoopItem) → view (drop n items) ≡ drop n (view items)
drop_view zero items = refl
drop_view (suc n) [] = refl
drop_view (suc n) (x ∷ xs) = drop_view n xs

pub region_view : (items : List LoopItem) → view (take (region_size (view items)) items) ≡ region_of (view items)
region_view items = take_view (region_size (view items)) items ∙ region_taken (view items)

pub rest_view : (items : List LoopItem) → view (drop (region_size (view items)) items) ≡ rest_of (view items)
rest_view items = drop_view (region_size (view items)) items ∙ rest_dropped (view items)

pub region_within : (items : List LoopItem) → region_size (view items) ≤ length items
region_within items = let small = region_small (view items) in let same = length-map items view_of in omega (arith, small, same)

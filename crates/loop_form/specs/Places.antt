-- Which interval of a class an item has.
use Rattle.std.specs.Prelude.{◌≡◌, ℕ, ◌+◌, List, [], ◌∷◌, length, slice_get, Option, Some, None}
use Rattle.kernel_tree.specs.Plain.{Program}
use Rattle.kernel_tree.specs.Items.{loop_start}
use Rattle.reg_assign.specs.declared.interval.RegClass.{RegClass}
use Rattle.reg_assign.specs.declared.interval.RegClass.TheVariants.{Z, P, X}
use Rattle.loop_form.specs.Entries.{Entry, entries_of}
use Rattle.loop_form.specs.Listing.{last_use_in}
use Rattle.reg_assign.specs.declared.interval.Interval.{Interval}
use Rattle.loop_form.specs.Needs.{throughout, counted, intervals}

-- the place of an item's interval, where it has one and the next one has place j, and those of the items after it
abbrev pub place_of : ℕ → Option ℕ → (ℕ → List (Option ℕ)) → List (Option ℕ)
place_of j None rest = None ∷ rest j
place_of j (Some last_use) rest = Some j ∷ rest (j + 1)

-- of items, where the first interval has place j
abbrev pub places_from : RegClass → List Entry → ℕ → List Entry → List (Option ℕ)
places_from class all j [] = []
places_from class all j (e ∷ es) = place_of j (last_use_in class all e) (λ i. places_from class all i es)

-- The place of the interval of each item among the intervals of a class, after those that are held throughout: for X of
-- all items of a kernel, for Z and P of the items of its loop, from `for` on.
abbrev pub value_places : Program → RegClass → List (Option ℕ)
value_places k class = places_from class (entries_of k) (length (throughout k class)) (counted k class)

-- the number of the first item that is counted for a class
abbrev pub first_counted : Program → RegClass → ℕ
first_counted k X = 0
first_counted k Z = loop_start k
first_counted k P = loop_start k

-- it is the interval of this item's value
abbrev pub IsValueOf : ℕ → Option Interval → Type 0
IsValueOf q o = (last_use : ℕ) × (o ≡ Some (record { from = q; last_use = last_use }))

-- each place of a value is that of an interval that begins at its item
abbrev pub ArePlaced : Program → RegClass → Type 0
ArePlaced k class = (n m : ℕ) → slice_get (value_places k class) n ≡ Some (Some m) → IsValueOf (first_counted k class + n) (slice_get (intervals k class) m)

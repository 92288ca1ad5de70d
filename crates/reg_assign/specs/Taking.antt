-- One step of the assignment: a register for the next interval.
use Rattle.std.specs.Prelude.{◌≡◌, ℕ, ◌<◌, ◌≤◌, List, [], ◌∷◌, ◌++◌, length, Bool, Option, Some, None, nat_le, nat_lt, slice_index, slice_set}
use Rattle.std.specs.List.{count_by}
use Rattle.reg_assign.specs.declared.interval.Interval.{Interval}

-- an interval has ended by a point, or is needed past it
abbrev pub is_ended : ℕ → ℕ → Bool
is_ended p last_use = nat_le last_use p

abbrev pub is_needed : ℕ → ℕ → Bool
is_needed p last_use = nat_lt p last_use

-- The last uses of the intervals that have each register now, before a step and after it, and the register that an
-- interval gets: 0 where it is empty, one whose interval has ended, one that was never used, or none of n.
pub data Takes (n : ℕ) (i : Interval) (old new : List ℕ) : Option ℕ → Type 0 where
  Empty : i.last_use ≤ i.from → new ≡ old → Takes n i old new (Some 0)
  Ended : (r : ℕ) → i.from < i.last_use → r < length old → slice_index old r ≤ i.from → new ≡ slice_set old r i.last_use → Takes n i old new (Some r)
  Unused : (r : ℕ) → i.from < i.last_use → length old < n → r ≡ length old → new ≡ old ++ i.last_use ∷ [] → Takes n i old new (Some r)
  Full : i.from < i.last_use → n ≤ length old → count_by (is_needed i.from) old ≡ length old → Takes n i old new None

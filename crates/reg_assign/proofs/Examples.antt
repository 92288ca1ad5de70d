-- Overlaps and needs of worked intervals.
use Rattle.std.proofs.Common.{◌≡◌, List, [], ◌∷◌, refl}
use Rattle.reg_assign.specs.declared.interval.Interval.{Interval}
use Rattle.reg_assign.specs.Intervals.{overlap, need_of}

-- the second one ends where the third begins, the fourth is empty, and the last begins after all others ended
abbrev worked : List Interval
worked = record { from = 0; last_use = 4 } ∷ record { from = 1; last_use = 3 } ∷ record { from = 3; last_use = 6 } ∷ record { from = 3; last_use = 3 } ∷ record { from = 7; last_use = 9 } ∷ []

overlaps : (overlap worked 0 ≡ 1) × (overlap worked 2 ≡ 2) × (overlap worked 3 ≡ 2) × (overlap worked 6 ≡ 0) × (overlap worked 8 ≡ 1)
overlaps = (refl, refl, refl, refl, refl)

worked-need : need_of worked ≡ 2
worked-need = refl

-- three from one point on, of which two end at once
need-three : need_of (record { from = 5; last_use = 8 } ∷ record { from = 5; last_use = 6 } ∷ record { from = 5; last_use = 6 } ∷ record { from = 6; last_use = 9 } ∷ []) ≡ 3
need-three = refl

none-needed : need_of [] ≡ 0
none-needed = refl

-- Intervals in which values are needed, and how many of them are live at one point.
use Rattle.std.specs.Prelude.{ℕ, ◌≤◌, List, [], ◌∷◌, Bool, ◌&&◌, max, nat_le, nat_lt, fold}
use Rattle.std.specs.List.{count_by}
use Rattle.reg_assign.specs.declared.interval.Interval.{Interval}

-- an interval is live from its first point on, and before its last use
abbrev pub is_live : ℕ → Interval → Bool
is_live p i = nat_le i.from p && nat_lt p i.last_use

-- how many intervals are live at a point
abbrev pub overlap : List Interval → ℕ → ℕ
overlap intervals p = count_by (is_live p) intervals

-- the greater one of a number and the overlap where an interval begins
abbrev pub greater_overlap : List Interval → ℕ → Interval → ℕ
greater_overlap intervals most i = max most (overlap intervals i.from)

-- the greatest overlap where one of the intervals begins; no point has more
abbrev pub need_of : List Interval → ℕ
need_of intervals = fold (greater_overlap intervals) 0 intervals

-- the intervals begin at a point or after it, none of them before the one ahead of it
abbrev pub AscendFrom : ℕ → List Interval → Type 0
AscendFrom p [] = Unit {0}
AscendFrom p (i ∷ is) = (p ≤ i.from) × AscendFrom i.from is

-- the intervals stand in the order in which they begin
abbrev pub Ascend : List Interval → Type 0
Ascend intervals = AscendFrom 0 intervals

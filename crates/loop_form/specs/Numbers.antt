-- Items and intervals in their order.
use Rattle.std.specs.Prelude.{◌≡◌, ℕ, suc, ◌≤◌, List, [], ◌∷◌}
use Rattle.reg_assign.specs.declared.interval.Interval.{Interval}
use Rattle.loop_form.specs.Entries.{Entry}

-- the items are numbered from b on
abbrev pub Numbered : ℕ → List Entry → Type 0
Numbered b [] = Unit {0}
Numbered b (e ∷ es) = (e.item ≡ b) × Numbered (suc b) es

-- no interval ends before it begins
abbrev pub AreForward : List Interval → Type 0
AreForward [] = Unit {0}
AreForward (i ∷ is) = (i.from ≤ i.last_use) × AreForward is

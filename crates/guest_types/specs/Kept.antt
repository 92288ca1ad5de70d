-- What is kept of what something was.
use Rattle.std.specs.Prelude.{ℕ, ◌+◌, ◌-◌, List, [], ◌∷◌, ◌++◌, length, drop}

-- how many are kept at most
abbrev pub most_kept : ℕ
most_kept = 8

-- one more, of which the last eight stay
abbrev pub kept_more : {X : Type 0} → X → List X → List X
kept_more x xs = drop (length xs + 1 - most_kept) (xs ++ x ∷ [])

-- Distances of indexes from the loop variable.
use Rattle.std.specs.Prelude.{ℕ, ℤ, unsigned_abs, Option, option_map}

-- how far from the loop variable a stream index is
abbrev pub distance_of : Option ℤ → Option ℕ
distance_of c = option_map unsigned_abs c

-- An output and an input of the system, as far as the writer and the reader below them tell.
use Rattle.std.specs.Prelude.{ℕ, List, Option}

-- what the writer holds, where that is known, and the count of failures
pub record Output : Type 0 where
  pub contents : Option (List ℕ)
  pub faults : ℕ

-- what the reader has left, where that is known, and the count of failures
pub record Input : Type 0 where
  pub remaining : Option (List ℕ)
  pub faults : ℕ

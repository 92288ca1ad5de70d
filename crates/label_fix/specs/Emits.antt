-- What a call appends to a draft.
use Rattle.std.specs.Prelude.{◌≡◌, ℕ, ◌+◌, ◌≤◌, List, [], ◌∷◌, ◌++◌}
use Rattle.machine_model.specs.InstructionTable.{Listed}
use Rattle.label_fix.specs.Draft.{Drafted}
use Rattle.label_fix.specs.DraftRun.{DraftEntry, Put}
use Rattle.label_fix.specs.Finished.{size}

-- so many labels are then given, and this code stands before the entries that follow
pub record Emits (old new : Drafted) (given : ℕ) (appended : List DraftEntry → List DraftEntry) : Type 0 where
  pub labels : new.labels ≡ given
  pub code : (rest : List DraftEntry) → new.entries ++ rest ≡ old.entries ++ appended rest

-- instructions, and the entries after them
abbrev pub puts : List Listed → List DraftEntry → List DraftEntry
puts [] rest = rest
puts (i ∷ is) rest = Put i ∷ puts is rest

-- the same of instructions that are given with those after them
pub record EmitsBefore (old new : Drafted) (given : ℕ) (before : List Listed → List Listed) : Type 0 where
  pub labels : new.labels ≡ given
  pub code : (words : List Listed) (rest : List DraftEntry) → new.entries ++ puts words rest ≡ old.entries ++ puts (before words) rest

-- at most so many words
abbrev pub AppendsWords : Drafted → Drafted → ℕ → Type 0
AppendsWords old new most = size new.entries ≤ size old.entries + most

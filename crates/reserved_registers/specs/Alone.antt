-- Entries of a draft that leave X18, X29, X30 and SP alone, with so many exit calls among them.
use Rattle.std.specs.Prelude.{◌≡◌, ℕ, zero, suc, Bool, true, false, List, [], ◌∷◌}
use Rattle.label_fix.specs.DraftRun.{DraftEntry, Put, Branch, Place}
use Rattle.machine_model.specs.InstructionTable.{Listed}
use Rattle.promises.specs.OneExit.{exit_call, calls_system}
use Rattle.promises.specs.Reserved.{leaves_reserved}

-- what holds of the number of exit calls behind an instruction, by whether it is an SVC: that can be SVC #0 alone, and is one of them
abbrev pub Behind : (is_svc : Bool) → Listed → (exits : ℕ) → (ℕ → Type 0) → Type 0
Behind false i exits Holds = Holds exits
Behind true i zero Holds = ⊥
Behind true i (suc exits) Holds = (i ≡ exit_call) × Holds exits

-- each instruction does; branches and places write no register
abbrev pub AreAlone : (exits : ℕ) → List DraftEntry → Type 0
AreAlone exits [] = exits ≡ 0
AreAlone exits (Put i ∷ rest) = (leaves_reserved i ≡ true) × Behind (calls_system i) i exits (λ n. AreAlone n rest)
AreAlone exits (Branch k l ∷ rest) = AreAlone exits rest
AreAlone exits (Place l ∷ rest) = AreAlone exits rest

-- code before other entries does where they do, and has no exit call
abbrev pub StaysAlone : (List DraftEntry → List DraftEntry) → Type 0
StaysAlone code = (exits : ℕ) (rest : List DraftEntry) → AreAlone exits rest → AreAlone exits (code rest)

-- and has one
abbrev pub ExitsOnce : (List DraftEntry → List DraftEntry) → Type 0
ExitsOnce code = (exits : ℕ) (rest : List DraftEntry) → AreAlone exits rest → AreAlone (suc exits) (code rest)

-- One instruction before other entries.
use Rattle.std.proofs.Common.{◌≡◌, ℕ, zero, suc, Bool, true, false, List, ◌∷◌, refl}
use Rattle.std.specs.Prelude.{◌&&◌, not}
use Rattle.machine_model.specs.InstructionTable.{Listed}
use Rattle.label_fix.specs.DraftRun.{DraftEntry, Put}
use Rattle.promises.specs.OneExit.{calls_system}
use Rattle.promises.specs.Reserved.{leaves_reserved}
use Rattle.reserved_registers.specs.Alone.{Behind, AreAlone}

-- an instruction that leaves the reserved registers alone, and calls no system
abbrev pub goes_on : Listed → Bool
goes_on i = not (calls_system i) && leaves_reserved i

pub put_alone : (exits : ℕ) (i : Listed) (rest : List DraftEntry) → goes_on i ≡ true → AreAlone exits rest → AreAlone exits (Put i ∷ rest)
put_alone exits i rest l h = by (calls_system i) l
  where
    by : (b : Bool) → (not b && leaves_reserved i) ≡ true → (leaves_reserved i ≡ true) × Behind b i exits (λ n. AreAlone n rest)
    by false e = (e, h)
    by true e = absurd cc

-- what is behind an instruction
pub after_put : (exits : ℕ) (i : Listed) (rest : List DraftEntry) → AreAlone exits (Put i ∷ rest) → (n : ℕ) × AreAlone n rest
after_put exits i rest h = by (calls_system i) exits h.1
  where
    by : (b : Bool) (m : ℕ) → Behind b i m (λ n. AreAlone n rest) → (n : ℕ) × AreAlone n rest
    by false m a = (m, a)
    by true zero a = absurd a
    by true (suc m) a = (m, a.1)

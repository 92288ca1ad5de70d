-- The free elements that a draft's run suppresses.
use Rattle.std.specs.Prelude.{ℕ, zero, suc, ◌+◌, Bool, List, [], ◌∷◌, cond, if◌then◌else◌}
use Rattle.machine_model.specs.Machine.{State, Step, Went, Ended, Stopped, jump, next}
use Rattle.machine_model.specs.OneStep.{cuts_in}
use Rattle.label_fix.specs.DraftRun.{DraftEntry, Put, Branch, Place, Laid, is_taken, effect, following, address_of}

-- a step that goes on counts where it suppresses a free element
abbrev pub count_on : Step → Bool → (State → ℕ) → ℕ
count_on (Went t) cut more = cond cut 1 0 + more t
count_on (Ended result) cut more = 0
count_on (Stopped kind pc at memory) cut more = 0

abbrev pub walk_cuts : Laid → (List DraftEntry → State → ℕ) → List DraftEntry → State → ℕ
walk_cuts d on [] s = 0
walk_cuts d on (Put i ∷ rest) s = count_on (effect i s) (cuts_in i s) (on rest)
walk_cuts d on (Branch k l ∷ rest) s = if is_taken k s then on (following d l) (jump s (address_of d l)) else on rest (next s)
walk_cuts d on (Place l ∷ rest) s = walk_cuts d on rest s

-- how many free elements are suppressed by the first n words of a draft's run; none after its last entry
abbrev pub cuts : Laid → ℕ → List DraftEntry → State → ℕ
cuts d zero rest s = 0
cuts d (suc n) rest s = walk_cuts d (cuts d n) rest s

-- Code whose branches name labels, and its run from entry to entry.
use Rattle.std.specs.Prelude.{ℕ, zero, suc, ◌+◌, ◌*◌, ◌%◌, ◌^◌, Bool, true, not, List, [], ◌∷◌, nat_eq, if◌then◌else◌}
use Rattle.a64_code.specs.Table.{Name}
use Rattle.machine_model.specs.Arithmetic.{holds}
use Rattle.machine_model.specs.InstructionTable.{Listed, Scalar}
use Rattle.machine_model.specs.Machine.{State, Step, x_at, jump, next}
use Rattle.machine_model.specs.OneStep.{does}
use Rattle.machine_model.specs.Run.{Outcome, Spent, go_on, run}

-- when a branch is taken: always, by a condition's number, or where a register is zero or is not
pub data Kind : Type 0 where
  Always : Kind
  If : ℕ → Kind
  Zero : ℕ → Kind
  NotZero : ℕ → Kind

-- an instruction, a branch to a label, or the place of a label
pub data DraftEntry : Type 0 where
  Put : Listed → DraftEntry
  Branch : Kind → ℕ → DraftEntry
  Place : ℕ → DraftEntry

-- an A64 instruction by the name of its row and the numbers of its fields, and the entry that is one
abbrev pub word_of : Name → List ℕ → Listed
word_of name numbers = Scalar (record { name = name; numbers = numbers })

abbrev pub ins : Name → List ℕ → DraftEntry
ins name numbers = Put (word_of name numbers)

abbrev pub is_taken : Kind → State → Bool
is_taken Always s = true
is_taken (If condition) s = holds condition s.flags
is_taken (Zero r) s = nat_eq (x_at s r) 0
is_taken (NotZero r) s = not (nat_eq (x_at s r) 0)

-- what an instruction does
abbrev pub effect : Listed → State → Step
effect i s = does i s

-- the entries after the place of a label
abbrev pub after_label : List DraftEntry → ℕ → List DraftEntry
after_label [] l = []
after_label (Put i ∷ rest) l = after_label rest l
after_label (Branch k m ∷ rest) l = after_label rest l
after_label (Place m ∷ rest) l = if nat_eq m l then rest else after_label rest l

-- the number of words before the place of a label
abbrev pub place_of : List DraftEntry → ℕ → ℕ
place_of [] l = 0
place_of (Put i ∷ rest) l = suc (place_of rest l)
place_of (Branch k m ∷ rest) l = suc (place_of rest l)
place_of (Place m ∷ rest) l = if nat_eq m l then 0 else place_of rest l

-- a draft, with the address that its first word is to have
pub record Laid : Type 0 where
  pub base : ℕ
  pub entries : List DraftEntry

abbrev pub following : Laid → ℕ → List DraftEntry
following d l = after_label d.entries l

-- the address of a label
abbrev pub address_of : Laid → ℕ → ℕ
address_of d l = (d.base + 4 * place_of d.entries l) % 2 ^ 64

-- on to the next word, which may stand after places of labels. After the last entry the machine runs on.
abbrev pub walk : Laid → (List DraftEntry → State → Outcome) → (State → Outcome) → ℕ → List DraftEntry → State → Outcome
walk d on past taken [] s = past s
walk d on past taken (Put i ∷ rest) s = go_on (effect i s) s taken (on rest)
walk d on past taken (Branch k l ∷ rest) s = if is_taken k s then on (following d l) (jump s (address_of d l)) else on rest (next s)
walk d on past taken (Place l ∷ rest) s = walk d on past taken rest s

-- at most n words of a draft from the first of `rest` on, after so many that were taken
abbrev pub draft_run : Laid → ℕ → ℕ → List DraftEntry → State → Outcome
draft_run d zero taken rest s = Spent s.pc s.memory taken
draft_run d (suc n) taken rest s = walk d (draft_run d n (taken + 1)) (run (suc n) taken) (taken + 1) rest s

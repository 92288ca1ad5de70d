-- The words of a draft: its instructions, and branches to the words after the places of their labels.
use Rattle.std.specs.Prelude.{◌≡◌, ℕ, suc, ◌+◌, ◌-◌, ◌*◌, ◌%◌, ◌^◌, ◌<◌, Bool, true, not, List, [], ◌∷◌, Some, nat_lt, slice_get}
use Rattle.guest_types.specs.Memory.{Memory, fetched}
use Rattle.word_rows.specs.Row.{Instruction, spells}
use Rattle.a64_code.specs.Table as a64
use Rattle.machine_model.specs.CodeInMemory.{spell, IsListed}
use Rattle.machine_model.specs.Frames.{is_branch}
use Rattle.machine_model.specs.InstructionTable.{Listed, Scalar, Vector}
use Rattle.label_fix.specs.DraftRun.{Kind, Always, If, Zero, NotZero, DraftEntry, Put, Branch, Place, place_of}

-- how many words some entries come to
abbrev pub size : List DraftEntry → ℕ
size [] = 0
size (Put i ∷ rest) = suc (size rest)
size (Branch k l ∷ rest) = suc (size rest)
size (Place l ∷ rest) = size rest

-- the offset of a branch in a field of w bits, in words, from one word to another
abbrev pub offset : ℕ → ℕ → ℕ → ℕ
offset w from to = (to + 2 ^ w - from) % 2 ^ w

abbrev pub branch_of : Kind → ℕ → ℕ → Instruction a64.Name
branch_of Always from to = record { name = a64.b; numbers = offset 26 from to ∷ [] }
branch_of (If c) from to = record { name = a64.b_cond; numbers = c ∷ offset 19 from to ∷ [] }
branch_of (Zero r) from to = record { name = a64.cbz; numbers = r ∷ offset 19 from to ∷ [] }
branch_of (NotZero r) from to = record { name = a64.cbnz; numbers = r ∷ offset 19 from to ∷ [] }

-- the words of some entries of a whole, the first of which has number n
abbrev pub words_from : List DraftEntry → ℕ → List DraftEntry → List ℕ
words_from whole n [] = []
words_from whole n (Put i ∷ rest) = spell i ∷ words_from whole (suc n) rest
words_from whole n (Branch k l ∷ rest) = spells a64.row (branch_of k n (place_of whole l)) ∷ words_from whole (suc n) rest
words_from whole n (Place l ∷ rest) = words_from whole n rest

unfoldable pub words_of : List DraftEntry → List ℕ
words_of entries = words_from entries 0 entries

-- no branch of its own: none of B, B.cond, CBZ, CBNZ and RET
abbrev pub is_plain : Listed → Bool
is_plain (Scalar i) = not (is_branch i.name)
is_plain (Vector v) = true

-- a register that a branch tests has a number below 32
abbrev pub has_register : Kind → Bool
has_register (Zero r) = nat_lt r 32
has_register (NotZero r) = nat_lt r 32
has_register Always = true
has_register (If c) = true

abbrev pub has_condition : Kind → Bool
has_condition (If c) = nat_lt c 15
has_condition Always = true
has_condition (Zero r) = true
has_condition (NotZero r) = true

-- an instruction of the tables, and no branch of its own
abbrev pub IsWord : Listed → Type 0
IsWord i = IsListed i × (is_plain i ≡ true)

abbrev pub IsBranch : Kind → Type 0
IsBranch k = (has_register k ≡ true) × (has_condition k ≡ true)

-- What every draft is: its words are instructions that go on to the next one, its branches can be written, and its labels
-- are among the n that it gave.
abbrev pub AreFit : ℕ → List DraftEntry → Type 0
AreFit n [] = Unit {0}
AreFit n (Put i ∷ rest) = IsWord i × AreFit n rest
AreFit n (Branch k l ∷ rest) = IsBranch k × (l < n) × AreFit n rest
AreFit n (Place l ∷ rest) = (l < n) × AreFit n rest

-- words stand in memory one after another, from a place on, and may be fetched
abbrev pub StandAt : Memory → ℕ → List ℕ → Type 0
StandAt memory base words = (k w : ℕ) → slice_get words k ≡ Some w → fetched memory ((base + 4 * k) % 2 ^ 64) ≡ Some w

-- Code that stands in memory: instructions of both tables, one after another.
use Rattle.std.specs.Prelude.{◌≡◌, ℕ, ◌+◌, ◌%◌, ◌^◌, List, [], ◌∷◌, Some, map}
use Rattle.guest_types.specs.Memory.{Memory, fetched}
use Rattle.word_rows.specs.Row.{IsInstruction, spells}
use Rattle.a64_code.specs.Table as a64
use Rattle.sve_code.specs.Table as sve
use Rattle.machine_model.specs.InstructionTable.{Listed, Scalar, Vector}

-- the word of a listed instruction
abbrev pub spell : Listed → ℕ
spell (Scalar i) = spells a64.row i
spell (Vector v) = spells sve.row v

-- a row has the instruction
abbrev pub IsListed : Listed → Type 0
IsListed (Scalar i) = IsInstruction a64.row a64.a64_names i
IsListed (Vector v) = IsInstruction sve.row sve.sve_names v

-- the place of the next word
abbrev pub word_after : ℕ → ℕ
word_after pc = (pc + 4) % 2 ^ 64

-- these instructions stand one after another from a place on
abbrev pub HasCode : Memory → ℕ → List Listed → Type 0
HasCode memory pc [] = Unit {0}
HasCode memory pc (i ∷ is) = (fetched memory pc ≡ Some (spell i)) × IsListed i × HasCode memory (word_after pc) is

-- the place after so many instructions
abbrev pub place_after : ℕ → List Listed → ℕ
place_after pc [] = pc
place_after pc (i ∷ is) = place_after (word_after pc) is

-- instructions that all have a row
abbrev pub AllListed : List Listed → Type 0
AllListed [] = Unit {0}
AllListed (i ∷ is) = IsListed i × AllListed is

-- the words of instructions
abbrev pub words_of : List Listed → List ℕ
words_of is = map spell is

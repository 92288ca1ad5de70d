-- The two classes of registers that a function keeps.
use Rattle.std.specs.Prelude.{ℕ, List, Option, map}
use Rattle.word_rows.specs.declared.Bits.{Bits}
use Rattle.machine_model.specs.InstructionTable.{Listed}
use Rattle.promises.specs.Reserved.{register_written}
use Rattle.promises.specs.Saved.{vector_written}
use Rattle.call_words.specs.declared.class.Class.{Class}
use Rattle.call_words.specs.declared.class.Class.TheVariants.{General, Vector}

-- the register of a class that an instruction writes, if it writes one
abbrev pub written_of : Class → Listed → Option ℕ
written_of General = register_written
written_of Vector = vector_written

-- registers by their numbers
abbrev pub number_of : Bits 5 → ℕ
number_of register = register.number

abbrev pub numbers_of : List (Bits 5) → List ℕ
numbers_of registers = map number_of registers

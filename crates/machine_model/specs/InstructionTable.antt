-- The instruction table: the A64 rows and the SVE rows together. A word is in one row at most.
use Rattle.std.specs.Prelude.{ℕ, Option, Some, None}
use Rattle.word_rows.specs.Row.{Instruction, reads}
use Rattle.a64_code.specs.Table as a64
use Rattle.sve_code.specs.Table as sve

pub data Listed : Type 0 where
  Scalar : Instruction a64.Name → Listed
  Vector : Instruction sve.Name → Listed

abbrev pub either_table : Option (Instruction a64.Name) → Option (Instruction sve.Name) → Option Listed
either_table (Some i) v = Some (Scalar i)
either_table None (Some v) = Some (Vector v)
either_table None None = None

-- the instruction of a word, where a row of either table has it
abbrev pub listed : ℕ → Option Listed
listed word = either_table (reads a64.row a64.a64_names word) (reads sve.row sve.sve_names word)

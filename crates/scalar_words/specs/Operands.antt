-- The words of an operator with two operands.
use Rattle.std.specs.Prelude.{ℕ, [], ◌∷◌, Bool, true, false}
use Rattle.a64_code.specs.Table.{add, sub, madd, land, orr, eor, csel}
use Rattle.machine_model.specs.InstructionTable.{Listed}
use Rattle.kernel_tree.specs.declared.ops.BinaryOp.{BinaryOp}
use Rattle.label_fix.specs.DraftRun.{word_of}
use Rattle.label_fix.specs.Registers.{xzr}
use Rattle.scalar_words.specs.Words.{condition}
use Rattle.kernel_tree.specs.declared.ops.BinaryOp.TheVariants as binary
use Rattle.kernel_tree.specs.declared.ops.CompareOp.TheVariants as compare

-- the word that writes the result
abbrev pub operation_word : BinaryOp → Bool → ℕ → ℕ → ℕ → Listed
operation_word binary.Add signed d a b = word_of add (d ∷ a ∷ 0 ∷ b ∷ 0 ∷ [])
operation_word binary.Sub signed d a b = word_of sub (d ∷ a ∷ 0 ∷ b ∷ 0 ∷ [])
operation_word binary.Mul signed d a b = word_of madd (d ∷ a ∷ xzr ∷ b ∷ [])
operation_word binary.And signed d a b = word_of land (d ∷ a ∷ 0 ∷ b ∷ 0 ∷ [])
operation_word binary.Or signed d a b = word_of orr (d ∷ a ∷ 0 ∷ b ∷ 0 ∷ [])
operation_word binary.Xor signed d a b = word_of eor (d ∷ a ∷ 0 ∷ b ∷ 0 ∷ [])
operation_word binary.Min signed d a b = word_of csel (d ∷ b ∷ condition compare.Gt signed ∷ a ∷ [])
operation_word binary.Max signed d a b = word_of csel (d ∷ a ∷ condition compare.Gt signed ∷ b ∷ [])

-- ---- operators

-- low bits of the result come of low bits of the operands
abbrev pub binary_joins : BinaryOp → Bool
binary_joins binary.Add = true
binary_joins binary.Sub = true
binary_joins binary.Mul = true
binary_joins binary.And = true
binary_joins binary.Or = true
binary_joins binary.Xor = true
binary_joins binary.Min = false
binary_joins binary.Max = false

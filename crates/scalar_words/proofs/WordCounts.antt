-- How many words a constant and an operator have.
use Rattle.std.proofs.Common.{ℕ, ◌+◌, ◌%◌, ◌/◌, ◌≤◌, Bool, true, false, List, Option, Some, None, arith}
use Rattle.std.specs.Prelude.{nat_eq}
use Rattle.kernel_tree.specs.declared.ops.Ty.{Ty}
use Rattle.kernel_tree.specs.declared.ops.BinaryOp.{BinaryOp}
use Rattle.kernel_tree.specs.Wrap.{is_signed}
use Rattle.kernel_meaning.specs.TypeValues.{binary_leaves}
use Rattle.machine_model.specs.InstructionTable.{Listed}
use Rattle.label_fix.specs.DraftRun.{DraftEntry}
use Rattle.label_fix.specs.Finished.{size}
use Rattle.scalar_words.specs.Words.{filler, start_code, has_ones, half_word, filled_code, halves_code, const_code, settle_word, word_code, operation_code, binary_code}
use Rattle.kernel_tree.specs.declared.ops.BinaryOp.TheVariants as binary

-- ---- the words of one item, before at most k others

pub le_of_le_of_le : {x a b : ℕ} → a ≤ b → x ≤ a → x ≤ b
le_of_le_of_le le h = omega (arith, le, h)

pub one_word : (o : Option Listed) (rest : List DraftEntry) (k : ℕ) → size rest ≤ k → size (word_code o rest) ≤ 1 + k
one_word None rest k h = omega (arith, h)
one_word (Some i) rest k h = omega (arith, h)

pub operation_words : (op : BinaryOp) (signed : Bool) (d a c : ℕ) (rest : List DraftEntry) (k : ℕ) → size rest ≤ k → size (operation_code op signed d a c rest) ≤ 2 + k
operation_words binary.Add signed d a c rest k h = omega (arith, h)
operation_words other signed d a c rest k h = omega (arith, h)

-- the words of an operator at a type
pub operator_words : (op : BinaryOp) (t : Ty) (d a c : ℕ) (rest : List DraftEntry) (k : ℕ) → size rest ≤ k → size (binary_code op t d a c rest) ≤ 3 + k
operator_words op t d a c rest k h = le_of_le_of_le (omega arith) (operation_words op (is_signed t) d a c _ (1 + k) (one_word (settle_word (binary_leaves op) t d) rest k h))

start_words : (o : Bool) (d h p : ℕ) (rest : List DraftEntry) (k : ℕ) → size rest ≤ k → size (start_code o d h p rest) ≤ 1 + k
start_words true d h p rest k e = omega (arith, e)
start_words false d h p rest k e = omega (arith, e)

filled_words : (e0 e1 e2 e3 o : Bool) (d h0 h1 h2 h3 : ℕ) (rest : List DraftEntry) (k : ℕ) → size rest ≤ k → size (filled_code e0 e1 e2 e3 o d h0 h1 h2 h3 rest) ≤ 4 + k
filled_words false e1 e2 e3 o d h0 h1 h2 h3 rest k h = le_of_le_of_le (omega arith) (start_words o d h0 0 _ _ (one_word (half_word d (filler o) h1 1) _ _ (one_word (half_word d (filler o) h2 2) _ _ (one_word (half_word d (filler o) h3 3) rest k h))))
filled_words true false e2 e3 o d h0 h1 h2 h3 rest k h = le_of_le_of_le (omega arith) (start_words o d h1 1 _ _ (one_word (half_word d (filler o) h2 2) _ _ (one_word (half_word d (filler o) h3 3) rest k h)))
filled_words true true false e3 o d h0 h1 h2 h3 rest k h = le_of_le_of_le (omega arith) (start_words o d h2 2 _ _ (one_word (half_word d (filler o) h3 3) rest k h))
filled_words true true true false o d h0 h1 h2 h3 rest k h = le_of_le_of_le (omega arith) (start_words o d h3 3 rest k h)
filled_words true true true true o d h0 h1 h2 h3 rest k h = le_of_le_of_le (omega arith) (start_words o d h0 0 rest k h)

halves_words : (o : Bool) (d h0 h1 h2 h3 : ℕ) (rest : List DraftEntry) (k : ℕ) → size rest ≤ k → size (halves_code o d h0 h1 h2 h3 rest) ≤ 4 + k
halves_words o d h0 h1 h2 h3 rest k h = filled_words (nat_eq h0 (filler o)) (nat_eq h1 (filler o)) (nat_eq h2 (filler o)) (nat_eq h3 (filler o)) o d h0 h1 h2 h3 rest k h

pub const_words : (d n : ℕ) (rest : List DraftEntry) (k : ℕ) → size rest ≤ k → size (const_code d n rest) ≤ 4 + k
const_words d n rest k h =
    halves_words (has_ones (n % 65536) (n / 65536 % 65536) (n / 4294967296 % 65536) (n / 281474976710656 % 65536)) d (n % 65536) (n / 65536 % 65536) (n / 4294967296 % 65536) (n / 281474976710656 % 65536) rest k h

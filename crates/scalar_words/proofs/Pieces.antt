-- Code without labels: what holds of entries before it holds of those after it.
use Rattle.std.proofs.Common.{ℕ, ◌%◌, ◌/◌, Bool, true, false, List, ◌∷◌, Option, Some, None}
use Rattle.std.specs.Prelude.{nat_eq}
use Rattle.kernel_tree.specs.declared.ops.Ty.{Ty}
use Rattle.kernel_tree.specs.declared.ops.BinaryOp.{BinaryOp}
use Rattle.kernel_tree.specs.Wrap.{is_signed}
use Rattle.kernel_meaning.specs.TypeValues.{binary_leaves}
use Rattle.machine_model.specs.InstructionTable.{Listed}
use Rattle.label_fix.specs.DraftRun.{DraftEntry, Put}
use Rattle.label_fix.proofs.LabelsOnce.{Unplaced, Once}
use Rattle.scalar_words.specs.Words.{filler, start_code, has_ones, half_word, filled_code, halves_code, const_code, settle_word, word_code, operation_code, binary_code, at_type}
use Rattle.kernel_tree.specs.declared.ops.BinaryOp.TheVariants as binary

-- pieces without labels
module _ (P : List DraftEntry → Type 0) (put : (i : Listed) (rest : List DraftEntry) → P rest → P (Put i ∷ rest)) where
  pub word_put : (o : Option Listed) (rest : List DraftEntry) → P rest → P (word_code o rest)
  word_put None rest h = h
  word_put (Some i) rest h = put _ _ h

  pub operation_put : (op : BinaryOp) (signed : Bool) (d a c : ℕ) (rest : List DraftEntry) → P rest → P (operation_code op signed d a c rest)
  operation_put binary.Add signed d a c rest h = put _ _ h
  operation_put binary.Sub signed d a c rest h = put _ _ h
  operation_put binary.Mul signed d a c rest h = put _ _ h
  operation_put binary.And signed d a c rest h = put _ _ h
  operation_put binary.Or signed d a c rest h = put _ _ h
  operation_put binary.Xor signed d a c rest h = put _ _ h
  operation_put binary.Min signed d a c rest h = put _ _ (put _ _ h)
  operation_put binary.Max signed d a c rest h = put _ _ (put _ _ h)

  pub binary_put : (want : Option Ty) (op : BinaryOp) (d a c : ℕ) (rest : List DraftEntry) → P rest → P (at_type want (λ t. binary_code op t d a c rest) rest)
  binary_put None op d a c rest h = h
  binary_put (Some t) op d a c rest h = operation_put op (is_signed t) d a c _ (word_put (settle_word (binary_leaves op) t d) rest h)

  start_put : (o : Bool) (d h p : ℕ) (rest : List DraftEntry) → P rest → P (start_code o d h p rest)
  start_put true d h p rest k = put _ _ k
  start_put false d h p rest k = put _ _ k

  filled_put : (e0 e1 e2 e3 o : Bool) (d h0 h1 h2 h3 : ℕ) (rest : List DraftEntry) → P rest → P (filled_code e0 e1 e2 e3 o d h0 h1 h2 h3 rest)
  filled_put false e1 e2 e3 o d h0 h1 h2 h3 rest h = start_put o d h0 0 _ (word_put (half_word d (filler o) h1 1) _ (word_put (half_word d (filler o) h2 2) _ (word_put (half_word d (filler o) h3 3) rest h)))
  filled_put true false e2 e3 o d h0 h1 h2 h3 rest h = start_put o d h1 1 _ (word_put (half_word d (filler o) h2 2) _ (word_put (half_word d (filler o) h3 3) rest h))
  filled_put true true false e3 o d h0 h1 h2 h3 rest h = start_put o d h2 2 _ (word_put (half_word d (filler o) h3 3) rest h)
  filled_put true true true false o d h0 h1 h2 h3 rest h = start_put o d h3 3 rest h
  filled_put true true true true o d h0 h1 h2 h3 rest h = start_put o d h0 0 rest h

  halves_put : (o : Bool) (d h0 h1 h2 h3 : ℕ) (rest : List DraftEntry) → P rest → P (halves_code o d h0 h1 h2 h3 rest)
  halves_put o d h0 h1 h2 h3 rest h = filled_put (nat_eq h0 (filler o)) (nat_eq h1 (filler o)) (nat_eq h2 (filler o)) (nat_eq h3 (filler o)) o d h0 h1 h2 h3 rest h

  pub const_put : (d n : ℕ) (rest : List DraftEntry) → P rest → P (const_code d n rest)
  const_put d n rest h =
      halves_put (has_ones (n % 65536) (n / 65536 % 65536) (n / 4294967296 % 65536) (n / 281474976710656 % 65536)) d (n % 65536) (n / 65536 % 65536) (n / 4294967296 % 65536) (n / 281474976710656 % 65536) rest h

pub unplaced_put : (l : ℕ) (i : Listed) (rest : List DraftEntry) → Unplaced l rest → Unplaced l (Put i ∷ rest)
unplaced_put l i rest h = h

pub once_put : (i : Listed) (rest : List DraftEntry) → Once rest → Once (Put i ∷ rest)
once_put i rest h = h

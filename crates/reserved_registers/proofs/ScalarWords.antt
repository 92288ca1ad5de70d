-- The words of one item write the register that they are given, or X26.
use Rattle.std.proofs.Common.{◌≡◌, ℕ, ◌-◌, ◌%◌, ◌/◌, Bool, true, false, ◌&&◌, List, [], ◌∷◌, Option, Some, None, refl, ap, ap₂}
use Rattle.std.specs.Prelude.{not, nat_eq, if◌then◌else◌}
use Rattle.a64_code.specs.Table.{movk, sbfm, ubfm, orr}
use Rattle.kernel_tree.specs.declared.ops.Ty.{Ty}
use Rattle.kernel_tree.specs.declared.ops.BinaryOp.{BinaryOp}
use Rattle.kernel_tree.specs.Wrap.{bits_of, is_signed}
use Rattle.kernel_meaning.specs.TypeValues.{binary_leaves}
use Rattle.machine_model.specs.InstructionTable.{Listed}
use Rattle.label_fix.specs.DraftRun.{DraftEntry, word_of}
use Rattle.scalar_words.specs.Words.{word_code, filler, start_code, has_ones, half_word, filled_code, halves_code, const_code, extending, copy_word, is_narrow, extend_word, settle_word, operation_code, binary_code}
use Rattle.promises.specs.Reserved.{is_reserved}
use Rattle.reserved_registers.specs.Alone.{AreAlone}
use Rattle.reserved_registers.proofs.Entries.{goes_on, put_alone}
use Rattle.reserved_registers.proofs.FreeRegisters.{Unreserved, Free}
use Rattle.kernel_tree.specs.declared.ops.BinaryOp.TheVariants as binary

-- ---- words

-- a word that writes a free register, and one that might write SP
pub written : {d : ℕ} → Unreserved d → (not (is_reserved d) && true) ≡ true
written f = ap (λ b. not b && true) f.unreserved

pub free_is_not_reserved : {d : ℕ} → Free d → (not (is_reserved d) && not (nat_eq d 31)) ≡ true
free_is_not_reserved f = ap₂ (λ b c. not b && not c) f.kept.unreserved f.other

-- a word, or none
abbrev pub LeavesIf : Option Listed → Type 0
LeavesIf None = Unit {0}
LeavesIf (Some i) = goes_on i ≡ true

pub one_alone : (exits : ℕ) (o : Option Listed) (rest : List DraftEntry) → LeavesIf o → AreAlone exits rest → AreAlone exits (word_code o rest)
one_alone exits None rest l h = h
one_alone exits (Some i) rest l h = put_alone exits i rest l h

-- ---- constants

start_alone : (exits : ℕ) (o : Bool) (d h p : ℕ) (rest : List DraftEntry) → Unreserved d → AreAlone exits rest → AreAlone exits (start_code o d h p rest)
start_alone exits true d h p rest f a = (written f, a)
start_alone exits false d h p rest f a = (written f, a)

half_leaves : (d x h p : ℕ) → Unreserved d → LeavesIf (half_word d x h p)
half_leaves d x h p f = by (nat_eq h x)
  where
    by : (b : Bool) → LeavesIf (if b then None else Some (word_of movk (d ∷ h ∷ p ∷ [])))
    by true = tt
    by false = written f

filled_alone : (exits : ℕ) (e0 e1 e2 e3 o : Bool) (d h0 h1 h2 h3 : ℕ) (rest : List DraftEntry) → Unreserved d → AreAlone exits rest → AreAlone exits (filled_code e0 e1 e2 e3 o d h0 h1 h2 h3 rest)
filled_alone exits false e1 e2 e3 o d h0 h1 h2 h3 rest f a = start_alone exits o d h0 0 _ f (one_alone exits (half_word d (filler o) h1 1) _ (half_leaves d (filler o) h1 1 f) (one_alone exits (half_word d (filler o) h2 2) _ (half_leaves d (filler o) h2 2 f) (one_alone exits (half_word d (filler o) h3 3) rest (half_leaves d (filler o) h3 3 f) a)))
filled_alone exits true false e2 e3 o d h0 h1 h2 h3 rest f a = start_alone exits o d h1 1 _ f (one_alone exits (half_word d (filler o) h2 2) _ (half_leaves d (filler o) h2 2 f) (one_alone exits (half_word d (filler o) h3 3) rest (half_leaves d (filler o) h3 3 f) a))
filled_alone exits true true false e3 o d h0 h1 h2 h3 rest f a = start_alone exits o d h2 2 _ f (one_alone exits (half_word d (filler o) h3 3) rest (half_leaves d (filler o) h3 3 f) a)
filled_alone exits true true true false o d h0 h1 h2 h3 rest f a = start_alone exits o d h3 3 rest f a
filled_alone exits true true true true o d h0 h1 h2 h3 rest f a = start_alone exits o d h0 0 rest f a

halves_alone : (exits : ℕ) (o : Bool) (d h0 h1 h2 h3 : ℕ) (rest : List DraftEntry) → Unreserved d → AreAlone exits rest → AreAlone exits (halves_code o d h0 h1 h2 h3 rest)
halves_alone exits o d h0 h1 h2 h3 rest f a = filled_alone exits (nat_eq h0 (filler o)) (nat_eq h1 (filler o)) (nat_eq h2 (filler o)) (nat_eq h3 (filler o)) o d h0 h1 h2 h3 rest f a

pub const_alone : (exits : ℕ) (d n : ℕ) (rest : List DraftEntry) → Unreserved d → AreAlone exits rest → AreAlone exits (const_code d n rest)
const_alone exits d n rest f a =
    halves_alone exits (has_ones (n % 65536) (n / 65536 % 65536) (n / 4294967296 % 65536) (n / 281474976710656 % 65536)) d (n % 65536) (n / 65536 % 65536) (n / 4294967296 % 65536) (n / 281474976710656 % 65536) rest f a

-- ---- copies and extensions

extending_leaves : (t : Ty) (d a : ℕ) → Unreserved d → goes_on (extending t d a) ≡ true
extending_leaves t d a f = by (is_signed t)
  where
    by : (b : Bool) → goes_on (if b then word_of sbfm (d ∷ a ∷ (bits_of t - 1) ∷ 0 ∷ []) else word_of ubfm (d ∷ a ∷ (bits_of t - 1) ∷ 0 ∷ [])) ≡ true
    by true = written f
    by false = written f

pub copy_leaves : (d a : ℕ) → Unreserved d → LeavesIf (copy_word d a)
copy_leaves d a f = by (nat_eq d a)
  where
    by : (b : Bool) → LeavesIf (if b then None else Some (word_of orr (d ∷ 31 ∷ 0 ∷ a ∷ 0 ∷ [])))
    by true = tt
    by false = written f

extending_if : (b : Bool) (t : Ty) (d a : ℕ) (other : Option Listed) → Unreserved d → LeavesIf other → LeavesIf (if b then Some (extending t d a) else other)
extending_if true t d a other f l = extending_leaves t d a f
extending_if false t d a other f l = l

pub extend_leaves : (t : Ty) (d a : ℕ) → Unreserved d → LeavesIf (extend_word t d a)
extend_leaves t d a f = extending_if (is_narrow t) t d a (copy_word d a) f (copy_leaves d a f)

pub settle_leaves : (leaves : Bool) (t : Ty) (d : ℕ) → Unreserved d → LeavesIf (settle_word leaves t d)
settle_leaves leaves t d f = extending_if (leaves && is_narrow t) t d d None f tt

-- ---- operators

pub operation_alone : (exits : ℕ) (op : BinaryOp) (signed : Bool) (d a c : ℕ) (rest : List DraftEntry) → Unreserved d → AreAlone exits rest → AreAlone exits (operation_code op signed d a c rest)
operation_alone exits binary.Min signed d a c rest f h = (refl, (written f, h))
operation_alone exits binary.Max signed d a c rest f h = (refl, (written f, h))
operation_alone exits other signed d a c rest f h = (written f, h)

-- an operator at a type
pub binary_alone : (exits : ℕ) (op : BinaryOp) (t : Ty) (d a c : ℕ) (rest : List DraftEntry) → Unreserved d → AreAlone exits rest → AreAlone exits (binary_code op t d a c rest)
binary_alone exits op t d a c rest f h = operation_alone exits op (is_signed t) d a c _ f (one_alone exits (settle_word (binary_leaves op) t d) rest (settle_leaves (binary_leaves op) t d f) h)

-- The words of constants, of results that are extended, and of operators with two operands. A word that writes a register is the
-- last that reads an operand, so that both may be one register.
use Rattle.std.specs.Prelude.{ℕ, zero, suc, ◌+◌, ◌-◌, ◌/◌, ◌%◌, Bool, true, false, ◌&&◌, List, [], ◌∷◌, Option, Some, None, nat_eq, nat_lt, if◌then◌else◌}
use Rattle.a64_code.specs.Table.{add, sub, subs, land, orr, eor, movz, movk, movn, madd, sbfm, ubfm, csel}
use Rattle.machine_model.specs.InstructionTable.{Listed}
use Rattle.kernel_tree.specs.declared.ops.Ty.{Ty}
use Rattle.kernel_tree.specs.declared.ops.BinaryOp.{BinaryOp}
use Rattle.kernel_tree.specs.declared.ops.CompareOp.{CompareOp}
use Rattle.kernel_tree.specs.Wrap.{bits_of, is_signed}
use Rattle.kernel_meaning.specs.TypeValues.{binary_leaves}
use Rattle.label_fix.specs.DraftRun.{DraftEntry, Put, word_of, ins}
use Rattle.label_fix.specs.Registers.{xzr}
use Rattle.label_fix.specs.Conditions as conditions
use Rattle.kernel_tree.specs.declared.ops.BinaryOp.TheVariants as binary
use Rattle.kernel_tree.specs.declared.ops.CompareOp.TheVariants as compare

-- a word, or none
abbrev pub word_code : Option Listed → List DraftEntry → List DraftEntry
word_code None rest = rest
word_code (Some i) rest = Put i ∷ rest

-- ---- constants

-- 1 where this holds
abbrev pub one : Bool → ℕ
one true = 1
one false = 0

abbrev pub count_halves : (x h0 h1 h2 h3 : ℕ) → ℕ
count_halves x h0 h1 h2 h3 = one (nat_eq h0 x) + one (nat_eq h1 x) + one (nat_eq h2 x) + one (nat_eq h3 x)

-- more halves of a word are all ones than are zero
abbrev pub has_ones : (h0 h1 h2 h3 : ℕ) → Bool
has_ones h0 h1 h2 h3 = nat_lt (count_halves 0 h0 h1 h2 h3) (count_halves 65535 h0 h1 h2 h3)

-- the half that most halves are then
abbrev pub filler : Bool → ℕ
filler true = 65535
filler false = 0

-- half p of d = h, and the filler in the others
abbrev pub start_code : Bool → (d h p : ℕ) → List DraftEntry → List DraftEntry
start_code true d h p rest = ins movn (d ∷ (65535 - h) ∷ p ∷ []) ∷ rest
start_code false d h p rest = ins movz (d ∷ h ∷ p ∷ []) ∷ rest

-- half p of d = h, where it is not the filler
abbrev pub half_word : (d f h p : ℕ) → Option Listed
half_word d f h p = if nat_eq h f then None else Some (word_of movk (d ∷ h ∷ p ∷ []))

-- the first half that is not the filler, and then the others that are not; by which halves are the filler
abbrev pub filled_code : (e0 e1 e2 e3 o : Bool) → (d h0 h1 h2 h3 : ℕ) → List DraftEntry → List DraftEntry
filled_code false e1 e2 e3 o d h0 h1 h2 h3 rest =
    start_code o d h0 0 (word_code (half_word d (filler o) h1 1) (word_code (half_word d (filler o) h2 2) (word_code (half_word d (filler o) h3 3) rest)))
filled_code true false e2 e3 o d h0 h1 h2 h3 rest = start_code o d h1 1 (word_code (half_word d (filler o) h2 2) (word_code (half_word d (filler o) h3 3) rest))
filled_code true true false e3 o d h0 h1 h2 h3 rest = start_code o d h2 2 (word_code (half_word d (filler o) h3 3) rest)
filled_code true true true false o d h0 h1 h2 h3 rest = start_code o d h3 3 rest
filled_code true true true true o d h0 h1 h2 h3 rest = start_code o d h0 0 rest

abbrev pub halves_code : Bool → (d h0 h1 h2 h3 : ℕ) → List DraftEntry → List DraftEntry
halves_code o d h0 h1 h2 h3 rest = filled_code (nat_eq h0 (filler o)) (nat_eq h1 (filler o)) (nat_eq h2 (filler o)) (nat_eq h3 (filler o)) o d h0 h1 h2 h3 rest

-- d = v, by the fewest words
abbrev pub const_code : ℕ → ℕ → List DraftEntry → List DraftEntry
const_code d v rest =
    halves_code (has_ones (v % 65536) (v / 65536 % 65536) (v / 4294967296 % 65536) (v / 281474976710656 % 65536)) d
    (v % 65536) (v / 65536 % 65536) (v / 4294967296 % 65536) (v / 281474976710656 % 65536) rest

-- ---- copies and extensions

-- d = the low bits of a, extended by their type
abbrev pub extending : Ty → ℕ → ℕ → Listed
extending t d a = if is_signed t then word_of sbfm (d ∷ a ∷ (bits_of t - 1) ∷ 0 ∷ []) else word_of ubfm (d ∷ a ∷ (bits_of t - 1) ∷ 0 ∷ [])

abbrev pub extension : Ty → ℕ → ℕ → DraftEntry
extension t d a = Put (extending t d a)

abbrev pub copy : ℕ → ℕ → DraftEntry
copy d a = ins orr (d ∷ xzr ∷ 0 ∷ a ∷ 0 ∷ [])

-- a register into another one: no word where they are one
abbrev pub copy_word : ℕ → ℕ → Option Listed
copy_word d a = if nat_eq d a then None else Some (word_of orr (d ∷ xzr ∷ 0 ∷ a ∷ 0 ∷ []))

abbrev pub is_narrow : Ty → Bool
is_narrow t = nat_lt (bits_of t) 64

-- a register extended by a type into another one: a copy at 64 bits
abbrev pub extend_word : Ty → ℕ → ℕ → Option Listed
extend_word t d a = if is_narrow t then Some (extending t d a) else copy_word d a

-- what an operation gave in d, extended in place where it may have left the extended form: no word at 64 bits
abbrev pub settle_word : (leaves : Bool) → Ty → ℕ → Option Listed
settle_word leaves t d = if leaves && is_narrow t then Some (extending t d d) else None

-- the condition that holds of two operands, by whether they are signed
abbrev pub condition : CompareOp → Bool → ℕ
condition compare.Eq signed = conditions.eq
condition compare.Ne signed = conditions.ne
condition compare.Lt true = conditions.lt
condition compare.Lt false = conditions.lo
condition compare.Le true = conditions.le
condition compare.Le false = conditions.ls
condition compare.Gt true = conditions.gt
condition compare.Gt false = conditions.hi
condition compare.Ge true = conditions.ge
condition compare.Ge false = conditions.hs

-- an operator before its result is settled, by whether its type is signed
abbrev pub operation_code : BinaryOp → Bool → ℕ → ℕ → ℕ → List DraftEntry → List DraftEntry
operation_code binary.Add signed d a b rest = ins add (d ∷ a ∷ 0 ∷ b ∷ 0 ∷ []) ∷ rest
operation_code binary.Sub signed d a b rest = ins sub (d ∷ a ∷ 0 ∷ b ∷ 0 ∷ []) ∷ rest
operation_code binary.Mul signed d a b rest = ins madd (d ∷ a ∷ xzr ∷ b ∷ []) ∷ rest
operation_code binary.And signed d a b rest = ins land (d ∷ a ∷ 0 ∷ b ∷ 0 ∷ []) ∷ rest
operation_code binary.Or signed d a b rest = ins orr (d ∷ a ∷ 0 ∷ b ∷ 0 ∷ []) ∷ rest
operation_code binary.Xor signed d a b rest = ins eor (d ∷ a ∷ 0 ∷ b ∷ 0 ∷ []) ∷ rest
operation_code binary.Min signed d a b rest = ins subs (xzr ∷ a ∷ 0 ∷ b ∷ 0 ∷ []) ∷ ins csel (d ∷ b ∷ condition compare.Gt signed ∷ a ∷ []) ∷ rest
operation_code binary.Max signed d a b rest = ins subs (xzr ∷ a ∷ 0 ∷ b ∷ 0 ∷ []) ∷ ins csel (d ∷ a ∷ condition compare.Gt signed ∷ b ∷ []) ∷ rest

abbrev pub binary_code : BinaryOp → Ty → ℕ → ℕ → ℕ → List DraftEntry → List DraftEntry
binary_code op t d a b rest = operation_code op (is_signed t) d a b (word_code (settle_word (binary_leaves op) t d) rest)

-- its contrary
abbrev pub contrary : ℕ → ℕ
contrary zero = 1
contrary (suc zero) = 0
contrary (suc (suc n)) = suc (suc (contrary n))

-- what a place wants, and no code where it wants nothing
abbrev pub at_type : Option Ty → (Ty → List DraftEntry) → List DraftEntry → List DraftEntry
at_type None code rest = rest
at_type (Some t) code rest = code t

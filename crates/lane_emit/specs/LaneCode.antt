-- The vector code of one item. A lane holds the value extended by its type and cut to the width of the element. P1 is all
-- true. An item's code writes the item's own register at once, extends it in place where it must, and reads no operand
-- after the first word that writes that register, so that it may be an operand's own.
use Rattle.std.specs.Prelude.{ℕ, ◌+◌, ◌-◌, ◌*◌, ◌/◌, ◌%◌, ℤ, Bool, true, false, List, [], ◌∷◌, min, nat_eq, nat_le, if◌then◌else◌}
use Rattle.guest_types.specs.declared.length.Width.{Width}
use Rattle.guest_types.specs.declared.length.Width.TheVariants.{D}
use Rattle.guest_types.specs.Length.{width_bits}
use Rattle.kernel_tree.specs.declared.ops.Ty.{Ty}
use Rattle.kernel_tree.specs.declared.ops.Ty.TheVariants as ty
use Rattle.kernel_tree.specs.declared.ops.UnaryOp.{UnaryOp}
use Rattle.kernel_tree.specs.declared.ops.UnaryOp.TheVariants as unary
use Rattle.kernel_tree.specs.declared.ops.BinaryOp.{BinaryOp}
use Rattle.kernel_tree.specs.declared.ops.BinaryOp.TheVariants as binary
use Rattle.kernel_tree.specs.declared.ops.CompareOp.{CompareOp}
use Rattle.kernel_tree.specs.declared.ops.CompareOp.TheVariants as compare
use Rattle.kernel_tree.specs.Wrap.{bits_of, is_signed}
use Rattle.kernel_meaning.specs.Operators.{shift_count}
use Rattle.sve_code.specs.Table.{Name, dup, index_row, p_and, p_bic, p_orr, sel, z_add, z_sub, z_and, z_orr, z_eor, lsl_imm, lsr_imm, asr_imm, m_smax, m_umax, m_smin, m_umin, m_mul, m_abs, m_neg, m_not, sxtb, uxtb, sxth, uxth, sxtw, uxtw, cmphs, cmphi, cmpge, cmpgt, cmpeq, cmpne}
use Rattle.label_fix.specs.Registers.{all_true}
pub use Rattle.kernel_meaning.specs.TypeValues.{unary_leaves, binary_leaves}
use Rattle.lane_emit.specs.Right.{fits}
use Rattle.lane_emit.specs.Stretch.{VectorInstruction, word}
pub use Rattle.guest_types.specs.LaneMemory.{size_of_width as size_of}

-- ---- shared pieces

-- d = a, and the words after; nothing where they are one register
abbrev pub z_copy : (d a : ℕ) → List VectorInstruction → List VectorInstruction
z_copy d a rest = if nat_eq d a then rest else word z_orr (d ∷ a ∷ a ∷ []) ∷ rest

-- the low bits of each lane, extended by a type that is narrower than the lane
abbrev pub extension : Ty → Width → (d a : ℕ) → List VectorInstruction
extension ty.I8 w d a = word sxtb (d ∷ a ∷ all_true ∷ size_of w ∷ []) ∷ []
extension ty.U8 w d a = word uxtb (d ∷ a ∷ all_true ∷ size_of w ∷ []) ∷ []
extension ty.I16 w d a = word sxth (d ∷ a ∷ all_true ∷ size_of w ∷ []) ∷ []
extension ty.U16 w d a = word uxth (d ∷ a ∷ all_true ∷ size_of w ∷ []) ∷ []
extension ty.I32 w d a = word sxtw (d ∷ a ∷ all_true ∷ []) ∷ []
extension ty.U32 w d a = word uxtw (d ∷ a ∷ all_true ∷ []) ∷ []
extension ty.I64 w d a = z_copy d a []
extension ty.U64 w d a = z_copy d a []

-- d = a, wrapped to a type; a lane that is no wider than the type needs nothing
abbrev pub z_extend : Width → Ty → (d a : ℕ) → List VectorInstruction
z_extend w t d a = if nat_le (width_bits w) (bits_of t) then z_copy d a [] else extension t w d a

-- d wrapped to a type, where it may not be extended by it
abbrev pub z_settle : Bool → Width → Ty → (d : ℕ) → List VectorInstruction
z_settle true w t d = z_extend w t d d
z_settle false w t d = []

-- ---- values that are held throughout

-- a general register in every lane
abbrev pub dup_code : Width → (d x : ℕ) → List VectorInstruction
dup_code w d x = word dup (d ∷ x ∷ size_of w ∷ []) ∷ []

-- the loop variable: that of the chunk's first lane is in a general register, and the lanes have doublewords
abbrev pub index_code : (d x : ℕ) → List VectorInstruction
index_code d x = word index_row (d ∷ x ∷ 1 ∷ size_of D ∷ []) ∷ []

-- ---- values

abbrev pub unary_code : Width → UnaryOp → Ty → (d a : ℕ) → List VectorInstruction
unary_code w unary.Neg t d a = word m_neg (d ∷ a ∷ all_true ∷ size_of w ∷ []) ∷ z_settle (unary_leaves unary.Neg t) w t d
unary_code w unary.Flip t d a = word m_not (d ∷ a ∷ all_true ∷ size_of w ∷ []) ∷ z_settle (unary_leaves unary.Flip t) w t d
unary_code w unary.Abs t d a = if is_signed t then word m_abs (d ∷ a ∷ all_true ∷ size_of w ∷ []) ∷ z_settle (unary_leaves unary.Abs t) w t d else z_copy d a []

-- an operation that changes its first operand, and whose operands may be exchanged
abbrev pub merged : Width → Name → (d a b : ℕ) → List VectorInstruction → List VectorInstruction
merged w name d a b rest =
    if nat_eq d b then word name (d ∷ a ∷ all_true ∷ size_of w ∷ []) ∷ rest else z_copy d a (word name (d ∷ b ∷ all_true ∷ size_of w ∷ []) ∷ rest)

abbrev pub least_name : Ty → Name
least_name t = if is_signed t then m_smin else m_umin

abbrev pub greatest_name : Ty → Name
greatest_name t = if is_signed t then m_smax else m_umax

abbrev pub binary_code : Width → BinaryOp → Ty → (d a b : ℕ) → List VectorInstruction
binary_code w binary.Add t d a b = word z_add (d ∷ a ∷ b ∷ size_of w ∷ []) ∷ z_settle (binary_leaves binary.Add) w t d
binary_code w binary.Sub t d a b = word z_sub (d ∷ a ∷ b ∷ size_of w ∷ []) ∷ z_settle (binary_leaves binary.Sub) w t d
binary_code w binary.Mul t d a b = merged w m_mul d a b (z_settle (binary_leaves binary.Mul) w t d)
binary_code w binary.And t d a b = word z_and (d ∷ a ∷ b ∷ []) ∷ z_settle (binary_leaves binary.And) w t d
binary_code w binary.Or t d a b = word z_orr (d ∷ a ∷ b ∷ []) ∷ z_settle (binary_leaves binary.Or) w t d
binary_code w binary.Xor t d a b = word z_eor (d ∷ a ∷ b ∷ []) ∷ z_settle (binary_leaves binary.Xor) w t d
binary_code w binary.Min t d a b = merged w (least_name t) d a b (z_settle (binary_leaves binary.Min) w t d)
binary_code w binary.Max t d a b = merged w (greatest_name t) d a b (z_settle (binary_leaves binary.Max) w t d)

-- a shift by the amount that tszh:tszl:imm3 spells
abbrev pub shift_word : Name → (d a amount : ℕ) → VectorInstruction
shift_word name d a amount = word name (d ∷ a ∷ amount % 8 ∷ amount / 8 % 4 ∷ amount / 32 ∷ [])

abbrev pub right_by : Bool → Name
right_by signed = if signed then asr_imm else lsr_imm

abbrev pub right_name : Ty → Name
right_name t = right_by (is_signed t)

-- a count that a lane can be shifted by: that of a checked shift is one
abbrev pub lane_count : Width → ℕ → ℕ
lane_count w c = min c (width_bits w - 1)

-- a shift to the left, or to the right, by a count below the width of the lane
abbrev pub shift_by : Width → Bool → ℕ → Ty → (d a : ℕ) → List VectorInstruction
shift_by w true c t d a = shift_word lsl_imm d a (width_bits w + c) ∷ z_settle true w t d
shift_by w false c t d a = if nat_eq c 0 then z_copy d a [] else shift_word (right_name t) d a (2 * width_bits w - c) ∷ []

abbrev pub shift_code : Width → Bool → ℤ → Ty → (d a : ℕ) → List VectorInstruction
shift_code w left n t d a = shift_by w left (lane_count w (shift_count n)) t d a

-- a value of type s as one of type t
abbrev pub cast_code : Width → (s t : Ty) → (d a : ℕ) → List VectorInstruction
cast_code w s t d a = if fits s t then z_copy d a [] else z_extend w t d a

-- the value of a `let`
abbrev pub copy_code : (d a : ℕ) → List VectorInstruction
copy_code d a = z_copy d a []

-- that of a where p is true, else that of b
abbrev pub pick_code : Width → (d p a b : ℕ) → List VectorInstruction
pick_code w d p a b = word sel (d ∷ a ∷ p ∷ b ∷ size_of w ∷ []) ∷ []

-- ---- conditions, each under the mask m and false outside it

abbrev pub compare_word : Width → Name → (d m a b : ℕ) → VectorInstruction
compare_word w name d m a b = word name (d ∷ a ∷ m ∷ b ∷ size_of w ∷ [])

abbrev pub greater_name : Ty → Name
greater_name t = if is_signed t then cmpgt else cmphi

abbrev pub greater_or_same_name : Ty → Name
greater_or_same_name t = if is_signed t then cmpge else cmphs

-- of values of a type; for < and <= the operands are exchanged
abbrev pub test_code : Width → CompareOp → Ty → (d m a b : ℕ) → List VectorInstruction
test_code w compare.Eq t d m a b = compare_word w cmpeq d m a b ∷ []
test_code w compare.Ne t d m a b = compare_word w cmpne d m a b ∷ []
test_code w compare.Lt t d m a b = compare_word w (greater_name t) d m b a ∷ []
test_code w compare.Le t d m a b = compare_word w (greater_or_same_name t) d m b a ∷ []
test_code w compare.Gt t d m a b = compare_word w (greater_name t) d m a b ∷ []
test_code w compare.Ge t d m a b = compare_word w (greater_or_same_name t) d m a b ∷ []

-- not c
abbrev pub invert_code : (d m c : ℕ) → List VectorInstruction
invert_code d m c = word p_bic (d ∷ m ∷ m ∷ c ∷ []) ∷ []

-- b, which was made where the first of the two holds
abbrev pub same_code : (d m b : ℕ) → List VectorInstruction
same_code d m b = word p_and (d ∷ b ∷ m ∷ b ∷ []) ∷ []

-- one of two
abbrev pub any_code : (d m a b : ℕ) → List VectorInstruction
any_code d m a b = word p_orr (d ∷ a ∷ m ∷ b ∷ []) ∷ []

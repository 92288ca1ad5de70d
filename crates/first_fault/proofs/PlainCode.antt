-- The code of an item that is no read has no load.
use Rattle.std.proofs.Common.{◌≡◌, ℕ, ◌-◌, ◌*◌, Bool, true, false, List, [], ◌∷◌, Some, refl}
use Rattle.std.specs.Prelude.{if◌then◌else◌, nat_eq, nat_le}
use Rattle.guest_types.specs.declared.length.Width.{Width}
use Rattle.guest_types.specs.Length.{width_bits}
use Rattle.kernel_tree.specs.declared.ops.Ty.{Ty}
use Rattle.kernel_tree.specs.declared.ops.Ty.TheVariants as ty
use Rattle.kernel_tree.specs.declared.ops.UnaryOp.{UnaryOp}
use Rattle.kernel_tree.specs.declared.ops.UnaryOp.TheVariants as unary
use Rattle.kernel_tree.specs.declared.ops.BinaryOp.{BinaryOp}
use Rattle.kernel_tree.specs.declared.ops.BinaryOp.TheVariants as binary
use Rattle.kernel_tree.specs.declared.ops.CompareOp.{CompareOp}
use Rattle.kernel_tree.specs.declared.ops.CompareOp.TheVariants as compare
use Rattle.kernel_tree.specs.Wrap.{bits_of, is_signed}
use Rattle.kernel_meaning.specs.Operators.{shift_count}
use Rattle.sve_code.specs.Table.{Name, lsl_imm, lsr_imm, asr_imm, m_smax, m_umax, m_smin, m_umin, m_mul, cmphs, cmphi, cmpge, cmpgt}
use Rattle.machine_model.specs.Machine.{State}
use Rattle.machine_model.specs.OneStep.{cuts_in}
use Rattle.machine_model.specs.InstructionTable.{Vector}
use Rattle.loop_form.specs.LoopItems.{Op}
use Rattle.loop_form.specs.LoopItems as ops
use Rattle.lane_emit.specs.Right.{fits}
use Rattle.lane_emit.specs.Stretch.{VectorInstruction, word}
use Rattle.lane_emit.specs.ItemCode.{Registers, op_code}
use Rattle.lane_emit.specs.LaneCode.{lane_count, unary_leaves, binary_leaves, size_of, z_copy, extension, z_extend, z_settle, unary_code, merged, least_name, greatest_name, binary_code, shift_by, shift_word, cast_code, test_code}
use Rattle.first_fault.proofs.Stretches.{Plain, plain_none, plain_more}

either_plain : (b : Bool) {c e : List VectorInstruction} → Plain c → Plain e → Plain (if b then c else e)
either_plain true h k = h
either_plain false h k = k

one_of : (b : Bool) (m n : Name) (ns : List ℕ) (s : State) → cuts_in (Vector (word m ns)) s ≡ false → cuts_in (Vector (word n ns)) s ≡ false → cuts_in (Vector (word (if b then m else n) ns)) s ≡ false
one_of true m n ns s h k = h
one_of false m n ns s h k = k

copy_plain : (d a : ℕ) {rest : List VectorInstruction} → Plain rest → Plain (z_copy d a rest)
copy_plain d a h = either_plain (nat_eq d a) h (plain_more (λ s. refl) h)

extension_plain : (t : Ty) (w : Width) (d a : ℕ) → Plain (extension t w d a)
extension_plain ty.I8 w d a = plain_more (λ s. refl) plain_none
extension_plain ty.U8 w d a = plain_more (λ s. refl) plain_none
extension_plain ty.I16 w d a = plain_more (λ s. refl) plain_none
extension_plain ty.U16 w d a = plain_more (λ s. refl) plain_none
extension_plain ty.I32 w d a = plain_more (λ s. refl) plain_none
extension_plain ty.U32 w d a = plain_more (λ s. refl) plain_none
extension_plain ty.I64 w d a = copy_plain d a plain_none
extension_plain ty.U64 w d a = copy_plain d a plain_none

extend_plain : (w : Width) (t : Ty) (d a : ℕ) → Plain (z_extend w t d a)
extend_plain w t d a = either_plain (nat_le (width_bits w) (bits_of t)) (copy_plain d a plain_none) (extension_plain t w d a)

settle_plain : (b : Bool) (w : Width) (t : Ty) (d : ℕ) → Plain (z_settle b w t d)
settle_plain true w t d = extend_plain w t d d
settle_plain false w t d = plain_none

unary_plain : (w : Width) (op : UnaryOp) (t : Ty) (d a : ℕ) → Plain (unary_code w op t d a)
unary_plain w unary.Neg t d a = plain_more (λ s. refl) (settle_plain (unary_leaves unary.Neg t) w t d)
unary_plain w unary.Flip t d a = plain_more (λ s. refl) (settle_plain (unary_leaves unary.Flip t) w t d)
unary_plain w unary.Abs t d a = either_plain (is_signed t) (plain_more (λ s. refl) (settle_plain (unary_leaves unary.Abs t) w t d)) (copy_plain d a plain_none)

merged_plain : (w : Width) (name : Name) (d a b : ℕ) {rest : List VectorInstruction} → ((ns : List ℕ) (s : State) → cuts_in (Vector (word name ns)) s ≡ false) → Plain rest → Plain (merged w name d a b rest)
merged_plain w name d a b h rest = either_plain (nat_eq d b) (plain_more (h (d ∷ a ∷ 1 ∷ size_of w ∷ [])) rest) (copy_plain d a (plain_more (h (d ∷ b ∷ 1 ∷ size_of w ∷ [])) rest))

binary_plain : (w : Width) (op : BinaryOp) (t : Ty) (d a b : ℕ) → Plain (binary_code w op t d a b)
binary_plain w binary.Add t d a b = plain_more (λ s. refl) (settle_plain (binary_leaves binary.Add) w t d)
binary_plain w binary.Sub t d a b = plain_more (λ s. refl) (settle_plain (binary_leaves binary.Sub) w t d)
binary_plain w binary.Mul t d a b = merged_plain w m_mul d a b (λ ns s. refl) (settle_plain (binary_leaves binary.Mul) w t d)
binary_plain w binary.And t d a b = plain_more (λ s. refl) (settle_plain (binary_leaves binary.And) w t d)
binary_plain w binary.Or t d a b = plain_more (λ s. refl) (settle_plain (binary_leaves binary.Or) w t d)
binary_plain w binary.Xor t d a b = plain_more (λ s. refl) (settle_plain (binary_leaves binary.Xor) w t d)
binary_plain w binary.Min t d a b = merged_plain w (least_name t) d a b (λ ns s. one_of (is_signed t) m_smin m_umin ns s refl refl) (settle_plain (binary_leaves binary.Min) w t d)
binary_plain w binary.Max t d a b = merged_plain w (greatest_name t) d a b (λ ns s. one_of (is_signed t) m_smax m_umax ns s refl refl) (settle_plain (binary_leaves binary.Max) w t d)

shift_plain : (w : Width) (left : Bool) (c : ℕ) (t : Ty) (d a : ℕ) → Plain (shift_by w left c t d a)
shift_plain w true c t d a = plain_more (λ s. refl) (settle_plain true w t d)
shift_plain w false c t d a = either_plain (nat_eq c 0) (copy_plain d a plain_none) (plain_more (λ s. one_of (is_signed t) asr_imm lsr_imm (shift_word lsl_imm d a (2 * width_bits w - c)).numbers s refl refl) plain_none)

cast_plain : (w : Width) (s t : Ty) (d a : ℕ) → Plain (cast_code w s t d a)
cast_plain w s t d a = either_plain (fits s t) (copy_plain d a plain_none) (extend_plain w t d a)

test_plain : (w : Width) (op : CompareOp) (t : Ty) (d m a b : ℕ) → Plain (test_code w op t d m a b)
test_plain w compare.Eq t d m a b = plain_more (λ s. refl) plain_none
test_plain w compare.Ne t d m a b = plain_more (λ s. refl) plain_none
test_plain w compare.Lt t d m a b = plain_more (λ s. one_of (is_signed t) cmpgt cmphi (d ∷ b ∷ m ∷ a ∷ size_of w ∷ []) s refl refl) plain_none
test_plain w compare.Le t d m a b = plain_more (λ s. one_of (is_signed t) cmpge cmphs (d ∷ b ∷ m ∷ a ∷ size_of w ∷ []) s refl refl) plain_none
test_plain w compare.Gt t d m a b = plain_more (λ s. one_of (is_signed t) cmpgt cmphi (d ∷ a ∷ m ∷ b ∷ size_of w ∷ []) s refl refl) plain_none
test_plain w compare.Ge t d m a b = plain_more (λ s. one_of (is_signed t) cmpge cmphs (d ∷ a ∷ m ∷ b ∷ size_of w ∷ []) s refl refl) plain_none

pub op_plain : (w : Width) (r : Registers) (q m : ℕ) (op : Op) → Plain (op_code w r q m op)
op_plain w r q m (ops.Unary op (Some t) x) = unary_plain w op t (r.z q) (r.source x)
op_plain w r q m (ops.Binary op (Some t) x y) = binary_plain w op t (r.z q) (r.source x) (r.source y)
op_plain w r q m (ops.Shift left k (Some t) x) = shift_plain w left (lane_count w (shift_count k)) t (r.z q) (r.source x)
op_plain w r q m (ops.Cast (Some t) to x) = cast_plain w t to (r.z q) (r.source x)
op_plain w r q m (ops.Let t x) = copy_plain (r.z q) (r.source x) plain_none
op_plain w r q m (ops.Select t c x y) = plain_more (λ s. refl) plain_none
op_plain w r q m (ops.Compare op (Some t) x y) = test_plain w op t (r.p q) m (r.source x) (r.source y)
op_plain w r q m (ops.Not c) = plain_more (λ s. refl) plain_none
op_plain w r q m (ops.And c) = plain_more (λ s. refl) plain_none
op_plain w r q m (ops.Or c d) = plain_more (λ s. refl) plain_none
op_plain w r q m other = plain_none

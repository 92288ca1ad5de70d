-- The vector words of items write no general register.
use Rattle.std.proofs.Common.{◌≡◌, ℕ, ◌*◌, ◌-◌, Bool, true, false, List, [], ◌∷◌, Some, None, refl}
use Rattle.std.specs.Prelude.{nat_eq, nat_le, if◌then◌else◌}
use Rattle.guest_types.specs.declared.length.Width.{Width}
use Rattle.guest_types.specs.Length.{width_bits}
use Rattle.kernel_tree.specs.declared.ops.Ty.{Ty}
use Rattle.kernel_tree.specs.declared.ops.Ty.TheVariants as ty
use Rattle.kernel_tree.specs.declared.ops.UnaryOp.{UnaryOp}
use Rattle.kernel_tree.specs.declared.ops.UnaryOp.TheVariants as unary
use Rattle.kernel_tree.specs.declared.ops.BinaryOp.{BinaryOp}
use Rattle.kernel_tree.specs.declared.ops.BinaryOp.TheVariants as binary
use Rattle.kernel_tree.specs.declared.ops.CompareOp.{CompareOp}
use Rattle.kernel_tree.specs.declared.ops.CompareOp.TheVariants as compare
use Rattle.kernel_tree.specs.declared.ops.UpdateOp.{UpdateOp}
use Rattle.kernel_tree.specs.declared.ops.UpdateOp.TheVariants as update
use Rattle.kernel_tree.specs.Wrap.{bits_of, is_signed}
use Rattle.kernel_meaning.specs.Operators.{shift_count}
use Rattle.sve_code.specs.Table.{Name, z_orr, m_abs, m_mul}
use Rattle.machine_model.specs.Frames.{x_field}
use Rattle.loop_form.specs.LoopItems.{Op}
use Rattle.loop_form.specs.LoopItems as ops
use Rattle.lane_emit.specs.Right.{fits}
use Rattle.lane_emit.specs.Stretch.{VectorInstruction, word}
use Rattle.lane_emit.specs.LaneCode.{size_of, z_copy, extension, z_extend, z_settle, unary_leaves, binary_leaves, unary_code, merged, least_name, greatest_name, binary_code, shift_word, right_name, lane_count, shift_by, cast_code, greater_name, greater_or_same_name, test_code}
use Rattle.lane_emit.specs.ItemCode.{Registers, op_code}
use Rattle.lane_emit.specs.AccumulatorLanes.{update_name}
use Rattle.vector_emit.proofs.FromBelow.{reduce_name}

abbrev pub AreQuiet : List VectorInstruction → Type 0
AreQuiet [] = Unit {0}
AreQuiet (v ∷ vs) = (x_field v.name ≡ None) × AreQuiet vs

-- ---- names that are chosen by a type

least_quiet : (t : Ty) → x_field (least_name t) ≡ None
least_quiet ty.I8 = refl
least_quiet other = refl

greatest_quiet : (t : Ty) → x_field (greatest_name t) ≡ None
greatest_quiet ty.I8 = refl
greatest_quiet other = refl

right_quiet : (t : Ty) → x_field (right_name t) ≡ None
right_quiet ty.I8 = refl
right_quiet other = refl

greater_quiet : (t : Ty) → x_field (greater_name t) ≡ None
greater_quiet ty.I8 = refl
greater_quiet other = refl

greater_or_same_quiet : (t : Ty) → x_field (greater_or_same_name t) ≡ None
greater_or_same_quiet ty.I8 = refl
greater_or_same_quiet other = refl

pub update_quiet : (op : UpdateOp) (t : Ty) → x_field (update_name op t) ≡ None
update_quiet update.Min ty.I8 = refl
update_quiet update.Min other = refl
update_quiet update.Max ty.I8 = refl
update_quiet update.Max other = refl
update_quiet other t = refl

pub reduce_quiet : (op : UpdateOp) (t : Ty) → x_field (reduce_name op t) ≡ None
reduce_quiet update.Min ty.I8 = refl
reduce_quiet update.Min other = refl
reduce_quiet update.Max ty.I8 = refl
reduce_quiet update.Max other = refl
reduce_quiet other t = refl

-- ---- pieces

either_quiet : (b : Bool) (xs ys : List VectorInstruction) → AreQuiet xs → AreQuiet ys → AreQuiet (if b then xs else ys)
either_quiet true xs ys h k = h
either_quiet false xs ys h k = k

copy_quiet : (d a : ℕ) (rest : List VectorInstruction) → AreQuiet rest → AreQuiet (z_copy d a rest)
copy_quiet d a rest h = either_quiet (nat_eq d a) rest (word z_orr (d ∷ a ∷ a ∷ []) ∷ rest) h (refl, h)

extension_quiet : (t : Ty) (w : Width) (d a : ℕ) → AreQuiet (extension t w d a)
extension_quiet ty.I64 w d a = copy_quiet d a [] tt
extension_quiet ty.U64 w d a = copy_quiet d a [] tt
extension_quiet other w d a = (refl, tt)

extend_quiet : (w : Width) (t : Ty) (d a : ℕ) → AreQuiet (z_extend w t d a)
extend_quiet w t d a = either_quiet (nat_le (width_bits w) (bits_of t)) (z_copy d a []) (extension t w d a) (copy_quiet d a [] tt) (extension_quiet t w d a)

settle_quiet : (b : Bool) (w : Width) (t : Ty) (d : ℕ) → AreQuiet (z_settle b w t d)
settle_quiet true w t d = extend_quiet w t d d
settle_quiet false w t d = tt

unary_quiet : (w : Width) (op : UnaryOp) (t : Ty) (d a : ℕ) → AreQuiet (unary_code w op t d a)
unary_quiet w unary.Neg t d a = (refl, settle_quiet (unary_leaves unary.Neg t) w t d)
unary_quiet w unary.Flip t d a = (refl, settle_quiet (unary_leaves unary.Flip t) w t d)
unary_quiet w unary.Abs t d a =
    either_quiet (is_signed t) (word m_abs (d ∷ a ∷ 1 ∷ size_of w ∷ []) ∷ z_settle (unary_leaves unary.Abs t) w t d) (z_copy d a []) (refl, settle_quiet (unary_leaves unary.Abs t) w t d) (copy_quiet d a [] tt)

merged_quiet : (w : Width) (name : Name) (d a b : ℕ) (rest : List VectorInstruction) → x_field name ≡ None → AreQuiet rest → AreQuiet (merged w name d a b rest)
merged_quiet w name d a b rest e h =
    let second = word name (d ∷ b ∷ 1 ∷ size_of w ∷ []) ∷ rest in
    either_quiet (nat_eq d b) (word name (d ∷ a ∷ 1 ∷ size_of w ∷ []) ∷ rest) (z_copy d a second) (e, h) (copy_quiet d a second (e, h))

binary_quiet : (w : Width) (op : BinaryOp) (t : Ty) (d a b : ℕ) → AreQuiet (binary_code w op t d a b)
binary_quiet w binary.Mul t d a b = merged_quiet w m_mul d a b (z_settle (binary_leaves binary.Mul) w t d) refl (settle_quiet (binary_leaves binary.Mul) w t d)
binary_quiet w binary.Min t d a b = merged_quiet w (least_name t) d a b (z_settle (binary_leaves binary.Min) w t d) (least_quiet t) (settle_quiet (binary_leaves binary.Min) w t d)
binary_quiet w binary.Max t d a b = merged_quiet w (greatest_name t) d a b (z_settle (binary_leaves binary.Max) w t d) (greatest_quiet t) (settle_quiet (binary_leaves binary.Max) w t d)
binary_quiet w other t d a b = (refl, settle_quiet (binary_leaves other) w t d)

shift_quiet : (w : Width) (left : Bool) (c : ℕ) (t : Ty) (d a : ℕ) → AreQuiet (shift_by w left c t d a)
shift_quiet w true c t d a = (refl, settle_quiet true w t d)
shift_quiet w false c t d a = either_quiet (nat_eq c 0) (z_copy d a []) (shift_word (right_name t) d a (2 * width_bits w - c) ∷ []) (copy_quiet d a [] tt) (right_quiet t, tt)

cast_quiet : (w : Width) (s t : Ty) (d a : ℕ) → AreQuiet (cast_code w s t d a)
cast_quiet w s t d a = either_quiet (fits s t) (z_copy d a []) (z_extend w t d a) (copy_quiet d a [] tt) (extend_quiet w t d a)

test_quiet : (w : Width) (op : CompareOp) (t : Ty) (d m a b : ℕ) → AreQuiet (test_code w op t d m a b)
test_quiet w compare.Eq t d m a b = (refl, tt)
test_quiet w compare.Ne t d m a b = (refl, tt)
test_quiet w compare.Lt t d m a b = (greater_quiet t, tt)
test_quiet w compare.Le t d m a b = (greater_or_same_quiet t, tt)
test_quiet w compare.Gt t d m a b = (greater_quiet t, tt)
test_quiet w compare.Ge t d m a b = (greater_or_same_quiet t, tt)

-- the code of an operation that is none of a read, a store, an update and a break
pub op_quiet : (w : Width) (r : Registers) (q m : ℕ) (op : Op) → AreQuiet (op_code w r q m op)
op_quiet w r q m (ops.Unary op (Some t) x) = unary_quiet w op t (r.z q) (r.source x)
op_quiet w r q m (ops.Binary op (Some t) x y) = binary_quiet w op t (r.z q) (r.source x) (r.source y)
op_quiet w r q m (ops.Shift left k (Some t) x) = shift_quiet w left (lane_count w (shift_count k)) t (r.z q) (r.source x)
op_quiet w r q m (ops.Cast (Some t) to x) = cast_quiet w t to (r.z q) (r.source x)
op_quiet w r q m (ops.Let t x) = copy_quiet (r.z q) (r.source x) [] tt
op_quiet w r q m (ops.Select t c x y) = (refl, tt)
op_quiet w r q m (ops.Compare op (Some t) x y) = test_quiet w op t (r.p q) m (r.source x) (r.source y)
op_quiet w r q m (ops.Not c) = (refl, tt)
op_quiet w r q m (ops.And c) = (refl, tt)
op_quiet w r q m (ops.Or c d) = (refl, tt)
op_quiet w r q m other = tt

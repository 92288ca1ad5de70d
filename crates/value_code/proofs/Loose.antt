-- What is computed of a value of which only low bits are asked for, and that it agrees with the value in these.
use Rattle.std.proofs.Common.{◌≡◌, ℕ, ◌+◌, ◌-◌, ◌*◌, ◌%◌, ◌^◌, ◌<◌, Bool, true, false, List, Option, Some, None, refl, sym, ap, ap₂, ◌∙◌, subst, arith, ltb}
use Rattle.std.specs.Prelude.{ℤ, pos, ◌+ℤ◌, ◌-ℤ◌, ◌*ℤ◌, neg_ℤ, option_map, bit_and, bit_or, bit_xor}
use Rattle.std.proofs.lemmas.Nat.{mul-mod, and_mod, or_mod, xor_mod}
use Rattle.std.proofs.lemmas.Bool.{ltb-true, ltb-false, and_parts}
use Rattle.std.specs.Int.{w8, w16, w32, w64, cast_signed}
use Rattle.guest_types.specs.Memory.{Memory}
use Rattle.kernel_tree.specs.declared.ops.Ty.{Ty}
use Rattle.kernel_tree.specs.declared.ops.UnaryOp.{UnaryOp}
use Rattle.kernel_tree.specs.declared.ops.BinaryOp.{BinaryOp}
use Rattle.kernel_tree.specs.Plain.{Term, Literal, Variable, Element, Unary, Operation, Shift, Conversion, Choice, Comparison, Both, Either, Not}
use Rattle.kernel_tree.specs.Typing.{Scope, own}
use Rattle.kernel_tree.specs.Wrap.{wrap, residue, bits_of}
use Rattle.kernel_meaning.specs.Operators.{word, wrapped, unary_on, binary_on, shift_on, shift_count, unary_value, binary_value, shift_value}
use Rattle.kernel_meaning.specs.TypeValues.{IsOf, binary_leaves}
use Rattle.kernel_meaning.specs.Ranges.{AreRanged}
use Rattle.kernel_meaning.specs.Eval.{Names, value_at, on_both, chosen, choose_value, value, holds}
use Rattle.kernel_meaning.proofs.Residues.{word-add, word-mul, word-below, residue-8, residue-16, residue-32, word-neg}
use Rattle.kernel_meaning.proofs.TypeRanges.{wrap-of, of-fits}
use Rattle.kernel_meaning.proofs.ValueRanges.{value_range}
use Rattle.value_bounds.proofs.InBounds.{AreTyped, is_typed}
use Rattle.value_code.specs.declared.extent.Extent.{Extent}
use Rattle.value_code.specs.Extents.{Low8, Low16, Low32, Whole, extent_of, within_type, within, unary_joins, operand_extent, asked_extent, binary_extent, fits_at, cast_extent, converted_extent}
use Rattle.value_code.specs.Leaving.{unary_may_leave, binary_may_leave, shift_may_leave, unary_asks, binary_asks, shift_asks}
use Rattle.scalar_words.specs.Operands.{binary_joins}
use Rattle.scalar_words.specs.Layout.{Form, LowBits, Ahead, Behind, Loose, loose_in}
use Rattle.scalar_words.proofs.LayoutStates.{Tells, Told}
use Rattle.scalar_words.proofs.Told.{tells_itself, told_at}
use Rattle.value_code.specs.Covers.{is_enough, covers}
use Rattle.kernel_tree.specs.declared.ops.Ty.TheVariants as ty
use Rattle.kernel_tree.specs.declared.ops.UnaryOp.TheVariants as unary
use Rattle.kernel_tree.specs.declared.ops.BinaryOp.TheVariants as binary

abbrev pub bits : Extent → ℕ
bits Low8 = 8
bits Low16 = 16
bits Low32 = 32
bits Whole = 64

-- two integers agree: in the low bits, or wholly
abbrev pub Agrees : Extent → ℤ → ℤ → Type 0
Agrees Low8 z v = word z % 2 ^ 8 ≡ word v % 2 ^ 8
Agrees Low16 z v = word z % 2 ^ 16 ≡ word v % 2 ^ 16
Agrees Low32 z v = word z % 2 ^ 32 ≡ word v % 2 ^ 32
Agrees Whole z v = z ≡ v

-- the same of what expressions give, where a read may fault
abbrev pub Agreed : Extent → Option ℤ → Option ℤ → Type 0
Agreed w None None = Unit {0}
Agreed w (Some z) (Some v) = Agrees w z v
Agreed w None (Some v) = ⊥
Agreed w (Some z) None = ⊥

-- the result of an operator: as it is, where low bits are asked of one that joins them, else wrapped
abbrev pub settled : (low joins : Bool) → Option Ty → ℤ → ℤ
settled true true want z = z
settled true false want z = wrapped want z
settled false joins want z = wrapped want z

abbrev pub loose_binary : BinaryOp → Extent → Option Ty → ℤ → ℤ → ℤ
loose_binary op w want x y = settled (within w want) (binary_joins op) want (binary_on op x y)

abbrev pub loose_unary : UnaryOp → Extent → Option Ty → ℤ → ℤ
loose_unary op w want x = settled (within w want) (unary_joins op) want (unary_on op x)

abbrev pub loose_shift : Bool → ℤ → Extent → Option Ty → ℤ → ℤ
loose_shift left n w want x = settled (within w want) left want (shift_on left (shift_count n) x)

abbrev pub loose_cast : (low fit : Bool) → Ty → ℤ → ℤ
loose_cast true fit t z = z
loose_cast false true t z = z
loose_cast false false t z = wrap t z

-- ---- the low bits of words

-- the words of two integers agree in as many low bits as a number says
abbrev pub Alike : ℕ → ℤ → ℤ → Type 0
Alike k z v = word z % 2 ^ k ≡ word v % 2 ^ k

pub alike_of_agrees : (w : Extent) (z v : ℤ) → Agrees w z v → Alike (bits w) z v
alike_of_agrees Low8 z v h = h
alike_of_agrees Low16 z v h = h
alike_of_agrees Low32 z v h = h
alike_of_agrees Whole z v h = ap (λ n. word n % 2 ^ 64) h

-- low bits of a number below 2^64 or not
residue_of_bits : (w : Extent) (n : ℕ) → n % 2 ^ 64 % 2 ^ bits w ≡ n % 2 ^ bits w
residue_of_bits Low8 n = omega arith
residue_of_bits other n = omega arith

sum-low : (w : Extent) (a b c d : ℕ) → a % 2 ^ bits w ≡ c % 2 ^ bits w → b % 2 ^ bits w ≡ d % 2 ^ bits w → (a + b) % 2 ^ bits w ≡ (c + d) % 2 ^ bits w
sum-low Low8 a b c d p q = omega (arith, p, q)
sum-low other a b c d p q = omega (arith, p, q)

add-alike : (w : Extent) (x y u v : ℤ) → Alike (bits w) x u → Alike (bits w) y v → Alike (bits w) (x +ℤ y) (u +ℤ v)
add-alike w x y u v p q =
    ap (λ n. n % 2 ^ bits w) (word-add x y) ∙ residue_of_bits w (word x + word y) ∙ sum-low w (word x) (word y) (word u) (word v) p q ∙ sym (residue_of_bits w (word u + word v)) ∙ ap (λ n. n % 2 ^ bits w) (sym (word-add u v))

mul-alike : (w : Extent) (x y u v : ℤ) → Alike (bits w) x u → Alike (bits w) y v → Alike (bits w) (x *ℤ y) (u *ℤ v)
mul-alike w x y u v p q =
    ap (λ n. n % 2 ^ bits w) (word-mul x y) ∙ residue_of_bits w (word x * word y) ∙ mul-mod (word x) (word y) (2 ^ bits w) ∙ ap₂ (λ m n. m * n % 2 ^ bits w) p q ∙ sym (mul-mod (word u) (word v) (2 ^ bits w))
    ∙ sym (residue_of_bits w (word u * word v)) ∙ ap (λ n. n % 2 ^ bits w) (sym (word-mul u v))

neg-low : (w : Extent) (a c : ℕ) → a < 2 ^ 64 → c < 2 ^ 64 → a % 2 ^ bits w ≡ c % 2 ^ bits w → (2 ^ 64 - a) % 2 ^ bits w ≡ (2 ^ 64 - c) % 2 ^ bits w
neg-low Low8 a c la lc p = omega (arith, p, la, lc)
neg-low other a c la lc p = omega (arith, p, la, lc)

neg-alike : (w : Extent) (x u : ℤ) → Alike (bits w) x u → Alike (bits w) (neg_ℤ x) (neg_ℤ u)
neg-alike w x u p =
    ap (λ n. n % 2 ^ bits w) (word-neg x) ∙ residue_of_bits w (2 ^ 64 - word x) ∙ neg-low w (word x) (word u) (word-below x) (word-below u) p ∙ sym (residue_of_bits w (2 ^ 64 - word u)) ∙ ap (λ n. n % 2 ^ bits w) (sym (word-neg u))

sub-alike : (w : Extent) (x y u v : ℤ) → Alike (bits w) x u → Alike (bits w) y v → Alike (bits w) (x -ℤ y) (u -ℤ v)
sub-alike w x y u v p q = add-alike w x (neg_ℤ y) u (neg_ℤ v) p (neg-alike w y v q)

and-alike : (w : Extent) (x y u v : ℤ) → Alike (bits w) x u → Alike (bits w) y v → Alike (bits w) (pos (bit_and (word x) (word y))) (pos (bit_and (word u) (word v)))
and-alike w x y u v p q =
    residue_of_bits w (bit_and (word x) (word y)) ∙ and_mod (word x) (word y) (bits w) ∙ ap₂ bit_and p q ∙ sym (and_mod (word u) (word v) (bits w)) ∙ sym (residue_of_bits w (bit_and (word u) (word v)))

or-alike : (w : Extent) (x y u v : ℤ) → Alike (bits w) x u → Alike (bits w) y v → Alike (bits w) (pos (bit_or (word x) (word y))) (pos (bit_or (word u) (word v)))
or-alike w x y u v p q =
    residue_of_bits w (bit_or (word x) (word y)) ∙ or_mod (word x) (word y) (bits w) ∙ ap₂ bit_or p q ∙ sym (or_mod (word u) (word v) (bits w)) ∙ sym (residue_of_bits w (bit_or (word u) (word v)))

xor-alike : (w : Extent) (x y u v : ℤ) → Alike (bits w) x u → Alike (bits w) y v → Alike (bits w) (pos (bit_xor (word x) (word y))) (pos (bit_xor (word u) (word v)))
xor-alike w x y u v p q =
    residue_of_bits w (bit_xor (word x) (word y)) ∙ xor_mod (word x) (word y) (bits w) ∙ ap₂ bit_xor p q ∙ sym (xor_mod (word u) (word v) (bits w)) ∙ sym (residue_of_bits w (bit_xor (word u) (word v)))

pub binary-alike : (op : BinaryOp) (w : Extent) (x y u v : ℤ) → binary_joins op ≡ true → Alike (bits w) x u → Alike (bits w) y v → Alike (bits w) (binary_on op x y) (binary_on op u v)
binary-alike binary.Add w x y u v j p q = add-alike w x y u v p q
binary-alike binary.Sub w x y u v j p q = sub-alike w x y u v p q
binary-alike binary.Mul w x y u v j p q = mul-alike w x y u v p q
binary-alike binary.And w x y u v j p q = and-alike w x y u v p q
binary-alike binary.Or w x y u v j p q = or-alike w x y u v p q
binary-alike binary.Xor w x y u v j p q = xor-alike w x y u v p q
binary-alike binary.Min w x y u v j p q = absurd cc
binary-alike binary.Max w x y u v j p q = absurd cc

pub unary-alike : (op : UnaryOp) (w : Extent) (x u : ℤ) → unary_joins op ≡ true → Alike (bits w) x u → Alike (bits w) (unary_on op x) (unary_on op u)
unary-alike unary.Neg w x u j p = neg-alike w x u p
unary-alike unary.Flip w x u j p = sub-alike w (neg_ℤ x) (pos 1) (neg_ℤ u) (pos 1) (neg-alike w x u p) refl
unary-alike unary.Abs w x u j p = absurd cc

-- ---- wrapping

-- a value of a type is told by the bits of the type
pub wrap-alike : (t : Ty) (z v : ℤ) → Alike (bits (extent_of t)) z v → wrap t z ≡ wrap t v
wrap-alike ty.I8 a b e = let h : residue 8 a ≡ residue 8 b = residue-8 a ∙ e ∙ sym (residue-8 b) in cc
wrap-alike ty.U8 a b e = let h : residue 8 a ≡ residue 8 b = residue-8 a ∙ e ∙ sym (residue-8 b) in cc
wrap-alike ty.I16 a b e = let h : residue 16 a ≡ residue 16 b = residue-16 a ∙ e ∙ sym (residue-16 b) in cc
wrap-alike ty.U16 a b e = let h : residue 16 a ≡ residue 16 b = residue-16 a ∙ e ∙ sym (residue-16 b) in cc
wrap-alike ty.I32 a b e = let h : residue 32 a ≡ residue 32 b = residue-32 a ∙ e ∙ sym (residue-32 b) in cc
wrap-alike ty.U32 a b e = let h : residue 32 a ≡ residue 32 b = residue-32 a ∙ e ∙ sym (residue-32 b) in cc
wrap-alike ty.I64 a b e = let p = word-below a in let q = word-below b in let h : word a ≡ word b = omega (arith, e, p, q) in cc
wrap-alike ty.U64 a b e = let p = word-below a in let q = word-below b in let h : word a ≡ word b = omega (arith, e, p, q) in cc

signed_8 : (b : Bool) (m : ℕ) → ltb m (2 ^ 7) ≡ b → m < 2 ^ 8 → word (cast_signed w8 m) % 2 ^ 8 ≡ m
signed_8 true m e h = rw e (omega (arith, ltb-true m (2 ^ 7) e))
signed_8 false m e h = rw e (omega (arith, ltb-false m (2 ^ 7) e, h))

signed_16 : (b : Bool) (m : ℕ) → ltb m (2 ^ 15) ≡ b → m < 2 ^ 16 → word (cast_signed w16 m) % 2 ^ 16 ≡ m
signed_16 true m e h = rw e (omega (arith, ltb-true m (2 ^ 15) e))
signed_16 false m e h = rw e (omega (arith, ltb-false m (2 ^ 15) e, h))

signed_32 : (b : Bool) (m : ℕ) → ltb m (2 ^ 31) ≡ b → m < 2 ^ 32 → word (cast_signed w32 m) % 2 ^ 32 ≡ m
signed_32 true m e h = rw e (omega (arith, ltb-true m (2 ^ 31) e))
signed_32 false m e h = rw e (omega (arith, ltb-false m (2 ^ 31) e, h))

signed_64 : (b : Bool) (m : ℕ) → ltb m (2 ^ 63) ≡ b → m < 2 ^ 64 → word (cast_signed w64 m) % 2 ^ 64 ≡ m
signed_64 true m e h = rw e (omega (arith, ltb-true m (2 ^ 63) e))
signed_64 false m e h = rw e (omega (arith, ltb-false m (2 ^ 63) e, h))

-- wrapping keeps the bits of the type
pub wrap-keeps : (t : Ty) (v : ℤ) → Alike (bits (extent_of t)) (wrap t v) v
wrap-keeps ty.U8 v = omega (arith, residue-8 v)
wrap-keeps ty.U16 v = omega (arith, residue-16 v)
wrap-keeps ty.U32 v = omega (arith, residue-32 v)
wrap-keeps ty.U64 v = omega (arith, word-below v)
wrap-keeps ty.I8 v = let h : residue 8 v < 2 ^ 8 = omega (arith, residue-8 v) in signed_8 (ltb (residue 8 v) (2 ^ 7)) (residue 8 v) refl h ∙ residue-8 v
wrap-keeps ty.I16 v = let h : residue 16 v < 2 ^ 16 = omega (arith, residue-16 v) in signed_16 (ltb (residue 16 v) (2 ^ 15)) (residue 16 v) refl h ∙ residue-16 v
wrap-keeps ty.I32 v = let h : residue 32 v < 2 ^ 32 = omega (arith, residue-32 v) in signed_32 (ltb (residue 32 v) (2 ^ 31)) (residue 32 v) refl h ∙ residue-32 v
wrap-keeps ty.I64 v = let h = word-below v in signed_64 (ltb (word v) (2 ^ 63)) (word v) refl h ∙ (omega (arith, h))

-- fewer bits of those that a type has
lower : (w : Extent) (t : Ty) (z v : ℤ) → within_type w t ≡ true → Alike (bits (extent_of t)) z v → Alike (bits w) z v
lower Low8 ty.I8 z v h e = e
lower Low8 ty.U8 z v h e = e
lower Low8 ty.I16 z v h e = omega (arith, e)
lower Low8 ty.U16 z v h e = omega (arith, e)
lower Low8 ty.I32 z v h e = omega (arith, e)
lower Low8 ty.U32 z v h e = omega (arith, e)
lower Low8 ty.I64 z v h e = omega (arith, e)
lower Low8 ty.U64 z v h e = omega (arith, e)
lower Low16 ty.I8 z v h e = absurd cc
lower Low16 ty.U8 z v h e = absurd cc
lower Low16 ty.I16 z v h e = e
lower Low16 ty.U16 z v h e = e
lower Low16 ty.I32 z v h e = omega (arith, e)
lower Low16 ty.U32 z v h e = omega (arith, e)
lower Low16 ty.I64 z v h e = omega (arith, e)
lower Low16 ty.U64 z v h e = omega (arith, e)
lower Low32 ty.I8 z v h e = absurd cc
lower Low32 ty.U8 z v h e = absurd cc
lower Low32 ty.I16 z v h e = absurd cc
lower Low32 ty.U16 z v h e = absurd cc
lower Low32 ty.I32 z v h e = e
lower Low32 ty.U32 z v h e = e
lower Low32 ty.I64 z v h e = omega (arith, e)
lower Low32 ty.U64 z v h e = omega (arith, e)
lower Whole t z v h e = absurd cc

low_agrees : (w : Extent) (t : Ty) (z v : ℤ) → within_type w t ≡ true → Alike (bits w) z v → Agrees w z v
low_agrees Low8 t z v h e = e
low_agrees Low16 t z v h e = e
low_agrees Low32 t z v h e = e
low_agrees Whole t z v h e = absurd cc

pub agrees_of_equal : (w : Extent) (z v : ℤ) → z ≡ v → Agrees w z v
agrees_of_equal Low8 z v e = ap (λ n. word n % 2 ^ 8) e
agrees_of_equal Low16 z v e = ap (λ n. word n % 2 ^ 16) e
agrees_of_equal Low32 z v e = ap (λ n. word n % 2 ^ 32) e
agrees_of_equal Whole z v e = e

-- an unwrapped integer beside the wrapped one
unwrapped : (w : Extent) (t : Ty) (z v : ℤ) → within_type w t ≡ true → Alike (bits w) z v → Agrees w z (wrap t v)
unwrapped w t z v h e = low_agrees w t z (wrap t v) h (e ∙ sym (lower w t (wrap t v) v h (wrap-keeps t v)))

-- ---- operators

-- an operator on one operand
agrees_of_one_operand : (f : ℤ → ℤ) (j leaves : Bool) → (j ≡ true → (e : Extent) (x u : ℤ) → Alike (bits e) x u → Alike (bits e) (f x) (f u)) → (w : Extent) (want : Option Ty) (l : Bool) → within w want ≡ l → (x u : ℤ)
    → Agrees (operand_extent l j leaves w want) x u → Agrees w (settled l j want (f x)) (wrapped want (f u))
agrees_of_one_operand f true leaves join w None true e x u p = absurd cc
agrees_of_one_operand f true leaves join w (Some t) true e x u p = unwrapped w t (f x) (f u) e (join refl w x u (alike_of_agrees w x u p))
agrees_of_one_operand f false leaves join w want true e x u p = agrees_of_equal w _ _ (ap (λ z. wrapped want (f z)) p)
agrees_of_one_operand f true true join w None false e x u p = agrees_of_equal w _ _ refl
agrees_of_one_operand f true true join w (Some t) false e x u p = agrees_of_equal w _ _ (wrap-alike t (f x) (f u) (join refl (extent_of t) x u (alike_of_agrees (extent_of t) x u p)))
agrees_of_one_operand f true false join w want false e x u p = agrees_of_equal w _ _ (ap (λ z. wrapped want (f z)) p)
agrees_of_one_operand f false leaves join w want false e x u p = agrees_of_equal w _ _ (ap (λ z. wrapped want (f z)) p)

-- an operator on two
agrees_of_two_operands : (f : ℤ → ℤ → ℤ) (j leaves : Bool) → (j ≡ true → (e : Extent) (x y u v : ℤ) → Alike (bits e) x u → Alike (bits e) y v → Alike (bits e) (f x y) (f u v)) → (w : Extent) (want : Option Ty) (l : Bool) → within w want ≡ l → (x y u v : ℤ)
    → Agrees (operand_extent l j leaves w want) x u → Agrees (operand_extent l j leaves w want) y v → Agrees w (settled l j want (f x y)) (wrapped want (f u v))
agrees_of_two_operands f true leaves join w None true e x y u v p q = absurd cc
agrees_of_two_operands f true leaves join w (Some t) true e x y u v p q = unwrapped w t (f x y) (f u v) e (join refl w x y u v (alike_of_agrees w x u p) (alike_of_agrees w y v q))
agrees_of_two_operands f false leaves join w want true e x y u v p q = agrees_of_equal w _ _ (ap₂ (λ a b. wrapped want (f a b)) p q)
agrees_of_two_operands f true true join w None false e x y u v p q = agrees_of_equal w _ _ refl
agrees_of_two_operands f true true join w (Some t) false e x y u v p q = agrees_of_equal w _ _ (wrap-alike t (f x y) (f u v) (join refl (extent_of t) x y u v (alike_of_agrees (extent_of t) x u p) (alike_of_agrees (extent_of t) y v q)))
agrees_of_two_operands f true false join w want false e x y u v p q = agrees_of_equal w _ _ (ap₂ (λ a b. wrapped want (f a b)) p q)
agrees_of_two_operands f false leaves join w want false e x y u v p q = agrees_of_equal w _ _ (ap₂ (λ a b. wrapped want (f a b)) p q)

pub operation_agrees : (op : BinaryOp) (leaves : Bool) (w : Extent) (want : Option Ty) (x y u v : ℤ) → Agrees (asked_extent (binary_joins op) leaves w want) x u → Agrees (asked_extent (binary_joins op) leaves w want) y v → Agrees w (loose_binary op w want x y) (binary_value op want u v)
operation_agrees op leaves w want x y u v p q = agrees_of_two_operands (binary_on op) (binary_joins op) leaves (λ j e a b c d. binary-alike op e a b c d j) w want (within w want) refl x y u v p q

pub binary_agrees : (op : BinaryOp) (w : Extent) (want : Option Ty) (x y u v : ℤ) → Agrees (binary_extent op w want) x u → Agrees (binary_extent op w want) y v → Agrees w (loose_binary op w want x y) (binary_value op want u v)
binary_agrees op w want x y u v p q = operation_agrees op (binary_leaves op) w want x y u v p q

pub unary_agrees : (op : UnaryOp) (leaves : Bool) (w : Extent) (want : Option Ty) (x u : ℤ) → Agrees (asked_extent (unary_joins op) leaves w want) x u → Agrees w (loose_unary op w want x) (unary_value op want u)
unary_agrees op leaves w want x u p = agrees_of_one_operand (unary_on op) (unary_joins op) leaves (λ j e a c. unary-alike op e a c j) w want (within w want) refl x u p

abbrev pub RangeAt : Option Ty → ℤ → Type 0
RangeAt None v = Unit {0}
RangeAt (Some t) v = IsOf t v

shift_joins : (left : Bool) (k : ℕ) → left ≡ true → (e : Extent) (x u : ℤ) → Alike (bits e) x u → Alike (bits e) (shift_on left k x) (shift_on left k u)
shift_joins true k j e x u p = mul-alike e x (pos (2 ^ k)) u (pos (2 ^ k)) p refl
shift_joins false k j e x u p = absurd cc

pub shift_agrees : (left leaves : Bool) (n : ℤ) (w : Extent) (want : Option Ty) (x u : ℤ) → Agrees (asked_extent left leaves w want) x u → Agrees w (loose_shift left n w want x) (shift_value left n want u)
shift_agrees left leaves n w want x u p = agrees_of_one_operand (shift_on left (shift_count n)) left leaves (λ j e a c h. shift_joins left (shift_count n) j e a c h) w want (within w want) refl x u p

-- a cast from a type whose values the other has, or has not
cast_by : (l f : Bool) (w : Extent) (from : Option Ty) (t : Ty) (x u : ℤ) → within_type w t ≡ l → fits_at from t ≡ f → RangeAt from u → Agrees (cast_extent l f w t) x u → Agrees w (loose_cast l f t x) (wrap t u)
cast_by true f w from t x u el ef r p = unwrapped w t x u el (alike_of_agrees w x u p)
cast_by false true w None t x u el ef r p = absurd cc
cast_by false true w (Some s) t x u el ef r p = agrees_of_equal w _ _ (p ∙ sym (wrap-of t u (of-fits s t u ef r)))
cast_by false false w from t x u el ef r p = agrees_of_equal w _ _ (wrap-alike t x u (alike_of_agrees (extent_of t) x u p))

pub cast_agrees : (w : Extent) (from : Option Ty) (t : Ty) (x u : ℤ) → RangeAt from u → Agrees (cast_extent (within_type w t) (fits_at from t) w t) x u → Agrees w (loose_cast (within_type w t) (fits_at from t) t x) (wrap t u)
cast_agrees w from t x u r p = cast_by (within_type w t) (fits_at from t) w from t x u refl refl r p

-- ---- what operands give

map_agreed : (w w1 : Extent) (f g : ℤ → ℤ) (o q : Option ℤ) → ((x u : ℤ) → q ≡ Some u → Agrees w1 x u → Agrees w (f x) (g u)) → Agreed w1 o q → Agreed w (option_map f o) (option_map g q)
map_agreed w w1 f g None None h p = tt
map_agreed w w1 f g None (Some u) h p = absurd p
map_agreed w w1 f g (Some x) None h p = absurd p
map_agreed w w1 f g (Some x) (Some u) h p = h x u refl p

both_agreed : (w w1 : Extent) (f g : ℤ → ℤ → ℤ) (a b c d : Option ℤ) → ((x y u v : ℤ) → Agrees w1 x u → Agrees w1 y v → Agrees w (f x y) (g u v)) → Agreed w1 a c → Agreed w1 b d → Agreed w (on_both f a b) (on_both g c d)
both_agreed w w1 f g None b None d h p q = tt
both_agreed w w1 f g None b (Some u) d h p q = absurd p
both_agreed w w1 f g (Some x) b None d h p q = absurd p
both_agreed w w1 f g (Some x) None (Some u) None h p q = tt
both_agreed w w1 f g (Some x) None (Some u) (Some v) h p q = absurd q
both_agreed w w1 f g (Some x) (Some y) (Some u) None h p q = absurd q
both_agreed w w1 f g (Some x) (Some y) (Some u) (Some v) h p q = h x y u v p q

choose_agreed : (w : Extent) (c : Bool) (x y u v : ℤ) → Agrees w x u → Agrees w y v → Agrees w (choose_value c x y) (choose_value c u v)
choose_agreed w true x y u v p q = p
choose_agreed w false x y u v p q = q

chosen_agreed : (w : Extent) (a b c d : Option ℤ) (o : Option Bool) → Agreed w a c → Agreed w b d → Agreed w (chosen a b o) (chosen c d o)
chosen_agreed w a b c d None p q = tt
chosen_agreed w a b c d (Some t) p q = both_agreed w w (choose_value t) (choose_value t) a b c d (choose_agreed w t) p q

all-same : (w : Extent) (o q : Option ℤ) → o ≡ q → Agreed w o q
all-same w o None e = subst (λ z. Agreed w z None) (sym e) tt
all-same w o (Some v) e = subst (λ z. Agreed w z (Some v)) (sym e) (agrees_of_equal w v v refl)

same-all : (o q : Option ℤ) → Agreed Whole o q → o ≡ q
same-all None None p = refl
same-all None (Some v) p = absurd p
same-all (Some x) None p = absurd p
same-all (Some x) (Some v) p = ap Some p

-- ---- expressions

-- what the code of an expression computes, where so much is asked for, by what stands in the registers of names; names from
-- which only whole values are asked are read by their values
abbrev pub loose : Scope → Extent → Option Ty → Term → Memory → (stand names : Names) → Option ℤ
loose s w want (Variable x) m stand names = value s want (Variable x) m stand
loose s w want (Unary op e) m stand names = option_map (loose_unary op w want) (loose s (unary_asks s want op e w) want e m stand names)
loose s w want (Operation op x y) m stand names = on_both (loose_binary op w want) (loose s (binary_asks s want op x y w) want x m stand names) (loose s (binary_asks s want op x y w) want y m stand names)
loose s w want (Shift left e n) m stand names = option_map (loose_shift left n w want) (loose s (shift_asks s want left e n w) want e m stand names)
loose s w want (Conversion e t) m stand names = option_map (loose_cast (within_type w t) (fits_at (own s e) t) t) (loose s (converted_extent w (own s e) t) (own s e) e m stand names)
loose s w want (Choice c x y) m stand names = chosen (loose s w want x m stand names) (loose s w want y m stand names) (holds s c m names)
loose s w want (Literal z) m stand names = value s want (Literal z) m names
loose s w want (Element a i) m stand names = value s want (Element a i) m names
loose s w want (Comparison op x y) m stand names = value s want (Comparison op x y) m names
loose s w want (Both x y) m stand names = value s want (Both x y) m names
loose s w want (Either x y) m stand names = value s want (Either x y) m names
loose s w want (Not e) m stand names = value s want (Not e) m names

-- ---- names

bits_same : (t : Ty) → bits_of t ≡ bits (extent_of t)
bits_same ty.I8 = refl
bits_same other = refl

-- what stands in the register of a name agrees with its value, where no more is asked for
pub name_agrees : (c : ℕ) (o : Option Form) (w : Extent) (z v : ℤ) → is_enough o w ≡ true → Tells c o z v → Agrees w z v
name_agrees c None w z v h tells = agrees_of_equal w z v tells
name_agrees c (Some (LowBits t)) w z v h tells = low_agrees w t z v h (lower w t z v h (subst (λ k. Alike k z v) (bits_same t) tells))
name_agrees c (Some (Ahead t)) w z v h tells = absurd cc
name_agrees c (Some Behind) w z v h tells = absurd cc

enough_itself : (o : Option Form) (w : Extent) → is_enough o w ≡ true → tells_itself o ≡ true
enough_itself None w h = refl
enough_itself (Some (LowBits t)) w h = refl
enough_itself (Some (Ahead t)) w h = h
enough_itself (Some Behind) w h = h

-- the same of a name
pub named_agrees : (ls : List Loose) (c : ℕ) (stand names : Names) (x : List ℕ) (w : Extent) → is_enough (loose_in ls x) w ≡ true → Told ls c stand names → Agrees w (value_at stand x) (value_at names x)
named_agrees ls c stand names x w h told = name_agrees c (loose_in ls x) w (value_at stand x) (value_at names x) h (told_at ls c stand names x (enough_itself (loose_in ls x) w h) told)

module _ (s : Scope) (m : Memory) (names : Names) (ranged : AreRanged s.visible names) (ls : List Loose) (count : ℕ) (stand : Names) (told : Told ls count stand names) where
  of_type : (want : Option Ty) (e : Term) (u : ℤ) → AreTyped s want e → value s want e m names ≡ Some u → RangeAt want u
  of_type None e u t is = tt
  of_type (Some T) e u t is = value_range e s T m names u (is_typed e s T t) ranged is

  pub agrees : (e : Term) (w : Extent) (want : Option Ty) → covers ls s w want e ≡ true → AreTyped s want e → Agreed w (loose s w want e m stand names) (value s want e m names)
  agrees (Literal n) w want k c = all-same w (value s want (Literal n) m names) (value s want (Literal n) m names) refl
  agrees (Variable x) w want k c = named_agrees ls count stand names x w k told
  agrees (Element a i) w want k c = all-same w (value s want (Element a i) m names) (value s want (Element a i) m names) refl
  agrees (Unary op e) w want k c = map_agreed w (unary_asks s want op e w) _ _ _ _ (λ x u is p. unary_agrees op (unary_may_leave s want op e) w want x u p) (agrees e (unary_asks s want op e w) want k c)
  agrees (Operation op x y) w want k c =
      let a = binary_asks s want op x y w in
      both_agreed w a _ _ _ _ _ _ (operation_agrees op (binary_may_leave s want op x y) w want) (agrees x a want (and_parts (covers ls s a want x) _ k).0 c.0) (agrees y a want (and_parts (covers ls s a want x) _ k).1 c.1)
  agrees (Shift left e n) w want k c = map_agreed w (shift_asks s want left e n w) _ _ _ _ (λ x u is p. shift_agrees left (shift_may_leave s want left e n) n w want x u p) (agrees e (shift_asks s want left e n w) want k c)
  agrees (Conversion e t) w want h c =
      let k = converted_extent w (own s e) t in
      map_agreed w k _ _ _ _ (λ x u is p. cast_agrees w (own s e) t x u (of_type (own s e) e u c.2 is) p) (agrees e k (own s e) h c.2)
  agrees (Choice c x y) w want k h =
      let rest = (and_parts (covers ls s w want x) _ k).1 in
      chosen_agreed w _ _ _ _ (holds s c m names) (agrees x w want (and_parts (covers ls s w want x) _ k).0 h.0) (agrees y w want (and_parts (covers ls s w want y) _ rest).0 h.1)
  agrees (Comparison op x y) w want k c = all-same w (value s want (Comparison op x y) m names) (value s want (Comparison op x y) m names) refl
  agrees (Both x y) w want k c = all-same w (value s want (Both x y) m names) (value s want (Both x y) m names) refl
  agrees (Either x y) w want k c = all-same w (value s want (Either x y) m names) (value s want (Either x y) m names) refl
  agrees (Not e) w want k c = all-same w (value s want (Not e) m names) (value s want (Not e) m names) refl

  -- where the whole value is asked for
  pub whole_is : (e : Term) (want : Option Ty) → covers ls s Whole want e ≡ true → AreTyped s want e → loose s Whole want e m stand names ≡ value s want e m names
  whole_is e want k c = same-all _ _ (agrees e Whole want k c)

-- what is asked for agrees, where both are there
pub whole_same : (w : Extent) (z v : ℤ) → w ≡ Whole → Agrees w z v → z ≡ v
whole_same w z v e p = subst (λ k. Agrees k z v) e p

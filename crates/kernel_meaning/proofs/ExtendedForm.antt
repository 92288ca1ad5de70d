-- Which operators keep the extended form: done on words of values of a type, they give the word of a value of the type.
use Rattle.std.proofs.Common.{◌≡◌, ℕ, ◌-◌, ◌/◌, ◌%◌, ◌^◌, ◌<◌, ℤ, pos, negsuc, Bool, true, false, sym, ap, ap₂, ◌∙◌, subst, arith, ltb, bit_and, bit_or, bit_xor, ◌⊎◌, inl, inr, ⊎_elim}
use Rattle.std.specs.Prelude.{int_lt, unsigned_abs}
use Rattle.std.specs.Int.{w8, w16, w32, w64, cast_signed, int_min, int_max}
use Rattle.std.specs.Int.Bits.{and_zero_l, and_zero_r, and_self, or_zero_l, or_zero_r, or_self, xor_zero_l, xor_zero_r, xor_self}
use Rattle.std.proofs.lemmas.Bool.{lt-ltb, le-ltb, not-false}
use Rattle.std.proofs.lemmas.Nat.{and_shr, or_shr, xor_shr, and_le_l, or_lt, xor_lt}
use Rattle.std.proofs.Math.Nat.{mod-eq_of_lt}
use Rattle.kernel_tree.specs.declared.ops.Ty.{Ty}
use Rattle.kernel_tree.specs.declared.ops.Ty.TheVariants as ty
use Rattle.kernel_tree.specs.declared.ops.UnaryOp.{UnaryOp}
use Rattle.kernel_tree.specs.declared.ops.UnaryOp.TheVariants as unary
use Rattle.kernel_tree.specs.declared.ops.BinaryOp.{BinaryOp}
use Rattle.kernel_tree.specs.declared.ops.BinaryOp.TheVariants as binary
use Rattle.kernel_tree.specs.Wrap.{wrap, bits_of, is_signed}
use Rattle.kernel_meaning.specs.Operators.{word, unary_on, binary_on, shift_on}
use Rattle.kernel_meaning.specs.TypeValues.{IsOf, unary_leaves, binary_leaves, shift_leaves}
use Rattle.kernel_meaning.proofs.Residues.{word-below}
use Rattle.kernel_meaning.proofs.TypeRanges.{InBits, in_bits, wrap-of, of-cond, of-shr, of-flip, abs-unsigned}

-- ---- the bits above a type, in a word

-- all bits from k on are zero, or all are one where `sg`
abbrev pub Uniform : Bool → ℕ → ℕ → Type 0
Uniform true k a = (a / 2 ^ k ≡ 0) ⊎ (a / 2 ^ k ≡ 2 ^ (64 - k) - 1)
Uniform false k a = a / 2 ^ k ≡ 0

-- from where on the bits of a value of the type are one
abbrev pub top_of : Ty → ℕ
top_of ty.I8 = 7
top_of ty.I16 = 15
top_of ty.I32 = 31
top_of ty.I64 = 63
top_of ty.U8 = 8
top_of ty.U16 = 16
top_of ty.U32 = 32
top_of ty.U64 = 64

uniform-of : (t : Ty) (v : ℤ) → InBits (is_signed t) (bits_of t) v → Uniform (is_signed t) (top_of t) (word v)
uniform-of ty.I8 (pos n) h = inl (omega (arith, h))
uniform-of ty.I8 (negsuc n) h = inr (omega (arith, h))
uniform-of ty.I16 (pos n) h = inl (omega (arith, h))
uniform-of ty.I16 (negsuc n) h = inr (omega (arith, h))
uniform-of ty.I32 (pos n) h = inl (omega (arith, h))
uniform-of ty.I32 (negsuc n) h = inr (omega (arith, h))
uniform-of ty.I64 (pos n) h = inl (omega (arith, h))
uniform-of ty.I64 (negsuc n) h = inr (omega (arith, h))
uniform-of ty.U8 (pos n) h = omega (arith, h)
uniform-of ty.U8 (negsuc n) h = absurd h
uniform-of ty.U16 (pos n) h = omega (arith, h)
uniform-of ty.U16 (negsuc n) h = absurd h
uniform-of ty.U32 (pos n) h = omega (arith, h)
uniform-of ty.U32 (negsuc n) h = absurd h
uniform-of ty.U64 (pos n) h = omega (arith, h)
uniform-of ty.U64 (negsuc n) h = absurd h

-- an operation of bits keeps them so
module _ (f : ℕ → ℕ → ℕ) (shr : (a b k : ℕ) → f a b / 2 ^ k ≡ f (a / 2 ^ k) (b / 2 ^ k)) (zeros : f 0 0 ≡ 0) (left : (c : ℕ) → (f c 0 ≡ 0) ⊎ (f c 0 ≡ c)) (right : (c : ℕ) → (f 0 c ≡ 0) ⊎ (f 0 c ≡ c)) (same : (c : ℕ) → (f c c ≡ 0) ⊎ (f c c ≡ c)) where
  pub uniform_both : (sg : Bool) (k a b : ℕ) → Uniform sg k a → Uniform sg k b → Uniform sg k (f a b)
  uniform_both true k a b (inl p) (inl q) = inl (shr a b k ∙ ap₂ f p q ∙ zeros)
  uniform_both true k a b (inl p) (inr q) = ⊎_elim (λ e. inl (shr a b k ∙ ap₂ f p q ∙ e)) (λ e. inr (shr a b k ∙ ap₂ f p q ∙ e)) (right (2 ^ (64 - k) - 1))
  uniform_both true k a b (inr p) (inl q) = ⊎_elim (λ e. inl (shr a b k ∙ ap₂ f p q ∙ e)) (λ e. inr (shr a b k ∙ ap₂ f p q ∙ e)) (left (2 ^ (64 - k) - 1))
  uniform_both true k a b (inr p) (inr q) = ⊎_elim (λ e. inl (shr a b k ∙ ap₂ f p q ∙ e)) (λ e. inr (shr a b k ∙ ap₂ f p q ∙ e)) (same (2 ^ (64 - k) - 1))
  uniform_both false k a b p q = shr a b k ∙ ap₂ f p q ∙ zeros

uniform_and : (sg : Bool) (k a b : ℕ) → Uniform sg k a → Uniform sg k b → Uniform sg k (bit_and a b)
uniform_and = uniform_both bit_and and_shr (and_zero_l 0) (λ c. inl (and_zero_r c)) (λ c. inl (and_zero_l c)) (λ c. inr (and_self c))

uniform_or : (sg : Bool) (k a b : ℕ) → Uniform sg k a → Uniform sg k b → Uniform sg k (bit_or a b)
uniform_or = uniform_both bit_or or_shr (or_zero_l 0) (λ c. inr (or_zero_r c)) (λ c. inr (or_zero_l c)) (λ c. inr (or_self c))

uniform_xor : (sg : Bool) (k a b : ℕ) → Uniform sg k a → Uniform sg k b → Uniform sg k (bit_xor a b)
uniform_xor = uniform_both bit_xor xor_shr (xor_zero_l 0) (λ c. inr (xor_zero_r c)) (λ c. inr (xor_zero_l c)) (λ c. inl (xor_self c))

-- a word with such bits is that of a value of the type
ones_8 : (r : ℕ) → r < 2 ^ 64 → r / 2 ^ 7 ≡ 2 ^ (64 - 7) - 1 → word (cast_signed w8 (r % 2 ^ 8)) ≡ r
ones_8 r h e = let f : ltb (r % 2 ^ 8) (2 ^ 7) ≡ false = le-ltb _ _ (omega (arith, h, e)) in rw f (omega (arith, h, e))

ones_16 : (r : ℕ) → r < 2 ^ 64 → r / 2 ^ 15 ≡ 2 ^ (64 - 15) - 1 → word (cast_signed w16 (r % 2 ^ 16)) ≡ r
ones_16 r h e = let f : ltb (r % 2 ^ 16) (2 ^ 15) ≡ false = le-ltb _ _ (omega (arith, h, e)) in rw f (omega (arith, h, e))

ones_32 : (r : ℕ) → r < 2 ^ 64 → r / 2 ^ 31 ≡ 2 ^ (64 - 31) - 1 → word (cast_signed w32 (r % 2 ^ 32)) ≡ r
ones_32 r h e = let f : ltb (r % 2 ^ 32) (2 ^ 31) ≡ false = le-ltb _ _ (omega (arith, h, e)) in rw f (omega (arith, h, e))

ones_64 : (r : ℕ) → r < 2 ^ 64 → r / 2 ^ 63 ≡ 2 ^ (64 - 63) - 1 → word (cast_signed w64 (r % 2 ^ 64)) ≡ r
ones_64 r h e = let f : ltb (r % 2 ^ 64) (2 ^ 63) ≡ false = le-ltb _ _ (omega (arith, h, e)) in rw f (omega (arith, h, e))

zeros_8 : (r : ℕ) → r < 2 ^ 64 → r / 2 ^ 7 ≡ 0 → word (cast_signed w8 (r % 2 ^ 8)) ≡ r
zeros_8 r h e = let f : ltb (r % 2 ^ 8) (2 ^ 7) ≡ true = lt-ltb _ _ (omega (arith, h, e)) in rw f (omega (arith, h, e))

zeros_16 : (r : ℕ) → r < 2 ^ 64 → r / 2 ^ 15 ≡ 0 → word (cast_signed w16 (r % 2 ^ 16)) ≡ r
zeros_16 r h e = let f : ltb (r % 2 ^ 16) (2 ^ 15) ≡ true = lt-ltb _ _ (omega (arith, h, e)) in rw f (omega (arith, h, e))

zeros_32 : (r : ℕ) → r < 2 ^ 64 → r / 2 ^ 31 ≡ 0 → word (cast_signed w32 (r % 2 ^ 32)) ≡ r
zeros_32 r h e = let f : ltb (r % 2 ^ 32) (2 ^ 31) ≡ true = lt-ltb _ _ (omega (arith, h, e)) in rw f (omega (arith, h, e))

zeros_64 : (r : ℕ) → r < 2 ^ 64 → r / 2 ^ 63 ≡ 0 → word (cast_signed w64 (r % 2 ^ 64)) ≡ r
zeros_64 r h e = let f : ltb (r % 2 ^ 64) (2 ^ 63) ≡ true = lt-ltb _ _ (omega (arith, h, e)) in rw f (omega (arith, h, e))

word-uniform : (t : Ty) (r : ℕ) → r < 2 ^ 64 → Uniform (is_signed t) (top_of t) r → word (wrap t (pos r)) ≡ r
word-uniform ty.I8 r h (inl e) = zeros_8 r h e
word-uniform ty.I8 r h (inr e) = ones_8 r h e
word-uniform ty.I16 r h (inl e) = zeros_16 r h e
word-uniform ty.I16 r h (inr e) = ones_16 r h e
word-uniform ty.I32 r h (inl e) = zeros_32 r h e
word-uniform ty.I32 r h (inr e) = ones_32 r h e
word-uniform ty.I64 r h (inl e) = zeros_64 r h e
word-uniform ty.I64 r h (inr e) = ones_64 r h e
word-uniform other r h e = omega (arith, h, e)

-- ---- operators

word-bits : (t : Ty) (r : ℕ) → r < 2 ^ 64 → Uniform (is_signed t) (top_of t) r → word (wrap t (pos r)) ≡ word (pos r)
word-bits t r h u = word-uniform t r h u ∙ sym (mod-eq_of_lt h)

pub and-kept : (t : Ty) (x y : ℤ) → IsOf t x → IsOf t y → word (wrap t (pos (bit_and (word x) (word y)))) ≡ word (pos (bit_and (word x) (word y)))
and-kept t x y h k =
    word-bits t (bit_and (word x) (word y)) (let le = and_le_l (word x) (word y) in omega (arith, le, word-below x))
    (uniform_and (is_signed t) (top_of t) (word x) (word y) (uniform-of t x (in_bits t x h)) (uniform-of t y (in_bits t y k)))

pub or-kept : (t : Ty) (x y : ℤ) → IsOf t x → IsOf t y → word (wrap t (pos (bit_or (word x) (word y)))) ≡ word (pos (bit_or (word x) (word y)))
or-kept t x y h k =
    word-bits t (bit_or (word x) (word y)) (or_lt 64 (word x) (word y) (word-below x) (word-below y))
    (uniform_or (is_signed t) (top_of t) (word x) (word y) (uniform-of t x (in_bits t x h)) (uniform-of t y (in_bits t y k)))

pub xor-kept : (t : Ty) (x y : ℤ) → IsOf t x → IsOf t y → word (wrap t (pos (bit_xor (word x) (word y)))) ≡ word (pos (bit_xor (word x) (word y)))
xor-kept t x y h k =
    word-bits t (bit_xor (word x) (word y)) (xor_lt 64 (word x) (word y) (word-below x) (word-below y))
    (uniform_xor (is_signed t) (top_of t) (word x) (word y) (uniform-of t x (in_bits t x h)) (uniform-of t y (in_bits t y k)))

-- an operator that does not leave the extended form has the word of its result at the type
pub binary-kept : (op : BinaryOp) (t : Ty) (x y : ℤ) → IsOf t x → IsOf t y → binary_leaves op ≡ false → word (wrap t (binary_on op x y)) ≡ word (binary_on op x y)
binary-kept binary.And t x y h k e = and-kept t x y h k
binary-kept binary.Or t x y h k e = or-kept t x y h k
binary-kept binary.Xor t x y h k e = xor-kept t x y h k
binary-kept binary.Min t x y h k e = ap word (wrap-of t (int_min x y) (of-cond t (int_lt y x) y x k h))
binary-kept binary.Max t x y h k e = ap word (wrap-of t (int_max x y) (of-cond t (int_lt y x) x y h k))
binary-kept other t x y h k e = absurd cc

pub unary-kept : (op : UnaryOp) (t : Ty) (x : ℤ) → IsOf t x → unary_leaves op t ≡ false → word (wrap t (unary_on op x)) ≡ word (unary_on op x)
unary-kept unary.Neg t x h e = absurd cc
unary-kept unary.Flip t x h e = ap word (wrap-of t _ (of-flip t x (not-false (is_signed t) e) h))
unary-kept unary.Abs t x h e = let same = abs-unsigned t x e h in ap word (wrap-of t (pos (unsigned_abs x)) (subst (IsOf t) (sym same) h))

pub shift-kept : (left : Bool) (c : ℕ) (t : Ty) (x : ℤ) → IsOf t x → shift_leaves left ≡ false → word (wrap t (shift_on left c x)) ≡ word (shift_on left c x)
shift-kept true c t x h e = absurd cc
shift-kept false c t x h e = ap word (wrap-of t _ (of-shr t c x h))

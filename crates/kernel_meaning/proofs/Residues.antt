-- Integers modulo 2^64.
use Rattle.std.proofs.Common.{◌≡◌, ℕ, ◌+◌, ◌-◌, ◌*◌, ◌%◌, ◌^◌, ◌<◌, Bool, true, false, Option, Some, None, refl, sym, ap, ap₂, ◌∙◌, arith, ltb, suc, zero}
use Rattle.std.specs.Prelude.{ℤ, pos, negsuc, ◌+ℤ◌, ◌*ℤ◌, bit_or, FitsSigned, neg_ℤ}
use Rattle.std.specs.Int.{w64, w128, cast_signed, cast_unsigned, int_wrapping_mul, int_wrap}
use Rattle.std.proofs.lemmas.Bool.{ltb-false}
use Rattle.std.proofs.lemmas.Nat.{mul-mod_second}
use Rattle.guest_types.specs.declared.length.Width.TheVariants.{D}
use Rattle.guest_types.proofs.Shifts.{or-below}
use Rattle.std.proofs.lemmas.Int.{wrapping_mul_is, wrapping_mul-bits, wrapping_add-bits, int_wrap-add_left, int_wrap-add_right, int_wrap-mul_left, int_wrap-mul_right, of_z-to_z, to_z-of_z, to_z_pos}
use Rattle.kernel_tree.specs.declared.ops.Ty.{Ty}
use Rattle.kernel_tree.specs.declared.ops.Ty.TheVariants as ty
use Rattle.kernel_tree.specs.Wrap.{wrap, residue}
use Rattle.kernel_meaning.specs.Operators.{word, wrapped}

pub residue-8 : (z : ℤ) → residue 8 z ≡ word z % 2 ^ 8
residue-8 (pos n) = omega arith
residue-8 (negsuc n) = omega arith

pub residue-16 : (z : ℤ) → residue 16 z ≡ word z % 2 ^ 16
residue-16 (pos n) = omega arith
residue-16 (negsuc n) = omega arith

pub residue-32 : (z : ℤ) → residue 32 z ≡ word z % 2 ^ 32
residue-32 (pos n) = omega arith
residue-32 (negsuc n) = omega arith

-- a value of a type is told by the word of an integer
pub wrap-word : (t : Ty) (a b : ℤ) → word a ≡ word b → wrap t a ≡ wrap t b
wrap-word ty.I8 a b e = let h : residue 8 a ≡ residue 8 b = residue-8 a ∙ ap (λ n. n % 2 ^ 8) e ∙ sym (residue-8 b) in cc
wrap-word ty.U8 a b e = let h : residue 8 a ≡ residue 8 b = residue-8 a ∙ ap (λ n. n % 2 ^ 8) e ∙ sym (residue-8 b) in cc
wrap-word ty.I16 a b e = let h : residue 16 a ≡ residue 16 b = residue-16 a ∙ ap (λ n. n % 2 ^ 16) e ∙ sym (residue-16 b) in cc
wrap-word ty.U16 a b e = let h : residue 16 a ≡ residue 16 b = residue-16 a ∙ ap (λ n. n % 2 ^ 16) e ∙ sym (residue-16 b) in cc
wrap-word ty.I32 a b e = let h : residue 32 a ≡ residue 32 b = residue-32 a ∙ ap (λ n. n % 2 ^ 32) e ∙ sym (residue-32 b) in cc
wrap-word ty.U32 a b e = let h : residue 32 a ≡ residue 32 b = residue-32 a ∙ ap (λ n. n % 2 ^ 32) e ∙ sym (residue-32 b) in cc
wrap-word ty.I64 a b e = cc
wrap-word ty.U64 a b e = cc

pub wrapped-word : (want : Option Ty) (a b : ℤ) → word a ≡ word b → wrapped want a ≡ wrapped want b
wrapped-word None a b e = refl
wrapped-word (Some t) a b e = wrap-word t a b e

-- ---- products

pub word-below : (z : ℤ) → word z < 2 ^ 64
word-below (pos n) = omega arith
word-below (negsuc n) = omega arith

int_wrap-is : (z : ℤ) → int_wrap w64 z ≡ cast_signed w64 (word z)
unfolding int_wrap
int_wrap-is (pos n) = refl
int_wrap-is (negsuc n) = refl

-- an integer of 128 bits has the word of its bits
word-signed : (m : ℕ) → m < 2 ^ 128 → word (cast_signed w128 m) ≡ m % 2 ^ 64
word-signed m h = by_half (ltb m (2 ^ 127)) refl
  where
    by_half : (b : Bool) → ltb m (2 ^ 127) ≡ b → word (cast_signed w128 m) ≡ m % 2 ^ 64
    by_half true e = rw e refl
    by_half false e = rw e (omega (arith, ltb-false m (2 ^ 127) e, h))

pub word-wide : (z : ℤ) → word (int_wrap w128 z) ≡ word z
unfolding int_wrap
word-wide (pos n) = word-signed (n % 2 ^ 128) (omega arith) ∙ omega arith
word-wide (negsuc n) = word-signed (2 ^ 128 - 1 - n % 2 ^ 128) (omega arith) ∙ omega arith

-- the word of a product is that of the product of the words
pub word-mul : (a b : ℤ) → word (a *ℤ b) ≡ (word a * word b) % 2 ^ 64
word-mul a b =
    let low : (word a * word b) % 2 ^ 64 < 2 ^ 64 = omega arith in
    let left : int_wrap w64 (cast_signed w64 (word a) *ℤ cast_signed w64 (word b)) ≡ int_wrap w64 (a *ℤ b) =
    ap₂ (λ x y. int_wrap w64 (x *ℤ y)) (sym (int_wrap-is a)) (sym (int_wrap-is b)) ∙ int_wrap-mul_left w64 a (int_wrap w64 b) ∙ int_wrap-mul_right w64 a b in
    let bits : cast_signed w64 ((word a * word b) % 2 ^ 64) ≡ cast_signed w64 (word (a *ℤ b)) =
    wrapping_mul-bits w64 (word a) (word b) (word-below a) (word-below b) ∙ left ∙ int_wrap-is (a *ℤ b) in
    sym (of_z-to_z w64 (word (a *ℤ b)) (word-below (a *ℤ b))) ∙ sym (ap (cast_unsigned w64) bits) ∙ of_z-to_z w64 ((word a * word b) % 2 ^ 64) low

-- the word of a sum is that of the sum of the words
pub word-add : (a b : ℤ) → word (a +ℤ b) ≡ (word a + word b) % 2 ^ 64
word-add a b =
    let low : (word a + word b) % 2 ^ 64 < 2 ^ 64 = omega arith in
    let left : int_wrap w64 (cast_signed w64 (word a) +ℤ cast_signed w64 (word b)) ≡ int_wrap w64 (a +ℤ b) =
    ap₂ (λ x y. int_wrap w64 (x +ℤ y)) (sym (int_wrap-is a)) (sym (int_wrap-is b)) ∙ int_wrap-add_left w64 a (int_wrap w64 b) ∙ int_wrap-add_right w64 a b in
    let bits : cast_signed w64 ((word a + word b) % 2 ^ 64) ≡ cast_signed w64 (word (a +ℤ b)) =
    wrapping_add-bits w64 (word a) (word b) (word-below a) (word-below b) ∙ left ∙ int_wrap-is (a +ℤ b) in
    sym (of_z-to_z w64 (word (a +ℤ b)) (word-below (a +ℤ b))) ∙ sym (ap (cast_unsigned w64) bits) ∙ of_z-to_z w64 ((word a + word b) % 2 ^ 64) low

pub word-wrapping_mul : (a b : ℤ) → FitsSigned w128 a → FitsSigned w128 b → word (int_wrapping_mul w128 a b) ≡ word (a *ℤ b)
word-wrapping_mul a b f g = ap word (wrapping_mul_is w128 a b f g) ∙ word-wide (a *ℤ b)

pub word-or_below : (a b : ℤ) → bit_or (word a) (word b) < 2 ^ 64
word-or_below a b = or-below D (word a) (word b) (word-below a) (word-below b)

-- the word of a number shifted to the left
pub word-shl : (z : ℤ) (k : ℕ) → (word z * 2 ^ k) % 2 ^ 64 ≡ word (z *ℤ pos (2 ^ k))
word-shl z k = sym (word-mul z (pos (2 ^ k)) ∙ mul-mod_second (word z) (2 ^ k) (2 ^ 64))

-- a result of 128 bits that is wrapped to a type
pub at-type : (want : Option Ty) (r x y : ℤ) → FitsSigned w128 r → FitsSigned w128 x → r ≡ wrapped want (cast_signed w128 (cast_unsigned w128 x)) → word x ≡ word y → cast_signed w128 (cast_unsigned w128 r) ≡ wrapped want y
at-type want r x y f g e h = to_z-of_z w128 r f ∙ e ∙ wrapped-word want _ y (ap word (to_z-of_z w128 x g) ∙ h)

-- the bits of words, as an integer of 128 bits
pub word-small : (n : ℕ) → n < 2 ^ 64 → cast_signed w128 n ≡ pos n
word-small n h = to_z_pos w128 n (omega arith)

pub ruleset word_rules = (wrapped-word, word-wrapping_mul, word-or_below, word-shl)

pub word-neg : (z : ℤ) → word (neg_ℤ z) ≡ (2 ^ 64 - word z) % 2 ^ 64
word-neg (pos zero) = refl
word-neg (pos (suc n)) = omega arith
word-neg (negsuc n) = omega arith

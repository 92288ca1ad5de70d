-- The values of a type, by their sign and size: wrapping gives one, and keeps one, and some operators stay among them.
use Rattle.std.proofs.Common.{◌≡◌, ℕ, ◌-◌, ◌%◌, ◌^◌, ◌<◌, ◌≤◌, ℤ, pos, negsuc, neg_ℤ, ◌-ℤ◌, Bool, true, false, refl, sym, ap, subst, arith, cond, ltb, int_le, unsigned_abs}
use Rattle.std.specs.Int.{w8, w16, w32, w64, cast_signed, int_shr}
use Rattle.std.proofs.lemmas.Int.{ints}
use Rattle.std.proofs.lemmas.Bool.{ltb-true, ltb-false, lt-ltb, le-ltb, and_parts}
use Rattle.std.proofs.Math.Nat.{mod-eq_of_lt, div-le_self}
use Rattle.std.proofs.Math.Pow.{pow_mono}
use Rattle.kernel_tree.specs.declared.ops.Ty.{Ty}
use Rattle.kernel_tree.specs.declared.ops.Ty.TheVariants as ty
use Rattle.kernel_tree.specs.Wrap.{wrap, residue, bits_of, is_signed}
use Rattle.kernel_meaning.specs.TypeValues.{least, greatest, IsOf, fits}

-- a value of so many bits, signed or not
abbrev pub InBits : Bool → ℕ → ℤ → Type 0
InBits true k (pos n) = n < 2 ^ (k - 1)
InBits true k (negsuc n) = n < 2 ^ (k - 1)
InBits false k (pos n) = n < 2 ^ k
InBits false k (negsuc n) = ⊥

pub in_bits : (t : Ty) (v : ℤ) → IsOf t v → InBits (is_signed t) (bits_of t) v
in_bits ty.I8 (negsuc n) h = let a = h.0 in let b = h.1 in omega (arith, ints)
in_bits ty.I16 (negsuc n) h = let a = h.0 in let b = h.1 in omega (arith, ints)
in_bits ty.I32 (negsuc n) h = let a = h.0 in let b = h.1 in omega (arith, ints)
in_bits ty.I64 (negsuc n) h = let a = h.0 in let b = h.1 in omega (arith, ints)
in_bits t (negsuc n) h = let a = h.0 in absurd (omega (arith, ints))
in_bits t v h = let a = h.0 in let b = h.1 in omega (arith, ints)

pub is_of : (t : Ty) (v : ℤ) → InBits (is_signed t) (bits_of t) v → IsOf t v
is_of ty.I8 (negsuc n) h = (omega (arith, ints, h), omega (arith, ints))
is_of ty.I16 (negsuc n) h = (omega (arith, ints, h), omega (arith, ints))
is_of ty.I32 (negsuc n) h = (omega (arith, ints, h), omega (arith, ints))
is_of ty.I64 (negsuc n) h = (omega (arith, ints, h), omega (arith, ints))
is_of t (negsuc n) h = absurd h
is_of t v h = (omega (arith, ints), omega (arith, ints, h))

-- in more bits
pub widened : (sg : Bool) (k j : ℕ) (v : ℤ) → k ≤ j → InBits sg k v → InBits sg j v
widened true k j (pos n) le h = let fewer : k - 1 ≤ j - 1 = omega arith in let up : 2 ^ (k - 1) ≤ 2 ^ (j - 1) = pow_mono fewer in omega (arith, h, up)
widened true k j (negsuc n) le h = let fewer : k - 1 ≤ j - 1 = omega arith in let up : 2 ^ (k - 1) ≤ 2 ^ (j - 1) = pow_mono fewer in omega (arith, h, up)
widened false k j (pos n) le h = let up : 2 ^ k ≤ 2 ^ j = pow_mono le in omega (arith, h, up)
widened false k j (negsuc n) le h = absurd h

-- ---- wrapping gives a value of the type, and keeps one

pub residue-below : (k : ℕ) (z : ℤ) → 0 < 2 ^ k → residue k z < 2 ^ k
residue-below k (pos n) h = omega arith
residue-below k (negsuc n) h = omega arith

signed_8 : (b : Bool) (m : ℕ) → ltb m (2 ^ 7) ≡ b → m < 2 ^ 8 → InBits true 8 (cast_signed w8 m)
signed_8 true m e h = rw e (omega (arith, ltb-true m (2 ^ 7) e))
signed_8 false m e h = rw e (omega (arith, ltb-false m (2 ^ 7) e, h))

signed_16 : (b : Bool) (m : ℕ) → ltb m (2 ^ 15) ≡ b → m < 2 ^ 16 → InBits true 16 (cast_signed w16 m)
signed_16 true m e h = rw e (omega (arith, ltb-true m (2 ^ 15) e))
signed_16 false m e h = rw e (omega (arith, ltb-false m (2 ^ 15) e, h))

signed_32 : (b : Bool) (m : ℕ) → ltb m (2 ^ 31) ≡ b → m < 2 ^ 32 → InBits true 32 (cast_signed w32 m)
signed_32 true m e h = rw e (omega (arith, ltb-true m (2 ^ 31) e))
signed_32 false m e h = rw e (omega (arith, ltb-false m (2 ^ 31) e, h))

signed_64 : (b : Bool) (m : ℕ) → ltb m (2 ^ 63) ≡ b → m < 2 ^ 64 → InBits true 64 (cast_signed w64 m)
signed_64 true m e h = rw e (omega (arith, ltb-true m (2 ^ 63) e))
signed_64 false m e h = rw e (omega (arith, ltb-false m (2 ^ 63) e, h))

pub wrap-in : (t : Ty) (z : ℤ) → InBits (is_signed t) (bits_of t) (wrap t z)
wrap-in ty.I8 z = signed_8 _ (residue 8 z) refl (residue-below 8 z (omega arith))
wrap-in ty.I16 z = signed_16 _ (residue 16 z) refl (residue-below 16 z (omega arith))
wrap-in ty.I32 z = signed_32 _ (residue 32 z) refl (residue-below 32 z (omega arith))
wrap-in ty.I64 z = signed_64 _ (residue 64 z) refl (residue-below 64 z (omega arith))
wrap-in ty.U8 z = residue-below 8 z (omega arith)
wrap-in ty.U16 z = residue-below 16 z (omega arith)
wrap-in ty.U32 z = residue-below 32 z (omega arith)
wrap-in ty.U64 z = residue-below 64 z (omega arith)

-- each made value is one of its type
pub wrap-is_of : (t : Ty) (z : ℤ) → IsOf t (wrap t z)
wrap-is_of t z = is_of t (wrap t z) (wrap-in t z)

kept_8 : (v : ℤ) → InBits true 8 v → cast_signed w8 (residue 8 v) ≡ v
kept_8 (pos n) h = let e : n % 2 ^ 8 ≡ n = mod-eq_of_lt (omega (arith, h)) in let f : ltb n (2 ^ 7) ≡ true = lt-ltb n (2 ^ 7) h in rw (e, f) refl
kept_8 (negsuc n) h = let e : 2 ^ 8 - 1 - n % 2 ^ 8 ≡ 2 ^ 8 - 1 - n = omega (arith, h) in let f : ltb (2 ^ 8 - 1 - n) (2 ^ 7) ≡ false = le-ltb _ _ (omega (arith, h)) in rw (e, f) (ap negsuc (omega (arith, h)))

kept_16 : (v : ℤ) → InBits true 16 v → cast_signed w16 (residue 16 v) ≡ v
kept_16 (pos n) h = let e : n % 2 ^ 16 ≡ n = mod-eq_of_lt (omega (arith, h)) in let f : ltb n (2 ^ 15) ≡ true = lt-ltb n (2 ^ 15) h in rw (e, f) refl
kept_16 (negsuc n) h = let e : 2 ^ 16 - 1 - n % 2 ^ 16 ≡ 2 ^ 16 - 1 - n = omega (arith, h) in let f : ltb (2 ^ 16 - 1 - n) (2 ^ 15) ≡ false = le-ltb _ _ (omega (arith, h)) in rw (e, f) (ap negsuc (omega (arith, h)))

kept_32 : (v : ℤ) → InBits true 32 v → cast_signed w32 (residue 32 v) ≡ v
kept_32 (pos n) h = let e : n % 2 ^ 32 ≡ n = mod-eq_of_lt (omega (arith, h)) in let f : ltb n (2 ^ 31) ≡ true = lt-ltb n (2 ^ 31) h in rw (e, f) refl
kept_32 (negsuc n) h = let e : 2 ^ 32 - 1 - n % 2 ^ 32 ≡ 2 ^ 32 - 1 - n = omega (arith, h) in let f : ltb (2 ^ 32 - 1 - n) (2 ^ 31) ≡ false = le-ltb _ _ (omega (arith, h)) in rw (e, f) (ap negsuc (omega (arith, h)))

kept_64 : (v : ℤ) → InBits true 64 v → cast_signed w64 (residue 64 v) ≡ v
kept_64 (pos n) h = let e : n % 2 ^ 64 ≡ n = mod-eq_of_lt (omega (arith, h)) in let f : ltb n (2 ^ 63) ≡ true = lt-ltb n (2 ^ 63) h in rw (e, f) refl
kept_64 (negsuc n) h = let e : 2 ^ 64 - 1 - n % 2 ^ 64 ≡ 2 ^ 64 - 1 - n = omega (arith, h) in let f : ltb (2 ^ 64 - 1 - n) (2 ^ 63) ≡ false = le-ltb _ _ (omega (arith, h)) in rw (e, f) (ap negsuc (omega (arith, h)))

kept_unsigned : (k : ℕ) (v : ℤ) → InBits false k v → pos (residue k v) ≡ v
kept_unsigned k (pos n) h = ap pos (mod-eq_of_lt h)
kept_unsigned k (negsuc n) h = absurd h

wrap-in_bits : (t : Ty) (v : ℤ) → InBits (is_signed t) (bits_of t) v → wrap t v ≡ v
wrap-in_bits ty.I8 v h = kept_8 v h
wrap-in_bits ty.I16 v h = kept_16 v h
wrap-in_bits ty.I32 v h = kept_32 v h
wrap-in_bits ty.I64 v h = kept_64 v h
wrap-in_bits ty.U8 v h = kept_unsigned 8 v h
wrap-in_bits ty.U16 v h = kept_unsigned 16 v h
wrap-in_bits ty.U32 v h = kept_unsigned 32 v h
wrap-in_bits ty.U64 v h = kept_unsigned 64 v h

pub wrap-of : (t : Ty) (v : ℤ) → IsOf t v → wrap t v ≡ v
wrap-of t v h = wrap-in_bits t v (in_bits t v h)

-- ---- operators that stay within the type

pub of-fits : (s t : Ty) (v : ℤ) → fits s t ≡ true → IsOf s v → IsOf t v
of-fits s t v e h =
    let parts = and_parts (int_le (least t) (least s)) (int_le (greatest s) (greatest t)) e in
    let low = parts.0 in
    let high = parts.1 in
    let a = h.0 in
    let b = h.1 in
    (omega (arith, ints), omega (arith, ints))

pub of-cond : (t : Ty) (b : Bool) (x y : ℤ) → IsOf t x → IsOf t y → IsOf t (cond b x y)
of-cond t true x y h k = h
of-cond t false x y h k = k

shr-in : (sg : Bool) (k c : ℕ) (v : ℤ) → InBits sg k v → InBits sg k (int_shr v c)
shr-in true k c (pos n) h = let le = div-le_self n (2 ^ c) in omega (arith, h, le)
shr-in true k c (negsuc n) h = let le = div-le_self n (2 ^ c) in omega (arith, h, le)
shr-in false k c (pos n) h = let le = div-le_self n (2 ^ c) in omega (arith, h, le)
shr-in false k c (negsuc n) h = absurd h

pub of-shr : (t : Ty) (c : ℕ) (v : ℤ) → IsOf t v → IsOf t (int_shr v c)
of-shr t c v h = is_of t (int_shr v c) (shr-in (is_signed t) (bits_of t) c v (in_bits t v h))

-- the contrary of each bit, as an integer
abbrev pub flipped : ℤ → ℤ
flipped (pos n) = negsuc n
flipped (negsuc n) = pos n

pub flip-is : (v : ℤ) → neg_ℤ v -ℤ pos 1 ≡ flipped v
flip-is (pos n) = omega (arith, ints)
flip-is (negsuc n) = omega (arith, ints)

flip-in : (k : ℕ) (v : ℤ) → InBits true k v → InBits true k (flipped v)
flip-in k (pos n) h = h
flip-in k (negsuc n) h = h

pub of-flip : (t : Ty) (v : ℤ) → is_signed t ≡ true → IsOf t v → IsOf t (neg_ℤ v -ℤ pos 1)
of-flip t v e h =
    subst (IsOf t) (sym (flip-is v))
    (is_of t (flipped v) (subst (λ b. InBits b (bits_of t) (flipped v)) (sym e) (flip-in (bits_of t) v (subst (λ b. InBits b (bits_of t) v) e (in_bits t v h)))))

abs-in : (k : ℕ) (v : ℤ) → InBits false k v → pos (unsigned_abs v) ≡ v
abs-in k (pos n) h = refl
abs-in k (negsuc n) h = absurd h

pub abs-unsigned : (t : Ty) (v : ℤ) → is_signed t ≡ false → IsOf t v → pos (unsigned_abs v) ≡ v
abs-unsigned t v e h = abs-in (bits_of t) v (subst (λ b. InBits b (bits_of t) v) e (in_bits t v h))

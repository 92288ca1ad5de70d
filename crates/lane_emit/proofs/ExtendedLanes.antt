-- When a lane keeps the extended form, and the extension of a lane by a narrower type.
use Rattle.std.proofs.Common.{◌≡◌, ℕ, suc, ◌+◌, ◌-◌, ◌/◌, ◌%◌, ◌^◌, ◌<◌, ◌≤◌, ℤ, pos, negsuc, Bool, true, false, refl, sym, ap, ◌∙◌, subst, arith, cond, ltb, bit_and, bit_or, bit_xor}
use Rattle.std.specs.Int.{w8, w16, w32, w64, cast_signed}
use Rattle.std.proofs.lemmas.Bool.{ltb-false}
use Rattle.std.proofs.Math.Nat.{mod-eq_of_lt}
use Rattle.std.proofs.Math.Pow.{pow_mono}
use Rattle.guest_types.proofs.Shifts.{modulus-power}
use Rattle.guest_types.specs.declared.length.Width.{Width}
use Rattle.guest_types.specs.declared.length.Width.TheVariants.{B, H, S, D}
use Rattle.guest_types.specs.declared.operation.LaneUnary.TheVariants as unaries
use Rattle.guest_types.specs.Length.{width_bits, modulus}
use Rattle.guest_types.specs.Lanes.{unary}
use Rattle.kernel_tree.specs.declared.ops.Ty.{Ty}
use Rattle.kernel_tree.specs.declared.ops.Ty.TheVariants as ty
use Rattle.kernel_tree.specs.Wrap.{wrap, residue, bits_of}
use Rattle.kernel_meaning.specs.Operators.{word}
use Rattle.kernel_meaning.proofs.ExtendedForm as words
use Rattle.lane_emit.specs.Right.{IsOf}
use Rattle.lane_emit.proofs.Residues.{held, held-same}
use Rattle.kernel_meaning.proofs.TypeRanges.{residue-below}

-- and, or and exclusive or of two values of a type need no extension
pub and-kept : (w : Width) (t : Ty) (x y : ℤ) → IsOf t x → IsOf t y → held w (wrap t (pos (bit_and (word x) (word y)))) ≡ held w (pos (bit_and (word x) (word y)))
and-kept w t x y h k = held-same w (wrap t (pos (bit_and (word x) (word y)))) (pos (bit_and (word x) (word y))) (words.and-kept t x y h k)

pub or-kept : (w : Width) (t : Ty) (x y : ℤ) → IsOf t x → IsOf t y → held w (wrap t (pos (bit_or (word x) (word y)))) ≡ held w (pos (bit_or (word x) (word y)))
or-kept w t x y h k = held-same w (wrap t (pos (bit_or (word x) (word y)))) (pos (bit_or (word x) (word y))) (words.or-kept t x y h k)

pub xor-kept : (w : Width) (t : Ty) (x y : ℤ) → IsOf t x → IsOf t y → held w (wrap t (pos (bit_xor (word x) (word y)))) ≡ held w (pos (bit_xor (word x) (word y)))
xor-kept w t x y h k = held-same w (wrap t (pos (bit_xor (word x) (word y)))) (pos (bit_xor (word x) (word y))) (words.xor-kept t x y h k)

-- ---- extension

-- a lane as wide as the type holds of a wrapped value what it holds of the value
signed_kept_8 : (b : Bool) (r : ℕ) → ltb r (2 ^ 7) ≡ b → r < 2 ^ 8 → residue 8 (cast_signed w8 r) ≡ r
signed_kept_8 true r e h = rw e (omega (arith, h))
signed_kept_8 false r e h = rw e (omega (arith, h, ltb-false r (2 ^ 7) e))

signed_kept_16 : (b : Bool) (r : ℕ) → ltb r (2 ^ 15) ≡ b → r < 2 ^ 16 → residue 16 (cast_signed w16 r) ≡ r
signed_kept_16 true r e h = rw e (omega (arith, h))
signed_kept_16 false r e h = rw e (omega (arith, h, ltb-false r (2 ^ 15) e))

signed_kept_32 : (b : Bool) (r : ℕ) → ltb r (2 ^ 31) ≡ b → r < 2 ^ 32 → residue 32 (cast_signed w32 r) ≡ r
signed_kept_32 true r e h = rw e (omega (arith, h))
signed_kept_32 false r e h = rw e (omega (arith, h, ltb-false r (2 ^ 31) e))

signed_kept_64 : (b : Bool) (r : ℕ) → ltb r (2 ^ 63) ≡ b → r < 2 ^ 64 → residue 64 (cast_signed w64 r) ≡ r
signed_kept_64 true r e h = rw e (omega (arith, h))
signed_kept_64 false r e h = rw e (omega (arith, h, ltb-false r (2 ^ 63) e))

residue-wrap : (t : Ty) (z : ℤ) → residue (bits_of t) (wrap t z) ≡ residue (bits_of t) z
residue-wrap ty.I8 z = signed_kept_8 _ (residue 8 z) refl (residue-below 8 z (omega arith))
residue-wrap ty.I16 z = signed_kept_16 _ (residue 16 z) refl (residue-below 16 z (omega arith))
residue-wrap ty.I32 z = signed_kept_32 _ (residue 32 z) refl (residue-below 32 z (omega arith))
residue-wrap ty.I64 z = signed_kept_64 _ (residue 64 z) refl (residue-below 64 z (omega arith))
residue-wrap ty.U8 z = mod-eq_of_lt (residue-below 8 z (omega arith))
residue-wrap ty.U16 z = mod-eq_of_lt (residue-below 16 z (omega arith))
residue-wrap ty.U32 z = mod-eq_of_lt (residue-below 32 z (omega arith))
residue-wrap ty.U64 z = mod-eq_of_lt (residue-below 64 z (omega arith))

pub held-wrap : (w : Width) (t : Ty) (z : ℤ) → bits_of t ≡ width_bits w → held w (wrap t z) ≡ held w z
held-wrap w t z e = subst (λ k. residue k (wrap t z) ≡ residue k z) e (residue-wrap t z)

-- the low bits of a lane
low_8 : (w : Width) (z : ℤ) → held w z % 2 ^ 8 ≡ residue 8 z
low_8 B (pos n) = omega arith
low_8 B (negsuc n) = omega arith
low_8 H (pos n) = omega arith
low_8 H (negsuc n) = omega arith
low_8 S (pos n) = omega arith
low_8 S (negsuc n) = omega arith
low_8 D (pos n) = omega arith
low_8 D (negsuc n) = omega arith

low_16 : (w : Width) (z : ℤ) → 16 ≤ width_bits w → held w z % 2 ^ 16 ≡ residue 16 z
low_16 B z h = absurd (omega (arith, h))
low_16 H (pos n) h = omega arith
low_16 H (negsuc n) h = omega arith
low_16 S (pos n) h = omega arith
low_16 S (negsuc n) h = omega arith
low_16 D (pos n) h = omega arith
low_16 D (negsuc n) h = omega arith

low_32 : (w : Width) (z : ℤ) → 32 ≤ width_bits w → held w z % 2 ^ 32 ≡ residue 32 z
low_32 B z h = absurd (omega (arith, h))
low_32 H z h = absurd (omega (arith, h))
low_32 S (pos n) h = omega arith
low_32 S (negsuc n) h = omega arith
low_32 D (pos n) h = omega arith
low_32 D (negsuc n) h = omega arith

-- a small number in a lane
small_held : (w : Width) (k r : ℕ) → r < 2 ^ k → k ≤ width_bits w → held w (pos r) ≡ r
small_held w k r h le = mod-eq_of_lt (let up : 2 ^ k ≤ 2 ^ width_bits w = pow_mono le in omega (arith, h, up))

-- one below zero by r more than it has room for
down_held : (w : Width) (k r : ℕ) → r < 2 ^ k → k ≤ width_bits w → held w (negsuc (2 ^ k - suc r)) ≡ r + (modulus w - 2 ^ k)
down_held w k r h le =
    let up : 2 ^ k ≤ 2 ^ width_bits w = pow_mono le in
    let small : (2 ^ k - suc r) % 2 ^ width_bits w ≡ 2 ^ k - suc r = mod-eq_of_lt (omega (arith, h, up)) in
    ap (λ m. 2 ^ width_bits w - 1 - m) small ∙ ap (λ m. m - 1 - (2 ^ k - suc r)) (sym (modulus-power w)) ∙ (let up2 : 2 ^ k ≤ modulus w = subst (λ m. 2 ^ k ≤ m) (sym (modulus-power w)) up in omega (arith, h, up2))

signed_out_8 : (w : Width) (b : Bool) (r : ℕ) → ltb r (2 ^ 7) ≡ b → r < 2 ^ 8 → 8 ≤ width_bits w → cond b r (r + (modulus w - 2 ^ 8)) ≡ held w (cast_signed w8 r)
signed_out_8 w true r e h le = rw e (sym (small_held w 8 r h le))
signed_out_8 w false r e h le = rw e (sym (down_held w 8 r h le))

signed_out_16 : (w : Width) (b : Bool) (r : ℕ) → ltb r (2 ^ 15) ≡ b → r < 2 ^ 16 → 16 ≤ width_bits w → cond b r (r + (modulus w - 2 ^ 16)) ≡ held w (cast_signed w16 r)
signed_out_16 w true r e h le = rw e (sym (small_held w 16 r h le))
signed_out_16 w false r e h le = rw e (sym (down_held w 16 r h le))

signed_out_32 : (w : Width) (b : Bool) (r : ℕ) → ltb r (2 ^ 31) ≡ b → r < 2 ^ 32 → 32 ≤ width_bits w → cond b r (r + (modulus w - 2 ^ 32)) ≡ held w (cast_signed w32 r)
signed_out_32 w true r e h le = rw e (sym (small_held w 32 r h le))
signed_out_32 w false r e h le = rw e (sym (down_held w 32 r h le))

-- what an extension leaves
abbrev signed_out : ℕ → Width → ℕ → ℕ
signed_out s w r = cond (ltb r (s / 2)) r (r + (modulus w - s))

pub sxtb-held : (w : Width) (z : ℤ) → 8 ≤ width_bits w → unary unaries.SxtB (modulus w) (held w z) ≡ held w (wrap ty.I8 z)
sxtb-held w z le = ap (signed_out (2 ^ 8) w) (low_8 w z) ∙ signed_out_8 w (ltb (residue 8 z) (2 ^ 7)) (residue 8 z) refl (residue-below 8 z (omega arith)) le

pub sxth-held : (w : Width) (z : ℤ) → 16 ≤ width_bits w → unary unaries.SxtH (modulus w) (held w z) ≡ held w (wrap ty.I16 z)
sxth-held w z le = ap (signed_out (2 ^ 16) w) (low_16 w z le) ∙ signed_out_16 w (ltb (residue 16 z) (2 ^ 15)) (residue 16 z) refl (residue-below 16 z (omega arith)) le

pub sxtw-held : (w : Width) (z : ℤ) → 32 ≤ width_bits w → unary unaries.SxtW (modulus w) (held w z) ≡ held w (wrap ty.I32 z)
sxtw-held w z le = ap (signed_out (2 ^ 32) w) (low_32 w z le) ∙ signed_out_32 w (ltb (residue 32 z) (2 ^ 31)) (residue 32 z) refl (residue-below 32 z (omega arith)) le

pub uxtb-held : (w : Width) (z : ℤ) → 8 ≤ width_bits w → unary unaries.UxtB (modulus w) (held w z) ≡ held w (wrap ty.U8 z)
uxtb-held w z le = low_8 w z ∙ sym (small_held w 8 (residue 8 z) (residue-below 8 z (omega arith)) le)

pub uxth-held : (w : Width) (z : ℤ) → 16 ≤ width_bits w → unary unaries.UxtH (modulus w) (held w z) ≡ held w (wrap ty.U16 z)
uxth-held w z le = low_16 w z le ∙ sym (small_held w 16 (residue 16 z) (residue-below 16 z (omega arith)) le)

pub uxtw-held : (w : Width) (z : ℤ) → 32 ≤ width_bits w → unary unaries.UxtW (modulus w) (held w z) ≡ held w (wrap ty.U32 z)
uxtw-held w z le = low_32 w z le ∙ sym (small_held w 32 (residue 32 z) (residue-below 32 z (omega arith)) le)

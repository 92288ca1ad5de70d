-- The form of a load of a type into lanes that are no narrower.
use Rattle.std.proofs.Common.{◌≡◌, ℕ, ◌^◌, ◌<◌, ◌≤◌, pos, false, refl, sym, ap, ◌∙◌, subst, arith}
use Rattle.std.specs.Prelude.{if◌then◌else◌}
use Rattle.std.specs.Int.{cast_signed}
use Rattle.std.proofs.Math.Nat.{mod-eq_of_lt}
use Rattle.std.proofs.Math.Pow.{pow_mono}
use Rattle.guest_types.specs.declared.length.Width.{Width}
use Rattle.guest_types.specs.declared.length.Width.TheVariants.{B, H, S, D}
use Rattle.guest_types.specs.Length.{width_bits, width_bytes, modulus}
use Rattle.guest_types.specs.Lanes.{sign_extended}
use Rattle.guest_types.specs.LaneMemory.{load_form, extended}
use Rattle.kernel_tree.specs.declared.ops.Ty.{Ty}
use Rattle.kernel_tree.specs.declared.ops.Ty.TheVariants as ty
use Rattle.kernel_tree.specs.Wrap.{wrap, residue, bits_of, is_signed, integer_width, byte_count}
use Rattle.lane_emit.proofs.Residues.{held, held-plain}
use Rattle.lane_emit.proofs.ExtendedLanes.{held-wrap, sxtb-held, sxth-held, sxtw-held}
use Rattle.chunk_emit.specs.ChunkCode.{dtype_of}

-- a number of a type's bytes in a lane
up : (t : Ty) (w : Width) (v : ℕ) → bits_of t ≤ width_bits w → v < 2 ^ bits_of t → v < 2 ^ width_bits w
up t w v le lt = let most : 2 ^ bits_of t ≤ 2 ^ width_bits w = pow_mono le in omega (arith, lt, most)

unsigned_held : (t : Ty) (w : Width) (v : ℕ) → is_signed t ≡ false → bits_of t ≤ width_bits w → v < 2 ^ bits_of t → v ≡ held w (wrap t (pos v))
unsigned_held t w v kind le lt =
    let is : wrap t (pos v) ≡ pos v = ap (λ b. if b then cast_signed (integer_width t) (residue (bits_of t) (pos v)) else pos (residue (bits_of t) (pos v))) kind ∙ ap pos (mod-eq_of_lt lt) in
    sym (ap (held w) is ∙ held-plain w v (up t w v le lt))

same_held : (t : Ty) (w : Width) (v : ℕ) → bits_of t ≡ width_bits w → v < 2 ^ bits_of t → v ≡ held w (wrap t (pos v))
same_held t w v e lt = sym (held-wrap w t (pos v) e ∙ held-plain w v (subst (λ k. v < 2 ^ k) e lt))

-- the form has the size of the type and that of the lane, and gives the value that was read
pub record IsForm (t : Ty) (w : Width) : Type 0 where
  pub memory : width_bytes (load_form (dtype_of t w)).memory ≡ byte_count t
  pub element : (load_form (dtype_of t w)).element ≡ w
  pub reads : (v : ℕ) → v < 2 ^ bits_of t → extended (load_form (dtype_of t w)) v ≡ held w (wrap t (pos v))

byte_form : (w : Width) (v : ℕ) → 8 ≤ width_bits w → v < 2 ^ 8 → sign_extended (2 ^ 8) (modulus w) v ≡ held w (wrap ty.I8 (pos v))
byte_form w v le lt = ap (sign_extended (2 ^ 8) (modulus w)) (sym (held-plain w v (up ty.I8 w v le lt))) ∙ sxtb-held w (pos v) le

half_form : (w : Width) (v : ℕ) → 16 ≤ width_bits w → v < 2 ^ 16 → sign_extended (2 ^ 16) (modulus w) v ≡ held w (wrap ty.I16 (pos v))
half_form w v le lt = ap (sign_extended (2 ^ 16) (modulus w)) (sym (held-plain w v (up ty.I16 w v le lt))) ∙ sxth-held w (pos v) le

word_form : (w : Width) (v : ℕ) → 32 ≤ width_bits w → v < 2 ^ 32 → sign_extended (2 ^ 32) (modulus w) v ≡ held w (wrap ty.I32 (pos v))
word_form w v le lt = ap (sign_extended (2 ^ 32) (modulus w)) (sym (held-plain w v (up ty.I32 w v le lt))) ∙ sxtw-held w (pos v) le

pub is_form : (t : Ty) (w : Width) → bits_of t ≤ width_bits w → IsForm t w
is_form ty.U8 B le = record { memory = refl; element = refl; reads = λ v lt. unsigned_held ty.U8 B v refl le lt }
is_form ty.U8 H le = record { memory = refl; element = refl; reads = λ v lt. unsigned_held ty.U8 H v refl le lt }
is_form ty.U8 S le = record { memory = refl; element = refl; reads = λ v lt. unsigned_held ty.U8 S v refl le lt }
is_form ty.U8 D le = record { memory = refl; element = refl; reads = λ v lt. unsigned_held ty.U8 D v refl le lt }
is_form ty.I8 B le = record { memory = refl; element = refl; reads = λ v lt. same_held ty.I8 B v refl lt }
is_form ty.I8 H le = record { memory = refl; element = refl; reads = λ v lt. byte_form H v le lt }
is_form ty.I8 S le = record { memory = refl; element = refl; reads = λ v lt. byte_form S v le lt }
is_form ty.I8 D le = record { memory = refl; element = refl; reads = λ v lt. byte_form D v le lt }
is_form ty.U16 B le = absurd (omega (arith, le))
is_form ty.U16 H le = record { memory = refl; element = refl; reads = λ v lt. unsigned_held ty.U16 H v refl le lt }
is_form ty.U16 S le = record { memory = refl; element = refl; reads = λ v lt. unsigned_held ty.U16 S v refl le lt }
is_form ty.U16 D le = record { memory = refl; element = refl; reads = λ v lt. unsigned_held ty.U16 D v refl le lt }
is_form ty.I16 B le = absurd (omega (arith, le))
is_form ty.I16 H le = record { memory = refl; element = refl; reads = λ v lt. same_held ty.I16 H v refl lt }
is_form ty.I16 S le = record { memory = refl; element = refl; reads = λ v lt. half_form S v le lt }
is_form ty.I16 D le = record { memory = refl; element = refl; reads = λ v lt. half_form D v le lt }
is_form ty.U32 B le = absurd (omega (arith, le))
is_form ty.U32 H le = absurd (omega (arith, le))
is_form ty.U32 S le = record { memory = refl; element = refl; reads = λ v lt. unsigned_held ty.U32 S v refl le lt }
is_form ty.U32 D le = record { memory = refl; element = refl; reads = λ v lt. unsigned_held ty.U32 D v refl le lt }
is_form ty.I32 B le = absurd (omega (arith, le))
is_form ty.I32 H le = absurd (omega (arith, le))
is_form ty.I32 S le = record { memory = refl; element = refl; reads = λ v lt. same_held ty.I32 S v refl lt }
is_form ty.I32 D le = record { memory = refl; element = refl; reads = λ v lt. word_form D v le lt }
is_form ty.U64 B le = absurd (omega (arith, le))
is_form ty.U64 H le = absurd (omega (arith, le))
is_form ty.U64 S le = absurd (omega (arith, le))
is_form ty.U64 D le = record { memory = refl; element = refl; reads = λ v lt. unsigned_held ty.U64 D v refl le lt }
is_form ty.I64 B le = absurd (omega (arith, le))
is_form ty.I64 H le = absurd (omega (arith, le))
is_form ty.I64 S le = absurd (omega (arith, le))
is_form ty.I64 D le = record { memory = refl; element = refl; reads = λ v lt. same_held ty.I64 D v refl lt }

pub bytes_power : (t : Ty) → 256 ^ byte_count t ≡ 2 ^ bits_of t
bytes_power ty.I8 = refl
bytes_power other = refl

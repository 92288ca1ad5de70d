-- Code of worked items, word by word.
use Rattle.std.proofs.Common.{◌≡◌, pos, [], ◌∷◌, true, false, map, refl}
use Rattle.guest_types.specs.declared.length.Width.TheVariants.{B, H, S, D}
use Rattle.kernel_tree.specs.declared.ops.Ty.TheVariants as ty
use Rattle.kernel_tree.specs.declared.ops.BinaryOp.TheVariants as binary
use Rattle.kernel_tree.specs.declared.ops.CompareOp.TheVariants as compare
use Rattle.word_rows.specs.Row.{spells}
use Rattle.sve_code.specs.Table.{row}
use Rattle.lane_emit.specs.Right.{fits}
use Rattle.lane_emit.specs.LaneCode.{binary_code, shift_code, test_code, invert_code}

-- cmpeq p2.b, p0/z, z1.b, z0.b
equal_bytes : map (spells row) (test_code B compare.Eq ty.U8 2 0 1 0) ≡ 0x2400A022 ∷ []
equal_bytes = refl

-- add z2.s, z0.s, z1.s ; uxtb z2.s, p1/m, z2.s: a sum of bytes in lanes of 32 bits
narrow_sum : map (spells row) (binary_code S binary.Add ty.U8 2 0 1) ≡ 0x04A10002 ∷ 0x0491A442 ∷ []
narrow_sum = refl

-- the same in lanes of 8 bits wants no extension
plain_sum : map (spells row) (binary_code B binary.Add ty.U8 2 0 1) ≡ 0x04210002 ∷ []
plain_sum = refl

-- mul z1.h, p1/m, z1.h, z0.h: the result is in the second operand's register, so the two change places
exchanged : map (spells row) (binary_code H binary.Mul ty.I16 1 0 1) ≡ 0x04500401 ∷ []
exchanged = refl

-- orr z2.d, z0.d, z0.d ; smin z2.d, p1/m, z2.d, z1.d
minimum_is_copied_first : map (spells row) (binary_code D binary.Min ty.I64 2 0 1) ≡ 0x04603002 ∷ 0x04CA0422 ∷ []
minimum_is_copied_first = refl

-- asr z0.h, z0.h, #3
shifted_right : map (spells row) (shift_code H false (pos 3) ty.I16 0 0) ≡ 0x043D9000 ∷ []
shifted_right = refl

-- a value of i8 is one of i16, and not one of u16
held : fits ty.I8 ty.I16 ≡ true
held = refl

not_held : fits ty.I8 ty.U16 ≡ false
not_held = refl

-- bic p4.b, p2/z, p2.b, p3.b
contrary : map (spells row) (invert_code 4 2 3) ≡ 0x25034854 ∷ []
contrary = refl

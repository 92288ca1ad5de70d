-- Bounds of worked expressions.
use Rattle.std.proofs.Common.{◌≡◌, refl, true, false, [], ◌∷◌, Some, None}
use Rattle.std.specs.Prelude.{pos, negsuc, codes}
use Rattle.kernel_tree.specs.declared.ops.Ty.TheVariants as ty
use Rattle.kernel_tree.specs.declared.ops.UnaryOp.TheVariants as unary
use Rattle.kernel_tree.specs.declared.ops.BinaryOp.TheVariants as binary
use Rattle.kernel_tree.specs.declared.ops.CompareOp.TheVariants as compare
use Rattle.kernel_tree.specs.declared.fault.Binding.TheVariants as binding
use Rattle.kernel_tree.specs.Plain.{Term, Literal, Variable, Element, Unary, Operation, Shift, Conversion, Choice, Comparison}
use Rattle.kernel_tree.specs.Typing.{Scope, local}
use Rattle.value_bounds.specs.ValueBounds.{between, product, bounds_of, unary_stays, binary_stays, shift_stays}

-- a is an array of bytes, x a scalar of 32 bits
abbrev scope : Scope
scope = record { visible = local (codes "a") (binding.Array ty.U8) ∷ local (codes "x") (binding.Scalar ty.I32) ∷ []; taken = []; index = None; inside = true }

-- a byte
abbrev byte : Term
byte = Element (codes "a") (Variable (codes "x"))

-- a byte as a value of a wider type
wide : bounds_of scope (Some ty.U16) (Conversion byte ty.U16) ≡ between (pos 0) (pos 255)
wide = refl

-- x as a value of an unsigned type
lost : bounds_of scope (Some ty.U32) (Conversion (Variable (codes "x")) ty.U32) ≡ between (pos 0) (pos 4294967295)
lost = refl

-- a[x] as u16 + 40
sum : bounds_of scope (Some ty.U16) (Operation binary.Add (Conversion byte ty.U16) (Literal (pos 40))) ≡ between (pos 40) (pos 295)
sum = refl

-- min(a[x] as i32 * 3, 255)
least : bounds_of scope (Some ty.I32) (Operation binary.Min (Operation binary.Mul (Conversion byte ty.I32) (Literal (pos 3))) (Literal (pos 255))) ≡ between (pos 0) (pos 255)
least = refl

-- abs(a[x] as i16 - a[x] as i16)
bounds_of_absolute : bounds_of scope (Some ty.I16) (Unary unary.Abs (Operation binary.Sub (Conversion byte ty.I16) (Conversion byte ty.I16))) ≡ between (pos 0) (pos 255)
bounds_of_absolute = refl

-- (a[x] as u16 << 8) >> 4, and one bit more
bounds_of_shifts : bounds_of scope (Some ty.U16) (Shift false (Shift true (Conversion byte ty.U16) (pos 8)) (pos 4)) ≡ between (pos 0) (pos 4080)
bounds_of_shifts = refl

too_far : shift_stays scope (Some ty.U16) true (Conversion byte ty.U16) (pos 9) ≡ false
too_far = refl

-- select(.., a[x] as i32, -1)
bounds_of_choice : bounds_of scope (Some ty.I32) (Choice (Comparison compare.Eq byte byte) (Conversion byte ty.I32) (Literal (negsuc 0))) ≡ between (negsuc 0) (pos 255)
bounds_of_choice = refl

-- x + 1 may leave its type, and so may -x; a[x] * a[x] stays in 16 bits without a sign, and not with one
above : binary_stays scope (Some ty.I32) binary.Add (Variable (codes "x")) (Literal (pos 1)) ≡ false
above = refl

least_negated : unary_stays scope (Some ty.I32) unary.Neg (Variable (codes "x")) ≡ false
least_negated = refl

square : binary_stays scope (Some ty.U16) binary.Mul (Conversion byte ty.U16) (Conversion byte ty.U16) ≡ true
square = refl

square_signed : binary_stays scope (Some ty.I16) binary.Mul (Conversion byte ty.I16) (Conversion byte ty.I16) ≡ false
square_signed = refl

-- (a[x] as i32 & 15) * 3, and the common bits of x and a[x] as i32
bounds_of_masked : bounds_of scope (Some ty.I32) (Operation binary.Mul (Operation binary.And (Conversion byte ty.I32) (Literal (pos 15))) (Literal (pos 3))) ≡ between (pos 0) (pos 45)
bounds_of_masked = refl

bits : bounds_of scope (Some ty.I32) (Operation binary.And (Variable (codes "x")) (Conversion byte ty.I32)) ≡ between (pos 0) (pos 255)
bits = refl

-- the products of the ends
products : product (between (negsuc 2) (pos 5)) (between (negsuc 6) (pos 2)) ≡ between (negsuc 34) (pos 21)
products = refl

-- The code of worked expressions: products and shifts in the words of the operators that use them.
use Rattle.std.proofs.Common.{◌≡◌, ℕ, true, false, List, [], ◌∷◌, Some, None, refl}
use Rattle.std.specs.Prelude.{pos}
use Rattle.a64_code.specs.Table.{madd, msub, movz, orr, eor, add, sub, sbfm, ubfm, ldrsw_register}
use Rattle.kernel_tree.specs.declared.ops.Ty.TheVariants as ty
use Rattle.kernel_tree.specs.declared.ops.BinaryOp.TheVariants as binary
use Rattle.kernel_tree.specs.declared.fault.Binding.TheVariants as binding
use Rattle.kernel_tree.specs.Plain.{Term, Literal, Variable, Element, Operation, Shift, Conversion}
use Rattle.kernel_tree.specs.Typing.{Scope, local}
use Rattle.label_fix.specs.DraftRun.{ins}
use Rattle.scalar_words.specs.Layout.{Layout, Homes}
use Rattle.value_code.specs.Extents.{Low8, Low32, Whole}
use Rattle.value_code.specs.Code.{is_led, loose_code}

abbrev a : List ℕ
a = 97 ∷ []

abbrev b : List ℕ
b = 98 ∷ []

abbrev h : List ℕ
h = 104 ∷ []

abbrev i : List ℕ
i = 105 ∷ []

abbrev k : List ℕ
k = 107 ∷ []

-- an array of i32 in X0, k in X2, b in X3, h in X15, the loop variable in X9
abbrev scope : Scope
scope = record {
  visible = local a (binding.Array ty.I32) ∷ local k (binding.Scalar ty.I32) ∷ local b (binding.Scalar ty.U8) ∷ local h (binding.Scalar ty.U64) ∷ local i binding.Index ∷ [];
  taken = [];
  index = Some i;
  inside = true;
}

abbrev homes : Homes
homes =
    record { name = a; register = 0; last_use = None } ∷ record { name = k; register = 2; last_use = None } ∷ record { name = b; register = 3; last_use = None } ∷ record { name = h; register = 15; last_use = None }
    ∷ record { name = i; register = 9; last_use = None } ∷ []

abbrev layout : Layout
layout = record { regs = 10 ∷ 0 ∷ 11 ∷ 11 ∷ 10 ∷ []; last_uses = 4 ∷ 0 ∷ 3 ∷ 4 ∷ 5 ∷ []; constants = []; loose = [] }

-- a[i] + k * a[i] and a[i] - k * a[i]: 0 the read, 1 the name k, 2 the read, 3 the product, 4 the sum
abbrev product : Term
product = Operation binary.Mul (Variable k) (Element a (Variable i))

sum-low : loose_code layout homes scope Low32 (Some ty.I32) 0 0 (Operation binary.Add (Element a (Variable i)) product) [] ≡ ins ldrsw_register (10 ∷ 0 ∷ 1 ∷ 9 ∷ []) ∷ ins ldrsw_register (11 ∷ 0 ∷ 1 ∷ 9 ∷ []) ∷ ins madd (10 ∷ 2 ∷ 10 ∷ 11 ∷ []) ∷ []
unfolding is_led
sum-low = refl

difference-whole : loose_code layout homes scope Whole (Some ty.I32) 0 0 (Operation binary.Sub (Element a (Variable i)) product) [] ≡ ins ldrsw_register (10 ∷ 0 ∷ 1 ∷ 9 ∷ []) ∷ ins ldrsw_register (11 ∷ 0 ∷ 1 ∷ 9 ∷ []) ∷ ins msub (10 ∷ 2 ∷ 10 ∷ 11 ∷ []) ∷ ins sbfm (10 ∷ 10 ∷ 31 ∷ 0 ∷ []) ∷ []
unfolding is_led
difference-whole = refl

-- h ^ h << 13 and h - (h >> 7) at 64 bits: 0 and 1 the name h, 2 the shift, 3 the operator
left-wide : loose_code layout homes scope Whole (Some ty.U64) 0 0 (Operation binary.Xor (Variable h) (Shift true (Variable h) (pos 13))) [] ≡ ins eor (11 ∷ 15 ∷ 13 ∷ 15 ∷ 0 ∷ []) ∷ []
unfolding is_led
left-wide = refl

right-wide : loose_code layout homes scope Whole (Some ty.U64) 0 0 (Operation binary.Sub (Variable h) (Shift false (Variable h) (pos 7))) [] ≡ ins sub (11 ∷ 15 ∷ 7 ∷ 15 ∷ 1 ∷ []) ∷ []
unfolding is_led
right-wide = refl

-- a shift to the left that & | ^ would have extended is not in their word
left-narrow : loose_code layout homes scope Whole (Some ty.U8) 0 0 (Operation binary.Xor (Variable h) (Shift true (Variable h) (pos 3))) [] ≡ ins orr (11 ∷ 31 ∷ 3 ∷ 15 ∷ 0 ∷ []) ∷ ins ubfm (11 ∷ 11 ∷ 7 ∷ 0 ∷ []) ∷ ins eor (11 ∷ 15 ∷ 0 ∷ 11 ∷ 0 ∷ []) ∷ []
unfolding is_led
left-narrow = refl

-- products and shifts on the left

-- a[i] * k + a[i]: 0 the read, 1 the name k, 2 the product, 3 the read, 4 the sum
abbrev kept_layout : Layout
kept_layout = record { regs = 10 ∷ 0 ∷ 10 ∷ 11 ∷ 10 ∷ []; last_uses = 2 ∷ 0 ∷ 4 ∷ 4 ∷ 5 ∷ []; constants = []; loose = [] }

product-first : loose_code kept_layout homes scope Low32 (Some ty.I32) 0 0 (Operation binary.Add (Operation binary.Mul (Element a (Variable i)) (Variable k)) (Element a (Variable i))) [] ≡ ins ldrsw_register (10 ∷ 0 ∷ 1 ∷ 9 ∷ []) ∷ ins ldrsw_register (11 ∷ 0 ∷ 1 ∷ 9 ∷ []) ∷ ins madd (10 ∷ 10 ∷ 11 ∷ 2 ∷ []) ∷ []
unfolding is_led
product-first = refl

-- a[i] * a[i] + k and a[i] * a[i] + a[i]: 0 and 1 the reads, 2 the product, 3 the name or the read, 4 the sum. The read is made in the
-- register of a factor.
abbrev square : Term
square = Operation binary.Mul (Element a (Variable i)) (Element a (Variable i))

abbrev lost_layout : Layout
lost_layout = record { regs = 10 ∷ 11 ∷ 10 ∷ 11 ∷ 10 ∷ []; last_uses = 2 ∷ 2 ∷ 4 ∷ 4 ∷ 5 ∷ []; constants = []; loose = [] }

abbrev named_layout : Layout
named_layout = record { regs = 10 ∷ 11 ∷ 10 ∷ 0 ∷ 10 ∷ []; last_uses = 2 ∷ 2 ∷ 4 ∷ 0 ∷ 5 ∷ []; constants = []; loose = [] }

product-and-name : loose_code named_layout homes scope Low32 (Some ty.I32) 0 0 (Operation binary.Add square (Variable k)) [] ≡ ins ldrsw_register (10 ∷ 0 ∷ 1 ∷ 9 ∷ []) ∷ ins ldrsw_register (11 ∷ 0 ∷ 1 ∷ 9 ∷ []) ∷ ins madd (10 ∷ 10 ∷ 2 ∷ 11 ∷ []) ∷ []
unfolding is_led
product-and-name = refl

factor-overwritten : loose_code lost_layout homes scope Low32 (Some ty.I32) 0 0 (Operation binary.Add square (Element a (Variable i))) [] ≡
    ins ldrsw_register (10 ∷ 0 ∷ 1 ∷ 9 ∷ [])
    ∷ ins ldrsw_register (11 ∷ 0 ∷ 1 ∷ 9 ∷ [])
    ∷ ins madd (10 ∷ 10 ∷ 31 ∷ 11 ∷ [])
    ∷ ins ldrsw_register (11 ∷ 0 ∷ 1 ∷ 9 ∷ [])
    ∷ ins add (10 ∷ 10 ∷ 0 ∷ 11 ∷ 0 ∷ [])
    ∷ []
unfolding is_led
factor-overwritten = refl

-- (h << 13) ^ h and (h >> 7) - h at 64 bits: 0 the name h, 1 the shift, 2 the name h, 3 the operator; the sides of - stay in their places
abbrev shift_layout : Layout
shift_layout = record { regs = 0 ∷ 11 ∷ 0 ∷ 11 ∷ []; last_uses = 0 ∷ 3 ∷ 0 ∷ 4 ∷ []; constants = []; loose = [] }

shift-first : loose_code shift_layout homes scope Whole (Some ty.U64) 0 0 (Operation binary.Xor (Shift true (Variable h) (pos 13)) (Variable h)) [] ≡ ins eor (11 ∷ 15 ∷ 13 ∷ 15 ∷ 0 ∷ []) ∷ []
unfolding is_led
shift-first = refl

shift-less : loose_code shift_layout homes scope Whole (Some ty.U64) 0 0 (Operation binary.Sub (Shift false (Variable h) (pos 7)) (Variable h)) [] ≡ ins orr (11 ∷ 31 ∷ 7 ∷ 15 ∷ 1 ∷ []) ∷ ins sub (11 ∷ 11 ∷ 0 ∷ 15 ∷ 0 ∷ []) ∷ []
unfolding is_led
shift-less = refl

-- what stays in its type is not extended, and so stands in the word where all of the sum is asked for
abbrev wider : Term
wider = Conversion (Variable b) ty.U16

-- b as u16 + b as u16 * 3: 0 the name, 1 the cast, 2 the name, 3 the cast, 4 three, 5 the product, 6 the sum
abbrev narrow_layout : Layout
narrow_layout = record { regs = 0 ∷ 10 ∷ 0 ∷ 11 ∷ 12 ∷ 11 ∷ 10 ∷ []; last_uses = 0 ∷ 6 ∷ 0 ∷ 5 ∷ 5 ∷ 6 ∷ 7 ∷ []; constants = []; loose = [] }

product-in-type : loose_code narrow_layout homes scope Whole (Some ty.U16) 0 0 (Operation binary.Add wider (Operation binary.Mul wider (Literal (pos 3)))) [] ≡
    ins orr (10 ∷ 31 ∷ 0 ∷ 3 ∷ 0 ∷ [])
    ∷ ins orr (11 ∷ 31 ∷ 0 ∷ 3 ∷ 0 ∷ [])
    ∷ ins movz (12 ∷ 3 ∷ 0 ∷ [])
    ∷ ins madd (10 ∷ 11 ∷ 10 ∷ 12 ∷ [])
    ∷ []
unfolding is_led
product-in-type = refl

-- b as u16 | b as u16 << 3: 0 the name, 1 the cast, 2 the name, 3 the cast, 4 the shift, 5 the operator
abbrev shifted_layout : Layout
shifted_layout = record { regs = 0 ∷ 10 ∷ 0 ∷ 11 ∷ 11 ∷ 10 ∷ []; last_uses = 0 ∷ 5 ∷ 0 ∷ 4 ∷ 5 ∷ 6 ∷ []; constants = []; loose = [] }

shift-in-type : loose_code shifted_layout homes scope Whole (Some ty.U16) 0 0 (Operation binary.Or wider (Shift true wider (pos 3))) [] ≡ ins orr (10 ∷ 31 ∷ 0 ∷ 3 ∷ 0 ∷ []) ∷ ins orr (11 ∷ 31 ∷ 0 ∷ 3 ∷ 0 ∷ []) ∷ ins orr (10 ∷ 10 ∷ 3 ∷ 11 ∷ 0 ∷ []) ∷ []
unfolding is_led
shift-in-type = refl

-- casts that are no word

-- h + b as u64: 0 the name h, 1 the name b, 2 the cast, 3 the sum
cast-after : loose_code shift_layout homes scope Whole (Some ty.U64) 0 0 (Operation binary.Add (Variable h) (Conversion (Variable b) ty.U64)) [] ≡ ins add (11 ∷ 15 ∷ 0 ∷ 3 ∷ 0 ∷ []) ∷ []
unfolding is_led
cast-after = refl

-- the low bits of k as u8 ^ (k >> 8) as u8: 0 the name, 1 the cast, 2 the name, 3 the shift, 4 the cast, 5 the operator
cast-before : loose_code shifted_layout homes scope Low8 (Some ty.U8) 0 0 (Operation binary.Xor (Conversion (Variable k) ty.U8) (Conversion (Shift false (Variable k) (pos 8)) ty.U8)) [] ≡ ins orr (11 ∷ 31 ∷ 8 ∷ 2 ∷ 2 ∷ []) ∷ ins eor (10 ∷ 11 ∷ 0 ∷ 2 ∷ 0 ∷ []) ∷ []
unfolding is_led
cast-before = refl

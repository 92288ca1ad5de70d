-- The code of worked kernels, in which products and casts have no words of their own.
use Rattle.std.proofs.Common.{◌≡◌, ℕ, List, [], ◌∷◌, Some, None, refl}
use Rattle.std.specs.Prelude.{pos, slice_index}
use Rattle.a64_code.specs.Table.{add, add_imm, sub, subs, subs_imm, movz, movk, madd, orr, csel, sbfm, ubfm, ldrsh_register, ldrb_register, str_w_register, svc}
use Rattle.kernel_tree.specs.Plain.{Term, Literal, Variable, Element, Operation, Conversion, Comparison, Either, Define, Put, Update, Choose, Block, Done, Then, Else, Program}
use Rattle.loop_form.specs.Entries.{item_type}
use Rattle.loop_form.specs.Listing.{last_use_from}
use Rattle.label_fix.specs.DraftRun.{Branch, Place, Always, If, NotZero, ins}
use Rattle.value_code.specs.Code.{is_led}
use Rattle.loop_code.specs.Kernel.{scalar_code}
use Rattle.kernel_tree.specs.declared.ops.Ty.TheVariants as ty
use Rattle.kernel_tree.specs.declared.ops.BinaryOp.TheVariants as binary
use Rattle.kernel_tree.specs.declared.ops.UpdateOp.TheVariants as update
use Rattle.kernel_tree.specs.declared.ops.CompareOp.TheVariants as compare
use Rattle.kernel_tree.specs.declared.ast.Shape.TheVariants as shape

abbrev a : List ℕ
a = 97 ∷ []

abbrev b : List ℕ
b = 98 ∷ []

abbrev i : List ℕ
i = 105 ∷ []

abbrev k : List ℕ
k = 107 ∷ []

abbrev m : List ℕ
m = 109 ∷ []

abbrev n : List ℕ
n = 110 ∷ []

abbrev s : List ℕ
s = 115 ∷ []

abbrev t : List ℕ
t = 116 ∷ []

abbrev y : List ℕ
y = 121 ∷ []

-- ---- a product and a number that are held; the accumulator is extended once, after the loop

-- kernel s(a: [u32], n: u64) { var s: u32 = 1; for i in 0..n { s += s * 1664524 + 1013904223; a[i] = s; } }
abbrev lcg : Program
lcg = record {
  name = s;
  params = record { name = a; shape = shape.Array ty.U32 } ∷ record { name = n; shape = shape.Scalar ty.U64 } ∷ [];
  vars = record { name = s; type = ty.U32; init = Literal (pos 1) } ∷ [];
  for_loop = Some (record {
    index = i;
    bound = n;
    body = Then (Update s update.Add (Operation binary.Add (Operation binary.Mul (Variable s) (Literal (pos 1664524))) (Literal (pos 1013904223)))) (Then (Put a (Variable i) (Variable s)) Done);
  });
  answer = None;
}

-- Its items: 0 a, 1 n, 2 one, 3 var, 4 for, 5 the name s, 6 the factor, 7 the product, 8 the number, 9 the sum, 10 +=, 11 the name s,
-- 12 the store.
abbrev lcg-registers : ℕ → ℕ
lcg-registers j = slice_index (0 ∷ 1 ∷ 1 ∷ 1 ∷ 2 ∷ 1 ∷ []) j

lcg-loops : scalar_code lcg-registers lcg 0 [] ≡
    Place 0
    ∷ ins subs (31 ∷ 9 ∷ 0 ∷ 1 ∷ 0 ∷ [])
    ∷ Branch (If 2) 1
    ∷ ins sub (9 ∷ 9 ∷ 0 ∷ 1 ∷ 0 ∷ [])
    ∷ ins add (0 ∷ 0 ∷ 2 ∷ 1 ∷ 0 ∷ [])
    ∷ ins movz (8 ∷ 26124 ∷ 0 ∷ [])
    ∷ ins movk (8 ∷ 25 ∷ 1 ∷ [])
    ∷ ins movz (7 ∷ 62303 ∷ 0 ∷ [])
    ∷ ins movk (7 ∷ 15470 ∷ 1 ∷ [])
    ∷ Place 2
    ∷ ins madd (11 ∷ 10 ∷ 7 ∷ 8 ∷ [])
    ∷ ins add (10 ∷ 10 ∷ 0 ∷ 11 ∷ 0 ∷ [])
    ∷ ins str_w_register (10 ∷ 0 ∷ 1 ∷ 9 ∷ [])
    ∷ ins add_imm (9 ∷ 9 ∷ 1 ∷ 0 ∷ [])
    ∷ Branch (NotZero 9) 2
    ∷ Place 3
    ∷ ins add (9 ∷ 9 ∷ 0 ∷ 1 ∷ 0 ∷ [])
    ∷ ins ubfm (10 ∷ 10 ∷ 31 ∷ 0 ∷ [])
    ∷ Place 1
    ∷ ins movz (0 ∷ 0 ∷ 0 ∷ [])
    ∷ ins movz (8 ∷ 93 ∷ 0 ∷ [])
    ∷ ins svc (0 ∷ [])
    ∷ []
unfolding item_type last_use_from is_led
lcg-loops = refl

-- ---- a product on the left, and casts of names

-- let t = a[i] as i32 * k + b[i + 6] as i32; if t > 384 || b[i] == 7 { y[i] = t; s += t as i64; } else { m max= t; }
abbrev sum : Term
sum = Operation binary.Add (Operation binary.Mul (Conversion (Element a (Variable i)) ty.I32) (Variable k)) (Conversion (Element b (Operation binary.Add (Variable i) (Literal (pos 6)))) ty.I32)

abbrev test : Term
test = Either (Comparison compare.Gt (Variable t) (Literal (pos 384))) (Comparison compare.Eq (Element b (Variable i)) (Literal (pos 7)))

abbrev sweep-body : Block
sweep-body =
    Then (Define t None sum)
    (Then (Choose test (Then (Put y (Variable i) (Variable t)) (Then (Update s update.Add (Conversion (Variable t) ty.I64)) Done)) (Else (Then (Update m update.Max (Variable t)) Done))) Done)

-- kernel s(a: [i16], b: [u8], y: [i32], k: i32, n: u64) -> i64 { var s: i64 = 0; var m: i32 = 90; for i in 0..n { .. } return s + m as i64; }
abbrev sweep : Program
sweep = record {
  name = s;
  params =
      record { name = a; shape = shape.Array ty.I16 } ∷ record { name = b; shape = shape.Array ty.U8 } ∷ record { name = y; shape = shape.Array ty.I32 } ∷ record { name = k; shape = shape.Scalar ty.I32 }
      ∷ record { name = n; shape = shape.Scalar ty.U64 } ∷ [];
  vars = record { name = s; type = ty.I64; init = Literal (pos 0) } ∷ record { name = m; type = ty.I32; init = Literal (pos 90) } ∷ [];
  for_loop = Some (record { index = i; bound = n; body = sweep-body });
  answer = Some (record { type = ty.I64; value = Operation binary.Add (Variable s) (Conversion (Variable m) ty.I64) });
}

-- The items that have values: 5 and 7 the numbers of the accumulators, 10 the read, 11 the cast, 13 the product, 14 the read, 15 the
-- cast, 16 the sum, 17 let, 19 the literal 384, 22 the read, 23 the literal 7, 30 the cast, 38 the cast, 39 the sum.
abbrev sweep-registers : ℕ → ℕ
sweep-registers j = slice_index (0 ∷ 1 ∷ 2 ∷ 2 ∷ 2 ∷ 2 ∷ 2 ∷ 3 ∷ 3 ∷ 2 ∷ 2 ∷ 3 ∷ 3 ∷ 4 ∷ 3 ∷ 2 ∷ 2 ∷ []) j

sweep-loops : scalar_code sweep-registers sweep 0 [] ≡
    Place 0
    ∷ ins subs (31 ∷ 9 ∷ 0 ∷ 4 ∷ 0 ∷ [])
    ∷ Branch (If 2) 1
    ∷ ins sub (9 ∷ 9 ∷ 0 ∷ 4 ∷ 0 ∷ [])
    ∷ ins add (0 ∷ 0 ∷ 1 ∷ 4 ∷ 0 ∷ [])
    ∷ ins add (1 ∷ 1 ∷ 0 ∷ 4 ∷ 0 ∷ [])
    ∷ ins add (2 ∷ 2 ∷ 2 ∷ 4 ∷ 0 ∷ [])
    ∷ ins add_imm (8 ∷ 1 ∷ 6 ∷ 0 ∷ [])
    ∷ Place 2
    ∷ ins ldrsh_register (12 ∷ 0 ∷ 1 ∷ 9 ∷ [])
    ∷ ins ldrb_register (13 ∷ 8 ∷ 9 ∷ [])
    ∷ ins madd (12 ∷ 12 ∷ 13 ∷ 3 ∷ [])
    ∷ ins sbfm (12 ∷ 12 ∷ 31 ∷ 0 ∷ [])
    ∷ ins subs_imm (31 ∷ 12 ∷ 384 ∷ 0 ∷ [])
    ∷ Branch (If 12) 5
    ∷ ins ldrb_register (13 ∷ 1 ∷ 9 ∷ [])
    ∷ ins subs_imm (31 ∷ 13 ∷ 7 ∷ 0 ∷ [])
    ∷ Branch (If 1) 4
    ∷ Place 5
    ∷ ins str_w_register (12 ∷ 2 ∷ 1 ∷ 9 ∷ [])
    ∷ ins add (10 ∷ 10 ∷ 0 ∷ 12 ∷ 0 ∷ [])
    ∷ Branch Always 6
    ∷ Place 4
    ∷ ins subs (31 ∷ 11 ∷ 0 ∷ 12 ∷ 0 ∷ [])
    ∷ ins csel (11 ∷ 11 ∷ 12 ∷ 12 ∷ [])
    ∷ Place 6
    ∷ ins add_imm (9 ∷ 9 ∷ 1 ∷ 0 ∷ [])
    ∷ Branch (NotZero 9) 2
    ∷ Place 3
    ∷ ins add (9 ∷ 9 ∷ 0 ∷ 4 ∷ 0 ∷ [])
    ∷ Place 1
    ∷ ins add (12 ∷ 10 ∷ 0 ∷ 11 ∷ 0 ∷ [])
    ∷ ins orr (0 ∷ 31 ∷ 0 ∷ 12 ∷ 0 ∷ [])
    ∷ ins movz (8 ∷ 93 ∷ 0 ∷ [])
    ∷ ins svc (0 ∷ [])
    ∷ []
unfolding item_type last_use_from is_led
sweep-loops = refl

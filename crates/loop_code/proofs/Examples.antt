-- The code of worked kernels.
use Rattle.std.proofs.Common.{◌≡◌, ℕ, List, [], ◌∷◌, Some, None, refl}
use Rattle.std.specs.Prelude.{pos, slice_index}
use Rattle.kernel_tree.specs.Plain.{Literal, Variable, Element, Operation, Conversion, Comparison, Define, Put, Choose, Leave, Block, Done, Then, Else, Program}
use Rattle.a64_code.specs.Table.{add, sub, add_imm, sub_imm, subs, subs_imm, movz, movk, csel, ldrb_register, ldrsb_register, strb_register, svc}
use Rattle.loop_form.specs.Entries.{item_type}
use Rattle.loop_form.specs.Listing.{last_use_from}
use Rattle.value_code.specs.Code.{is_led}
use Rattle.label_fix.specs.DraftRun.{Branch, Place, Always, If, Zero, NotZero, ins}
use Rattle.scalar_words.specs.Layout.{OfNumber, Constant}
use Rattle.loop_code.specs.LoopNumbers.{held_numbers}
use Rattle.loop_code.specs.Loop.{numbers_code}
use Rattle.loop_code.specs.Kernel.{begin_code, begin_labels, scalar_code, scalar_labels}
use Rattle.kernel_tree.specs.declared.ops.Ty.TheVariants as ty
use Rattle.kernel_tree.specs.declared.ops.BinaryOp.TheVariants as binary
use Rattle.kernel_tree.specs.declared.ops.CompareOp.TheVariants as compare
use Rattle.kernel_tree.specs.declared.ast.Shape.TheVariants as shape

abbrev a : List ℕ
a = 97 ∷ []

abbrev i : List ℕ
i = 105 ∷ []

abbrev n : List ℕ
n = 110 ∷ []

abbrev x : List ℕ
x = 120 ∷ []

-- break if a[i] == 0; if a[i] < 1 { let x = a[i + 1]; a[i] = x; } else { a[i] = a[i - 1]; }
abbrev body : Block
body =
    Then (Leave (Comparison compare.Eq (Element a (Variable i)) (Literal (pos 0))))
    (Then (Choose (Comparison compare.Lt (Element a (Variable i)) (Literal (pos 1)))
    (Then (Define x None (Element a (Operation binary.Add (Variable i) (Literal (pos 1))))) (Then (Put a (Variable i) (Variable x)) Done))
    (Else (Then (Put a (Variable i) (Element a (Operation binary.Sub (Variable i) (Literal (pos 1))))) Done)))
    Done)

-- kernel x(a: [i8], n: u64) { for i in 0..n { .. } }
abbrev worked : Program
worked = record {
  name = x;
  params = record { name = a; shape = shape.Array ty.I8 } ∷ record { name = n; shape = shape.Scalar ty.U64 } ∷ [];
  vars = [];
  for_loop = Some (record { index = i; bound = n; body = body });
  answer = None;
}

-- Its items: 0 a, 1 n, 2 for, 3 the read, 4 zero, 5 ==, 6 break, 7 the read, 8 one, 9 <, 10 then, 11 the read, 12 let,
-- 13 the name x, 14 the store, 15 else, 16 the read, 17 the store, 18 end. Seven of them have values.
abbrev registers : ℕ → ℕ
registers j = slice_index (0 ∷ 1 ∷ 0 ∷ 1 ∷ 0 ∷ 0 ∷ 0 ∷ []) j

worked-begins : begin_code registers worked 0 [] ≡ ins movz (9 ∷ 0 ∷ 0 ∷ []) ∷ []
unfolding item_type last_use_from
worked-begins = refl

worked-loops : scalar_code registers worked 0 [] ≡
    Place 0
    ∷ ins subs (31 ∷ 9 ∷ 0 ∷ 1 ∷ 0 ∷ [])
    ∷ Branch (If 2) 1
    ∷ ins sub (9 ∷ 9 ∷ 0 ∷ 1 ∷ 0 ∷ [])
    ∷ ins add (0 ∷ 0 ∷ 0 ∷ 1 ∷ 0 ∷ [])
    ∷ ins add_imm (8 ∷ 0 ∷ 1 ∷ 0 ∷ [])
    ∷ ins sub_imm (7 ∷ 0 ∷ 1 ∷ 0 ∷ [])
    ∷ Place 2
    ∷ ins ldrsb_register (10 ∷ 0 ∷ 9 ∷ [])
    ∷ Branch (Zero 10) 3
    ∷ ins ldrsb_register (10 ∷ 0 ∷ 9 ∷ [])
    ∷ ins subs_imm (31 ∷ 10 ∷ 1 ∷ 0 ∷ [])
    ∷ Branch (If 10) 4
    ∷ ins ldrsb_register (10 ∷ 8 ∷ 9 ∷ [])
    ∷ ins strb_register (10 ∷ 0 ∷ 9 ∷ [])
    ∷ Branch Always 5
    ∷ Place 4
    ∷ ins ldrsb_register (10 ∷ 7 ∷ 9 ∷ [])
    ∷ ins strb_register (10 ∷ 0 ∷ 9 ∷ [])
    ∷ Place 5
    ∷ ins add_imm (9 ∷ 9 ∷ 1 ∷ 0 ∷ [])
    ∷ Branch (NotZero 9) 2
    ∷ Place 3
    ∷ ins add (9 ∷ 9 ∷ 0 ∷ 1 ∷ 0 ∷ [])
    ∷ Place 1
    ∷ ins movz (0 ∷ 0 ∷ 0 ∷ [])
    ∷ ins movz (8 ∷ 93 ∷ 0 ∷ [])
    ∷ ins svc (0 ∷ [])
    ∷ []
unfolding item_type last_use_from
worked-loops = refl

worked-labels : (begin_labels worked ≡ 0) × (scalar_labels worked ≡ 6)
worked-labels = (refl, refl)

-- ---- literals that are held

-- let x = a[i] as u16 + 40; a[i] = min(x, 255) as u8;
abbrev bright-body : Block
bright-body =
    Then (Define x None (Operation binary.Add (Conversion (Element a (Variable i)) ty.U16) (Literal (pos 40))))
    (Then (Put a (Variable i) (Conversion (Operation binary.Min (Variable x) (Literal (pos 255))) ty.U8)) Done)

-- kernel x(a: [u8], n: u64) { for i in 0..n { .. } }
abbrev bright : Program
bright = record {
  name = x;
  params = record { name = a; shape = shape.Array ty.U8 } ∷ record { name = n; shape = shape.Scalar ty.U64 } ∷ [];
  vars = [];
  for_loop = Some (record { index = i; bound = n; body = bright-body });
  answer = None;
}

-- Its items: 0 a, 1 n, 2 for, 3 the read, 4 the cast, 5 the literal 40, 6 +, 7 let, 8 the name x, 9 the literal 255, 10 min,
-- 11 the cast, 12 the store.
abbrev bright-registers : ℕ → ℕ
bright-registers j = slice_index (0 ∷ 0 ∷ 1 ∷ 0 ∷ 0 ∷ 1 ∷ 0 ∷ 0 ∷ []) j

-- the word of + holds 40, and X8 holds 255
bright-loops : scalar_code bright-registers bright 0 [] ≡
    Place 0
    ∷ ins subs (31 ∷ 9 ∷ 0 ∷ 1 ∷ 0 ∷ [])
    ∷ Branch (If 2) 1
    ∷ ins sub (9 ∷ 9 ∷ 0 ∷ 1 ∷ 0 ∷ [])
    ∷ ins add (0 ∷ 0 ∷ 0 ∷ 1 ∷ 0 ∷ [])
    ∷ ins movz (8 ∷ 255 ∷ 0 ∷ [])
    ∷ Place 2
    ∷ ins ldrb_register (10 ∷ 0 ∷ 9 ∷ [])
    ∷ ins add_imm (10 ∷ 10 ∷ 40 ∷ 0 ∷ [])
    ∷ ins subs (31 ∷ 10 ∷ 0 ∷ 8 ∷ 0 ∷ [])
    ∷ ins csel (10 ∷ 8 ∷ 8 ∷ 10 ∷ [])
    ∷ ins strb_register (10 ∷ 0 ∷ 9 ∷ [])
    ∷ ins add_imm (9 ∷ 9 ∷ 1 ∷ 0 ∷ [])
    ∷ Branch (NotZero 9) 2
    ∷ Place 3
    ∷ ins add (9 ∷ 9 ∷ 0 ∷ 1 ∷ 0 ∷ [])
    ∷ Place 1
    ∷ ins movz (0 ∷ 0 ∷ 0 ∷ [])
    ∷ ins movz (8 ∷ 93 ∷ 0 ∷ [])
    ∷ ins svc (0 ∷ [])
    ∷ []
unfolding item_type last_use_from is_led
bright-loops = refl

-- y[i] = x[i] * 1000003 + 123456789 + 1000003;
abbrev lits : Program
lits = record {
  name = n;
  params = record { name = a; shape = shape.Array ty.U32 } ∷ record { name = x; shape = shape.Array ty.U32 } ∷ record { name = n; shape = shape.Scalar ty.U64 } ∷ [];
  vars = [];
  for_loop = Some (record {
    index = i;
    bound = n;
    body = Then (Put a (Variable i) (Operation binary.Add (Operation binary.Add (Operation binary.Mul (Element x (Variable i)) (Literal (pos 1000003))) (Literal (pos 123456789))) (Literal (pos 1000003)))) Done;
  });
  answer = None;
}

abbrev lits-numbers : List Constant
lits-numbers = record { key = OfNumber (pos 1000003); register = 8 } ∷ record { key = OfNumber (pos 123456789); register = 7 } ∷ []

-- each number once, in the order of the items
lits-holds : held_numbers registers lits ≡ lits-numbers
lits-holds = refl

lits-loads : numbers_code lits-numbers [] ≡ ins movz (8 ∷ 16963 ∷ 0 ∷ []) ∷ ins movk (8 ∷ 15 ∷ 1 ∷ []) ∷ ins movz (7 ∷ 52501 ∷ 0 ∷ []) ∷ ins movk (7 ∷ 1883 ∷ 1 ∷ []) ∷ []
lits-loads = refl

-- ---- addresses that are held

-- kernel x(a: [u8], n: u64) { for i in 0..n { a[i + 1] = a[i]; } }
abbrev spread : Program
spread = record {
  name = x;
  params = record { name = a; shape = shape.Array ty.U8 } ∷ record { name = n; shape = shape.Scalar ty.U64 } ∷ [];
  vars = [];
  for_loop = Some (record { index = i; bound = n; body = Then (Put a (Operation binary.Add (Variable i) (Literal (pos 1))) (Element a (Variable i))) Done });
  answer = None;
}

-- X8 holds the address of a[1]
spread-loops : scalar_code registers spread 0 [] ≡
    Place 0
    ∷ ins subs (31 ∷ 9 ∷ 0 ∷ 1 ∷ 0 ∷ [])
    ∷ Branch (If 2) 1
    ∷ ins sub (9 ∷ 9 ∷ 0 ∷ 1 ∷ 0 ∷ [])
    ∷ ins add (0 ∷ 0 ∷ 0 ∷ 1 ∷ 0 ∷ [])
    ∷ ins add_imm (8 ∷ 0 ∷ 1 ∷ 0 ∷ [])
    ∷ Place 2
    ∷ ins ldrb_register (10 ∷ 0 ∷ 9 ∷ [])
    ∷ ins strb_register (10 ∷ 8 ∷ 9 ∷ [])
    ∷ ins add_imm (9 ∷ 9 ∷ 1 ∷ 0 ∷ [])
    ∷ Branch (NotZero 9) 2
    ∷ Place 3
    ∷ ins add (9 ∷ 9 ∷ 0 ∷ 1 ∷ 0 ∷ [])
    ∷ Place 1
    ∷ ins movz (0 ∷ 0 ∷ 0 ∷ [])
    ∷ ins movz (8 ∷ 93 ∷ 0 ∷ [])
    ∷ ins svc (0 ∷ [])
    ∷ []
unfolding item_type last_use_from
spread-loops = refl

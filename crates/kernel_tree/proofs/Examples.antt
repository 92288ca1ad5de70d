-- Kernels whose size, faults, types, text and fronts are known.
use Rattle.std.proofs.Common.{◌≡◌, ℕ, List, [], ◌∷◌, Some, None, Ok, Err, refl}
use Rattle.std.specs.Prelude.{codes, pos}
use Rattle.kernel_tree.specs.declared.ops.Ty.TheVariants as ty
use Rattle.kernel_tree.specs.declared.ops.BinaryOp.TheVariants as binary
use Rattle.kernel_tree.specs.declared.ops.CompareOp.TheVariants as compare
use Rattle.kernel_tree.specs.declared.ops.UpdateOp.TheVariants as update
use Rattle.kernel_tree.specs.declared.ast.Shape.TheVariants as shape
use Rattle.kernel_tree.specs.declared.fault.Fault.TheVariants as fault
use Rattle.kernel_tree.specs.declared.mark.Joint.TheVariants as joint
use Rattle.kernel_tree.specs.declared.mark.Mark.TheVariants as mark
use Rattle.kernel_tree.specs.TextToken.{IsName, IsNumber, IsType, IsMark}
use Rattle.kernel_tree.specs.Plain.{Term, Literal, Variable, Element, Operation, Conversion, Comparison, Define, Put, Update, Leave, Done, Then, Program}
use Rattle.kernel_tree.specs.Tokens.{tokens_of, scan}
use Rattle.kernel_tree.specs.Grammar.{number, name, up, operation, some, last, scalar, no_var, no_loop}
use Rattle.kernel_tree.specs.Front.{nothing, above, in_operation, in_param, next_param, no_param, in_params, in_function, in_answer, end_function, Viable}
use Rattle.kernel_tree.specs.Items.{size_of}
use Rattle.kernel_tree.specs.Limits.{depth_of}
use Rattle.kernel_tree.specs.Typing.{check_fault, types_of, Fails}
use Rattle.kernel_tree.specs.Printing.{canonical_words, opened, closed, number_opened, number_closed}

abbrev a : List ℕ
a = codes "a"

abbrev i : List ℕ
i = codes "i"

abbrev n : List ℕ
n = codes "n"

abbrev s : List ℕ
s = codes "s"

abbrev v : List ℕ
v = codes "v"

abbrev x : List ℕ
x = codes "x"

abbrev y : List ℕ
y = codes "y"

abbrev k : List ℕ
k = codes "k"

-- the element at the loop variable
abbrev at : List ℕ → Term
at b = Element b (Variable i)

-- kernel f(x: u64) -> u64 { return x + 1; }
abbrev next : Program
next = record {
  name = codes "f";
  params = record { name = x; shape = shape.Scalar ty.U64 } ∷ [];
  vars = [];
  for_loop = None;
  answer = Some (record { type = ty.U64; value = Operation binary.Add (Variable x) (Literal (pos 1)) });
}

next-tokens : tokens_of (codes "kernel f(x: u64) -> u64 { return x + 1; }") ≡ Ok (canonical_words next)
unfolding scan opened closed number_opened number_closed
next-tokens = refl

next-types : types_of next ≡ None ∷ Some ty.U64 ∷ Some ty.U64 ∷ Some ty.U64 ∷ None ∷ []
next-types = refl

next-fine : check_fault next ≡ None
next-fine = refl

-- kernel f(x: u8) -> u8 { return x + 300; }
wide : check_fault (record next {
  params = record { name = x; shape = shape.Scalar ty.U8 } ∷ [];
  answer = Some (record { type = ty.U8; value = Operation binary.Add (Variable x) (Literal (pos 300)) });
}) ≡ Some (Fails (record { item = 2; fault = fault.LiteralRange }))
wide = refl

-- kernel axpy(y: [i32], x: [i32], k: i32, n: u64) { for i in 0..n { y[i] = y[i] + k * x[i]; } }
abbrev axpy : Program
axpy = record {
  name = codes "axpy";
  params = record { name = y; shape = shape.Array ty.I32 } ∷ record { name = x; shape = shape.Array ty.I32 } ∷ record { name = k; shape = shape.Scalar ty.I32 } ∷ record { name = n; shape = shape.Scalar ty.U64 } ∷ [];
  vars = [];
  for_loop = Some (record { index = i; bound = n; body = Then (Put y (Variable i) (Operation binary.Add (at y) (Operation binary.Mul (Variable k) (at x)))) Done });
  answer = None;
}

axpy-size : size_of axpy ≡ 11
axpy-size = refl

axpy-fine : check_fault axpy ≡ None
axpy-fine = refl

axpy-tokens : tokens_of (codes "kernel axpy(y: [i32], x: [i32], k: i32, n: u64) { for i in 0..n { y[i] = y[i] + (k * x[i]); } }") ≡ Ok (canonical_words axpy)
unfolding scan opened closed number_opened number_closed
axpy-tokens = refl

-- kernel spread(a: [u8], n: u64) { for i in 0..n { a[i + 1] = a[i]; } }
abbrev spread : Program
spread = record {
  name = codes "spread";
  params = record { name = a; shape = shape.Array ty.U8 } ∷ record { name = n; shape = shape.Scalar ty.U64 } ∷ [];
  vars = [];
  for_loop = Some (record { index = i; bound = n; body = Then (Put a (Operation binary.Add (Variable i) (Literal (pos 1))) (at a)) Done });
  answer = None;
}

spread-tokens : tokens_of (codes "kernel spread(a: [u8], n: u64) { // one\n for i in 0..n { a[i + 0x1] = a[i]; } }") ≡ Ok (canonical_words spread)
unfolding scan opened closed number_opened number_closed
spread-tokens = refl

spread-size : size_of spread ≡ 5
spread-size = refl

spread-depth : depth_of spread ≡ 3
spread-depth = refl

spread-fine : check_fault spread ≡ None
spread-fine = refl

spread-types : types_of spread ≡ None ∷ None ∷ None ∷ Some ty.U8 ∷ None ∷ []
spread-types = refl

narrow : check_fault (record spread { params = record { name = a; shape = shape.Array ty.U8 } ∷ record { name = n; shape = shape.Scalar ty.U32 } ∷ [] }) ≡ Some (Fails (record { item = 2; fault = fault.Mismatch ty.U64 ty.U32 }))
narrow = refl

-- kernel pre(a: [u64], n: u64) { var s: u64 = 0; for i in 0..n { s += a[i]; a[i] = s; } }
abbrev pre : Program
pre = record {
  name = codes "pre";
  params = record { name = a; shape = shape.Array ty.U64 } ∷ record { name = n; shape = shape.Scalar ty.U64 } ∷ [];
  vars = record { name = s; type = ty.U64; init = Literal (pos 0) } ∷ [];
  for_loop = Some (record { index = i; bound = n; body = Then (Update s update.Add (at a)) (Then (Put a (Variable i) (Variable s)) Done) });
  answer = None;
}

pre-tokens : tokens_of (codes "kernel pre(a: [u64], n: u64) { var s: u64 = 0; for i in 0..n { s += a[i]; a[i] = s; } }") ≡ Ok (canonical_words pre)
unfolding scan opened closed number_opened number_closed
pre-tokens = refl

pre-size : size_of pre ≡ 9
pre-size = refl

pre-fine : check_fault pre ≡ None
pre-fine = refl

-- kernel bright(p: [u8], n: u64) { for i in 0..n { let v = p[i] as u16 + 40; p[i] = min(v, 255) as u8; } }
abbrev bright : Program
bright = record {
  name = codes "bright";
  params = record { name = a; shape = shape.Array ty.U8 } ∷ record { name = n; shape = shape.Scalar ty.U64 } ∷ [];
  vars = [];
  for_loop = Some (record { index = i; bound = n; body = Then (Define v None (Operation binary.Add (Conversion (at a) ty.U16) (Literal (pos 40)))) (Then (Put a (Variable i) (Conversion (Operation binary.Min (Variable v) (Literal (pos 255))) ty.U8)) Done) });
  answer = None;
}

bright-size : size_of bright ≡ 13
bright-size = refl

bright-fine : check_fault bright ≡ None
bright-fine = refl

-- kernel len(a: [u8], n: u64) -> u64 { for i in 0..n { break if a[i] == 0; } return i; }
abbrev len : Program
len = record {
  name = codes "len";
  params = record { name = a; shape = shape.Array ty.U8 } ∷ record { name = n; shape = shape.Scalar ty.U64 } ∷ [];
  vars = [];
  for_loop = Some (record { index = i; bound = n; body = Then (Leave (Comparison compare.Eq (at a) (Literal (pos 0)))) Done });
  answer = Some (record { type = ty.U64; value = Variable i });
}

len-tokens : tokens_of (codes "kernel len(a: [u8], n: u64) -> u64 { for i in 0..n { break if a[i] == 0; } return i; }") ≡ Ok (canonical_words len)
unfolding scan opened closed number_opened number_closed
len-tokens = refl

len-types : types_of len ≡ None ∷ None ∷ None ∷ Some ty.U8 ∷ Some ty.U8 ∷ None ∷ None ∷ Some ty.U64 ∷ None ∷ []
len-types = refl

len-fine : check_fault len ≡ None
len-fine = refl

-- a number of 2^127 or more is bad at its first byte
bad-number : tokens_of (codes "ab 170141183460469231731687303715884105728") ≡ Err 3
unfolding scan
bad-number = refl

good-number : tokens_of (codes "170141183460469231731687303715884105727") ≡ Ok (IsNumber 170141183460469231731687303715884105727 ∷ [])
unfolding scan
good-number = refl

bad-byte : tokens_of (codes "a / b") ≡ Err 2
unfolding scan
bad-byte = refl

-- ---- fronts

-- kernel f(x: u64,
viable-parameters : Viable (IsMark mark.Kernel ∷ IsName (codes "f") ∷ IsMark mark.OpenParen ∷ IsName x ∷ IsMark mark.Colon ∷ IsType ty.U64 ∷ IsMark mark.Comma ∷ [])
viable-parameters = in_params (next_param scalar (in_param no_param))

-- kernel f(x: u64) -> u64 { return x +
viable-sum : Viable (IsMark mark.Kernel ∷ IsName (codes "f") ∷ IsMark mark.OpenParen ∷ IsName x ∷ IsMark mark.Colon ∷ IsType ty.U64 ∷ IsMark mark.CloseParen ∷ IsMark mark.Arrow ∷ IsType ty.U64 ∷ IsMark mark.OpenBrace ∷ IsMark mark.Return ∷ IsName x ∷ IsMark mark.Plus ∷ [])
viable-sum = in_function (some (last scalar)) (in_answer no_var no_loop (above (above (above (above (above (above (above (in_operation {j = joint.Dual binary.Add} (up (up (up name))) refl refl nothing)))))))))

-- a whole kernel
viable-whole : Viable (canonical_words next)
unfolding opened closed number_opened number_closed
viable-whole = in_function (some (last scalar)) (end_function no_var no_loop (up (up (up (up (up (up (up (operation {j = joint.Dual binary.Add} (up (up (up name))) refl refl (up (up number)))))))))))

-- kernel 5
number-no-name : Viable (IsMark mark.Kernel ∷ IsNumber 5 ∷ []) → ⊥
number-no-name h = elim h [ ]

-- kernel f {
brace-no-parenthesis : Viable (IsMark mark.Kernel ∷ IsName (codes "f") ∷ IsMark mark.OpenBrace ∷ []) → ⊥
brace-no-parenthesis h = elim h [ ]

-- Worked kernels, as data.
use Rattle.std.specs.Prelude.{ℕ, pos, List, [], ◌∷◌, Some, None}
use Rattle.kernel_tree.specs.Plain.{Literal, Variable, Element, Operation, Conversion, Comparison, Either, Not, Define, Put, Update, Choose, Leave, Done, Then, Nothing, Else, Program}
use Rattle.kernel_tree.specs.declared.ops.Ty.TheVariants as ty
use Rattle.kernel_tree.specs.declared.ops.BinaryOp.TheVariants as binary
use Rattle.kernel_tree.specs.declared.ops.CompareOp.TheVariants as compare
use Rattle.kernel_tree.specs.declared.ops.UpdateOp.TheVariants as update
use Rattle.kernel_tree.specs.declared.ast.Shape.TheVariants as shape

abbrev pub a : List ℕ
a = 97 ∷ []

abbrev pub b : List ℕ
b = 98 ∷ []

abbrev pub c : List ℕ
c = 99 ∷ []

abbrev pub f : List ℕ
f = 102 ∷ []

abbrev pub i : List ℕ
i = 105 ∷ []

abbrev pub k : List ℕ
k = 107 ∷ []

abbrev pub m : List ℕ
m = 109 ∷ []

abbrev pub n : List ℕ
n = 110 ∷ []

abbrev pub p : List ℕ
p = 112 ∷ []

abbrev pub s : List ℕ
s = 115 ∷ []

abbrev pub t : List ℕ
t = 116 ∷ []

abbrev pub u : List ℕ
u = 117 ∷ []

abbrev pub v : List ℕ
v = 118 ∷ []

abbrev pub x : List ℕ
x = 120 ∷ []

abbrev pub y : List ℕ
y = 121 ∷ []

-- kernel axpy(y: [i32], x: [i32], k: i32, n: u64) { for i in 0..n { y[i] = y[i] + k * x[i]; } }
abbrev pub axpy : Program
axpy = record {
  name = f;
  params = record { name = y; shape = shape.Array ty.I32 } ∷ record { name = x; shape = shape.Array ty.I32 } ∷ record { name = k; shape = shape.Scalar ty.I32 } ∷ record { name = n; shape = shape.Scalar ty.U64 } ∷ [];
  vars = [];
  for_loop = Some (record { index = i; bound = n; body = (Then (Put y (Variable i) (Operation binary.Add (Element y (Variable i)) (Operation binary.Mul (Variable k) (Element x (Variable i))))) Done) });
  answer = None;
}

-- kernel spread(a: [u8], n: u64) { for i in 0..n { a[i + 1] = a[i]; } }
abbrev pub spread : Program
spread = record {
  name = f;
  params = record { name = a; shape = shape.Array ty.U8 } ∷ record { name = n; shape = shape.Scalar ty.U64 } ∷ [];
  vars = [];
  for_loop = Some (record { index = i; bound = n; body = (Then (Put a (Operation binary.Add (Variable i) (Literal (pos 1))) (Element a (Variable i))) Done) });
  answer = None;
}

-- kernel running(a: [u64], n: u64) { var s: u64 = 0; for i in 0..n { s += a[i]; a[i] = s; } }
abbrev pub running : Program
running = record {
  name = f;
  params = record { name = a; shape = shape.Array ty.U64 } ∷ record { name = n; shape = shape.Scalar ty.U64 } ∷ [];
  vars = record { name = s; type = ty.U64; init = (Literal (pos 0)) } ∷ [];
  for_loop = Some (record { index = i; bound = n; body = (Then (Update s update.Add (Element a (Variable i))) (Then (Put a (Variable i) (Variable s)) Done)) });
  answer = None;
}

-- kernel bright(p: [u8], n: u64) { for i in 0..n { let v = p[i] as u16 + 40; p[i] = min(v, 255) as u8; } }
abbrev pub bright : Program
bright = record {
  name = f;
  params = record { name = p; shape = shape.Array ty.U8 } ∷ record { name = n; shape = shape.Scalar ty.U64 } ∷ [];
  vars = [];
  for_loop = Some (record { index = i; bound = n; body = (Then (Define v None (Operation binary.Add (Conversion (Element p (Variable i)) ty.U16) (Literal (pos 40)))) (Then (Put p (Variable i) (Conversion (Operation binary.Min (Variable v) (Literal (pos 255))) ty.U8)) Done)) });
  answer = None;
}

-- kernel ways(a: [u8], y: [u8], n: u64) { for i in 0..n { if (a[i] == 1 || a[i] == 2) || (a[i] == 3 || !(a[i] == 4)) { y[i] = 1; } } }
abbrev pub ways : Program
ways = record {
  name = f;
  params = record { name = a; shape = shape.Array ty.U8 } ∷ record { name = y; shape = shape.Array ty.U8 } ∷ record { name = n; shape = shape.Scalar ty.U64 } ∷ [];
  vars = [];
  for_loop = Some (record { index = i; bound = n; body = (Then (Choose (Either (Either (Comparison compare.Eq (Element a (Variable i)) (Literal (pos 1))) (Comparison compare.Eq (Element a (Variable i)) (Literal (pos 2)))) (Either (Comparison compare.Eq (Element a (Variable i)) (Literal (pos 3))) (Not (Comparison compare.Eq (Element a (Variable i)) (Literal (pos 4)))))) (Then (Put y (Variable i) (Literal (pos 1))) Done) Nothing) Done) });
  answer = None;
}

-- kernel choice(a: [i32], y: [i32], n: u64) { for i in 0..n { if a[i] < 0 { y[i] = 0 - a[i]; } else { if a[i] > 9 { y[i] = 9; } } } }
abbrev pub choice : Program
choice = record {
  name = f;
  params = record { name = a; shape = shape.Array ty.I32 } ∷ record { name = y; shape = shape.Array ty.I32 } ∷ record { name = n; shape = shape.Scalar ty.U64 } ∷ [];
  vars = [];
  for_loop = Some (record { index = i; bound = n; body = (Then (Choose (Comparison compare.Lt (Element a (Variable i)) (Literal (pos 0))) (Then (Put y (Variable i) (Operation binary.Sub (Literal (pos 0)) (Element a (Variable i)))) Done) (Else (Then (Choose (Comparison compare.Gt (Element a (Variable i)) (Literal (pos 9))) (Then (Put y (Variable i) (Literal (pos 9))) Done) Nothing) Done))) Done) });
  answer = None;
}

-- kernel lasts(a: [u8], b: [u8], y: [u8], n: u64) { for i in 0..n { let v = a[i]; let u = b[i]; y[i] = v + b[i] * (b[i + 1] - v); } }
abbrev pub lasts : Program
lasts = record {
  name = f;
  params = record { name = a; shape = shape.Array ty.U8 } ∷ record { name = b; shape = shape.Array ty.U8 } ∷ record { name = y; shape = shape.Array ty.U8 } ∷ record { name = n; shape = shape.Scalar ty.U64 } ∷ [];
  vars = [];
  for_loop = Some (record { index = i; bound = n; body = (Then (Define v None (Element a (Variable i))) (Then (Define u None (Element b (Variable i))) (Then (Put y (Variable i) (Operation binary.Add (Variable v) (Operation binary.Mul (Element b (Variable i)) (Operation binary.Sub (Element b (Operation binary.Add (Variable i) (Literal (pos 1)))) (Variable v))))) Done))) });
  answer = None;
}

-- kernel pairs(a: [u8], y: [u16], n: u64) { for i in 0..n { y[i] = (a[i] + 1) as u16 + 1; } }
abbrev pub pairs : Program
pairs = record {
  name = f;
  params = record { name = a; shape = shape.Array ty.U8 } ∷ record { name = y; shape = shape.Array ty.U16 } ∷ record { name = n; shape = shape.Scalar ty.U64 } ∷ [];
  vars = [];
  for_loop = Some (record { index = i; bound = n; body = (Then (Put y (Variable i) (Operation binary.Add (Conversion (Operation binary.Add (Element a (Variable i)) (Literal (pos 1))) ty.U16) (Literal (pos 1)))) Done) });
  answer = None;
}

-- kernel values(x: i32, y: i32) -> i64 { var s: i32 = x * 3 + y * (x - 2); var t: i64 = s as i64 * 5; return t + s as i64; }
abbrev pub values : Program
values = record {
  name = f;
  params = record { name = x; shape = shape.Scalar ty.I32 } ∷ record { name = y; shape = shape.Scalar ty.I32 } ∷ [];
  vars = record { name = s; type = ty.I32; init = (Operation binary.Add (Operation binary.Mul (Variable x) (Literal (pos 3))) (Operation binary.Mul (Variable y) (Operation binary.Sub (Variable x) (Literal (pos 2))))) } ∷ record { name = t; type = ty.I64; init = (Operation binary.Mul (Conversion (Variable s) ty.I64) (Literal (pos 5))) } ∷ [];
  for_loop = None;
  answer = Some (record { type = ty.I64; value = (Operation binary.Add (Variable t) (Conversion (Variable s) ty.I64)) });
}

-- kernel look(t: [u8], x: [u8], y: [u64], n: u64) { for i in 0..n { y[i] = t[x[i]] as u64; } }
abbrev pub look : Program
look = record {
  name = f;
  params = record { name = t; shape = shape.Array ty.U8 } ∷ record { name = x; shape = shape.Array ty.U8 } ∷ record { name = y; shape = shape.Array ty.U64 } ∷ record { name = n; shape = shape.Scalar ty.U64 } ∷ [];
  vars = [];
  for_loop = Some (record { index = i; bound = n; body = (Then (Put y (Variable i) (Conversion (Element t (Element x (Variable i))) ty.U64)) Done) });
  answer = None;
}

-- kernel far(t: [u8], x: [u64], y: [u64], n: u64) { for i in 0..n { y[i] = t[x[i]] as u64; } }
abbrev pub far : Program
far = record {
  name = f;
  params = record { name = t; shape = shape.Array ty.U8 } ∷ record { name = x; shape = shape.Array ty.U64 } ∷ record { name = y; shape = shape.Array ty.U64 } ∷ record { name = n; shape = shape.Scalar ty.U64 } ∷ [];
  vars = [];
  for_loop = Some (record { index = i; bound = n; body = (Then (Put y (Variable i) (Conversion (Element t (Element x (Variable i))) ty.U64)) Done) });
  answer = None;
}

-- kernel pick(t: [i32], x: [u64], n: u64) -> i64 { var s: i64 = 0; for i in 0..n { s += t[x[i]] as i64; } return s; }
abbrev pub pick : Program
pick = record {
  name = f;
  params = record { name = t; shape = shape.Array ty.I32 } ∷ record { name = x; shape = shape.Array ty.U64 } ∷ record { name = n; shape = shape.Scalar ty.U64 } ∷ [];
  vars = record { name = s; type = ty.I64; init = (Literal (pos 0)) } ∷ [];
  for_loop = Some (record { index = i; bound = n; body = (Then (Update s update.Add (Conversion (Element t (Element x (Variable i))) ty.I64)) Done) });
  answer = Some (record { type = ty.I64; value = (Variable s) });
}

-- kernel casts(t: [u64], x: [u16], a: [u32], y: [u64], n: u64) {
--     for i in 0..n { y[i] = t[x[i] as u32 as u64] + t[a[i] as u8 as u64] + t[a[i] as u64] + t[i + 1]; }
-- }
abbrev pub casts : Program
casts = record {
  name = f;
  params = record { name = t; shape = shape.Array ty.U64 } ∷ record { name = x; shape = shape.Array ty.U16 } ∷ record { name = a; shape = shape.Array ty.U32 } ∷ record { name = y; shape = shape.Array ty.U64 } ∷ record { name = n; shape = shape.Scalar ty.U64 } ∷ [];
  vars = [];
  for_loop = Some (record { index = i; bound = n; body = (Then (Put y (Variable i) (Operation binary.Add (Operation binary.Add (Operation binary.Add (Element t (Conversion (Conversion (Element x (Variable i)) ty.U32) ty.U64)) (Element t (Conversion (Conversion (Element a (Variable i)) ty.U8) ty.U64))) (Element t (Conversion (Element a (Variable i)) ty.U64))) (Element t (Operation binary.Add (Variable i) (Literal (pos 1)))))) Done) });
  answer = None;
}

-- kernel near(t: [u64], x: [u8], y: [u64], n: u64) { for i in 0..n { y[i] = t[x[i] as u64] + t[i + 1]; } }
abbrev pub near : Program
near = record {
  name = f;
  params = record { name = t; shape = shape.Array ty.U64 } ∷ record { name = x; shape = shape.Array ty.U8 } ∷ record { name = y; shape = shape.Array ty.U64 } ∷ record { name = n; shape = shape.Scalar ty.U64 } ∷ [];
  vars = [];
  for_loop = Some (record { index = i; bound = n; body = (Then (Put y (Variable i) (Operation binary.Add (Element t (Conversion (Element x (Variable i)) ty.U64)) (Element t (Operation binary.Add (Variable i) (Literal (pos 1)))))) Done) });
  answer = None;
}

-- kernel either(a: [u8], b: [u8], n: u64) { for i in 0..n { break if a[i] == 0 || b[i] == 0; } }
abbrev pub either : Program
either = record {
  name = f;
  params = record { name = a; shape = shape.Array ty.U8 } ∷ record { name = b; shape = shape.Array ty.U8 } ∷ record { name = n; shape = shape.Scalar ty.U64 } ∷ [];
  vars = [];
  for_loop = Some (record { index = i; bound = n; body = (Then (Leave (Either (Comparison compare.Eq (Element a (Variable i)) (Literal (pos 0))) (Comparison compare.Eq (Element b (Variable i)) (Literal (pos 0))))) Done) });
  answer = None;
}

-- kernel three(a: [u8], b: [u8], c: [u8], n: u64) { for i in 0..n { break if a[i] == 0 || b[i] == 0 || c[i] == 0; } }
abbrev pub three : Program
three = record {
  name = f;
  params = record { name = a; shape = shape.Array ty.U8 } ∷ record { name = b; shape = shape.Array ty.U8 } ∷ record { name = c; shape = shape.Array ty.U8 } ∷ record { name = n; shape = shape.Scalar ty.U64 } ∷ [];
  vars = [];
  for_loop = Some (record { index = i; bound = n; body = (Then (Leave (Either (Either (Comparison compare.Eq (Element a (Variable i)) (Literal (pos 0))) (Comparison compare.Eq (Element b (Variable i)) (Literal (pos 0)))) (Comparison compare.Eq (Element c (Variable i)) (Literal (pos 0))))) Done) });
  answer = None;
}

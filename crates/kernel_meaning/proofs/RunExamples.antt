-- Runs of kernels that were worked out by hand.
use Rattle.std.proofs.Common.{◌≡◌, ℕ, List, [], ◌∷◌, ◌++◌, replicate, Some, None, refl}
use Rattle.std.specs.Prelude.{ℤ, codes, pos}
use Rattle.kernel_tree.specs.declared.ops.Ty.{Ty}
use Rattle.kernel_tree.specs.declared.ops.Ty.TheVariants as ty
use Rattle.kernel_tree.specs.declared.ops.BinaryOp.TheVariants as binary
use Rattle.kernel_tree.specs.declared.ops.CompareOp.TheVariants as compare
use Rattle.kernel_tree.specs.declared.ops.UpdateOp.TheVariants as update
use Rattle.kernel_tree.specs.declared.ast.Shape.TheVariants as shape
use Rattle.kernel_tree.specs.Plain.{Term, Literal, Variable, Element, Operation, Conversion, Comparison, Either, Block, Define, Put, Update, Choose, Leave, Done, Then, Nothing, Parameter, PlainLoop, Program}
use Rattle.guest_types.specs.declared.memory.Perm.{Perm}
use Rattle.guest_types.specs.declared.memory.Perm.TheVariants.{Read, ReadWrite}
use Rattle.guest_types.specs.Memory.{Page, Memory, number_at}
use Rattle.kernel_meaning.specs.ScalarRun.{Run, End, Fault, iterations, scalar_run, first_leave}

abbrev a : List ℕ
a = codes "a"

abbrev b : List ℕ
b = codes "b"

abbrev c : List ℕ
c = codes "c"

abbrev i : List ℕ
i = codes "i"

abbrev n : List ℕ
n = codes "n"

abbrev s : List ℕ
s = codes "s"

abbrev v : List ℕ
v = codes "v"

abbrev at : List ℕ → Term
at x = Element x (Variable i)

abbrev array : List ℕ → Ty → Parameter
array x t = record { name = x; shape = shape.Array t }

abbrev scalar : List ℕ → Ty → Parameter
scalar x t = record { name = x; shape = shape.Scalar t }

abbrev looped : Block → PlainLoop
looped body = record { index = i; bound = n; body = body }

-- a kernel with one loop
abbrev loop_of : List Parameter → Block → Program
loop_of ps body = record { name = codes "k"; params = ps ++ scalar n ty.U64 ∷ []; vars = []; for_loop = Some (looped body); answer = None }

-- the memory after a run, from its number of bytes at an address
abbrev left_at : Run → ℕ → ℕ → ℕ
left_at (End memory r m) address size = number_at memory address size
left_at (Fault memory m) address size = number_at memory address size

-- what a run answers, but for its memory
abbrev result_of : Run → List ℕ
result_of (End memory r m) = 0 ∷ r ∷ m ∷ []
result_of (Fault memory m) = 1 ∷ m ∷ []

page : ℕ → Perm → List ℕ → Page
page k perm bytes = record { page = k; perm = perm; bytes = bytes }

-- ---- no loop

-- kernel f(x: u64) -> u64 { return x + 1; }
abbrev next : Program
next = record {
  name = codes "f";
  params = scalar (codes "x") ty.U64 ∷ [];
  vars = [];
  for_loop = None;
  answer = Some (record { type = ty.U64; value = Operation binary.Add (Variable (codes "x")) (Literal (pos 1)) });
}

next-wraps : scalar_run next (0xffffffffffffffff ∷ []) [] ≡ End [] 0 0
next-wraps = refl

next-five : scalar_run next (5 ∷ []) [] ≡ End [] 6 0
next-five = refl

-- missing arguments are zero
next-missing : scalar_run next [] [] ≡ End [] 1 0
next-missing = refl

-- ---- breaks and faults

-- kernel len(a: [u8], n: u64) -> u64 { for i in 0..n { break if a[i] == 0; } return i; }
abbrev len : Program
len = record (loop_of (array a ty.U8 ∷ []) (Then (Leave (Comparison compare.Eq (at a) (Literal (pos 0)))) Done)) { answer = Some (record { type = ty.U64; value = Variable i }) }

-- the third byte, which is the last of its page, is 0
text : Memory
text = page 0x10 Read (replicate 0xffd 0 ++ 0x61 ∷ 0x62 ∷ 0 ∷ []) ∷ []

-- it is not 0, and the next page is unmapped
endless : Memory
endless = page 0x10 Read (replicate 0xffd 0 ++ 0x61 ∷ 0x62 ∷ 0x63 ∷ []) ∷ []

len-breaks : result_of (scalar_run len (0x10ffd ∷ 0xffffffffffffffff ∷ []) text) ≡ 0 ∷ 2 ∷ 3 ∷ []
unfolding iterations text page
len-breaks = refl

len-faults : result_of (scalar_run len (0x10ffd ∷ 0xffffffffffffffff ∷ []) endless) ≡ 1 ∷ 4 ∷ []
unfolding iterations endless page
len-faults = refl

len-ends : result_of (scalar_run len (0x10ffd ∷ 2 ∷ []) endless) ≡ 0 ∷ 2 ∷ 2 ∷ []
unfolding iterations endless page
len-ends = refl

-- kernel either(a: [u8], b: [u8], n: u64) -> u64 { for i in 0..n { break if a[i] == 0 || b[i] == 0; } return i; }
abbrev either : Program
either = record (loop_of (array a ty.U8 ∷ array b ty.U8 ∷ []) (Then (Leave (Either (Comparison compare.Eq (at a) (Literal (pos 0))) (Comparison compare.Eq (at b) (Literal (pos 0))))) Done)) { answer = Some (record { type = ty.U64; value = Variable i }) }

-- b is unmapped and never read
either-breaks : result_of (scalar_run either (0x10000 ∷ 0x20000 ∷ 16 ∷ []) (page 0x10 Read (0 ∷ 1 ∷ []) ∷ [])) ≡ 0 ∷ 0 ∷ 1 ∷ []
unfolding iterations page
either-breaks = refl

-- kernel copy(a: [u8], b: [u8], c: [u8], n: u64) { for i in 0..n { if a[i] != 0 { b[i] = c[i]; } } }
abbrev copy : Program
copy = loop_of (array a ty.U8 ∷ array b ty.U8 ∷ array c ty.U8 ∷ []) (Then (Choose (Comparison compare.Ne (at a) (Literal (pos 0))) (Then (Put b (Variable i) (at c)) Done) Nothing) Done)

-- c is unmapped and never read
copy-ends : result_of (scalar_run copy (0x10000 ∷ 0x20000 ∷ 0x30000 ∷ 20 ∷ []) (page 0x10 Read [] ∷ page 0x20 ReadWrite [] ∷ [])) ≡ 0 ∷ 0 ∷ 20 ∷ []
unfolding iterations page
copy-ends = refl

-- ---- stores

-- kernel fill(a: [u8], v: u8, n: u64) { for i in 0..n { a[i] = v; } }
abbrev fill : Program
fill = loop_of (array a ty.U8 ∷ scalar v ty.U8 ∷ []) (Then (Put a (Variable i) (Variable v)) Done)

-- the page ends after 32 of the bytes
filled : Run
filled = scalar_run fill (0x10fe0 ∷ 7 ∷ 100 ∷ []) (page 0x10 ReadWrite (replicate 4096 0) ∷ [])

fill-faults : result_of filled ≡ 1 ∷ 33 ∷ []
unfolding filled iterations page
fill-faults = refl

fill-leaves : left_at filled 0x10ff8 8 ≡ 0x0707070707070707
unfolding filled iterations page
fill-leaves = refl

-- the first three iterations alone
fill-begins : number_at (first_leave fill (0x10fe0 ∷ 7 ∷ 100 ∷ []) 3 (page 0x10 ReadWrite (replicate 4096 0) ∷ [])) 0x10fe0 4 ≡ 0x070707
unfolding iterations page
fill-begins = refl

-- a page that may not be written
fill-refused : result_of (scalar_run fill (0x10000 ∷ 7 ∷ 1 ∷ []) (page 0x10 Read (0 ∷ []) ∷ [])) ≡ 1 ∷ 1 ∷ []
unfolding iterations page
fill-refused = refl

-- kernel inc(y: [u8], x: [u8], n: u64) { for i in 0..n { y[i] = x[i] + 1; } }
abbrev inc : Program
inc = loop_of (array a ty.U8 ∷ array b ty.U8 ∷ []) (Then (Put a (Variable i) (Operation binary.Add (at b) (Literal (pos 1)))) Done)

five : Memory
five = page 0x10 ReadWrite (5 ∷ replicate 15 0) ∷ page 0x11 ReadWrite (replicate 16 0) ∷ []

-- one array lies one element above the other
inc-overlaps : left_at (scalar_run inc (0x10001 ∷ 0x10000 ∷ 5 ∷ []) five) 0x10000 6 ≡ 0x0a0908070605
unfolding iterations page five
inc-overlaps = refl

inc-apart : left_at (scalar_run inc (0x11000 ∷ 0x10000 ∷ 5 ∷ []) five) 0x11000 5 ≡ 0x0101010106
unfolding iterations page five
inc-apart = refl

-- kernel bright(p: [u8], n: u64) { for i in 0..n { let v = p[i] as u16 + 40; p[i] = min(v, 255) as u8; } }
abbrev bright : Program
bright = loop_of (array a ty.U8 ∷ []) (Then (Define v None (Operation binary.Add (Conversion (at a) ty.U16) (Literal (pos 40)))) (Then (Put a (Variable i) (Conversion (Operation binary.Min (Variable v) (Literal (pos 255))) ty.U8)) Done))

bright-leaves : left_at (scalar_run bright (0x10000 ∷ 3 ∷ []) (page 0x10 ReadWrite (0xc8 ∷ 0xf0 ∷ 0 ∷ []) ∷ [])) 0x10000 3 ≡ 0x28fff0
unfolding iterations page
bright-leaves = refl

-- ---- accumulators

abbrev sum_of : Ty → ℤ → Block → Ty → Program → Program
sum_of t z body r k = record k { vars = record { name = s; type = t; init = Literal z } ∷ []; for_loop = Some (looped body); answer = Some (record { type = r; value = Variable s }) }

-- kernel pre(a: [u64], n: u64) { var s: u64 = 0; for i in 0..n { s += a[i]; a[i] = s; } }
abbrev pre : Program
pre = record (loop_of (array a ty.U64 ∷ []) (Then (Update s update.Add (at a)) (Then (Put a (Variable i) (Variable s)) Done))) { vars = record { name = s; type = ty.U64; init = Literal (pos 0) } ∷ [] }

three : Memory
three = page 0x10 ReadWrite (1 ∷ replicate 7 0 ++ 2 ∷ replicate 7 0 ++ 3 ∷ replicate 7 0) ∷ []

pre-leaves : left_at (scalar_run pre (0x10000 ∷ 3 ∷ []) three) 0x10008 16 ≡ 0x00000000000000060000000000000003
unfolding iterations page three
pre-leaves = refl

-- kernel dot(a: [i16], b: [i16], n: u64) -> i64 { var s: i64 = 0; for i in 0..n { s += a[i] as i64 * b[i] as i64; } return s; }
abbrev dot : Program
dot = sum_of ty.I64 (pos 0) (Then (Update s update.Add (Operation binary.Mul (Conversion (at a) ty.I64) (Conversion (at b) ty.I64))) Done) ty.I64 (loop_of (array a ty.I16 ∷ array b ty.I16 ∷ []) Done)

dot-sums : result_of (scalar_run dot (0x10000 ∷ 0x20000 ∷ 3 ∷ []) (page 0x10 Read (1 ∷ 0 ∷ 0xfe ∷ 0xff ∷ 0x2c ∷ 1 ∷ []) ∷ page 0x20 Read (4 ∷ 0 ∷ 5 ∷ 0 ∷ 6 ∷ 0 ∷ []) ∷ [])) ≡ 0 ∷ 0x702 ∷ 3 ∷ []
unfolding iterations page
dot-sums = refl

-- kernel low(a: [i8], n: u64) -> i8 { var m: i8 = 7; for i in 0..n { m min= a[i]; } return m; }
abbrev low : Program
low = sum_of ty.I8 (pos 7) (Then (Update s update.Min (at a)) Done) ty.I8 (loop_of (array a ty.I8 ∷ []) Done)

low-none : result_of (scalar_run low (0x10000 ∷ 0 ∷ []) []) ≡ 0 ∷ 7 ∷ 0 ∷ []
unfolding iterations
low-none = refl

low-two : result_of (scalar_run low (0x10000 ∷ 2 ∷ []) (page 0x10 Read (0x64 ∷ 0x80 ∷ []) ∷ [])) ≡ 0 ∷ 0xffffffffffffff80 ∷ 2 ∷ []
unfolding iterations page
low-two = refl

-- kernel wrapped(a: [u8], b: [i32], n: u64) -> i32 { var c: i32 = 0; for i in 0..n { if a[i] + 1 == 0 { c += b[i]; } } return c; }
abbrev wrapped : Program
wrapped = sum_of ty.I32 (pos 0) (Then (Choose (Comparison compare.Eq (Operation binary.Add (at a) (Literal (pos 1))) (Literal (pos 0))) (Then (Update s update.Add (at b)) Done) Nothing) Done) ty.I32 (loop_of (array a ty.U8 ∷ array b ty.I32 ∷ []) Done)

wrapped-sums : result_of (scalar_run wrapped (0x10000 ∷ 0x20000 ∷ 1 ∷ []) (page 0x10 Read (0xff ∷ []) ∷ page 0x20 Read (9 ∷ []) ∷ [])) ≡ 0 ∷ 9 ∷ 1 ∷ []
unfolding iterations page
wrapped-sums = refl

-- kernel total(a: [i8], n: u64) -> i8 { var s: i8 = 0; for i in 0..n { s += a[i]; } return s; }
abbrev total : Program
total = sum_of ty.I8 (pos 0) (Then (Update s update.Add (at a)) Done) ty.I8 (loop_of (array a ty.I8 ∷ []) Done)

total-wraps : result_of (scalar_run total (0x10000 ∷ 3 ∷ []) (page 0x10 Read (0x64 ∷ 0x64 ∷ 0x64 ∷ []) ∷ [])) ≡ 0 ∷ 0x2c ∷ 3 ∷ []
unfolding iterations page
total-wraps = refl

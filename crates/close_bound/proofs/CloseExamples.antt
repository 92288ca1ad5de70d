-- The close bound of worked kernels. `bench/close_bound` reads the steps outside the loop and of a pass from here.
use Rattle.std.proofs.Common.{◌≡◌, ℕ, pos, List, [], ◌∷◌, Some, None, refl}
use Rattle.kernel_tree.specs.declared.ops.Ty.{Ty}
use Rattle.kernel_tree.specs.declared.ops.Ty.TheVariants as ty
use Rattle.kernel_tree.specs.declared.ops.BinaryOp.TheVariants as binary
use Rattle.kernel_tree.specs.declared.ops.CompareOp.TheVariants as compare
use Rattle.kernel_tree.specs.declared.ops.UpdateOp.TheVariants as update
use Rattle.kernel_tree.specs.declared.ast.Shape.TheVariants as shape
use Rattle.kernel_tree.specs.Plain.{Term, Literal, Variable, Element, Operation, Conversion, Comparison, Put, Update, Choose, Leave, Block, Done, Then, Nothing, Parameter, PlainLoop, Program}
use Rattle.loop_form.specs.Entries.{item_type}
use Rattle.loop_form.specs.Lanes.{widest}
use Rattle.loop_form.specs.Needs.{constants}
use Rattle.loop_form.proofs.Kernels.{a, b, c, f, i, n, s, axpy}
use Rattle.dependence.specs.Classes.{before_break, computed_index, carried}
use Rattle.dependence.specs.Apart.{least_of, greatest_of, most_reach, used_from}
use Rattle.close_bound.specs.CloseBound.{outside_steps, pass_steps, iteration_steps, close_bound}

abbrev array : List ℕ → Ty → Parameter
array x t = record { name = x; shape = shape.Array t }

abbrev bound : Parameter
bound = record { name = n; shape = shape.Scalar ty.U64 }

abbrev looped : Block → PlainLoop
looped body = record { index = i; bound = n; body = body }

abbrev at : List ℕ → Term
at x = Element x (Variable i)

-- kernel dot(a: [i16], b: [i16], n: u64) -> i64 { var s: i64 = 0; for i in 0..n { s += a[i] as i64 * b[i] as i64; } return s; }
abbrev dot : Program
dot = record {
  name = f;
  params = array a ty.I16 ∷ array b ty.I16 ∷ bound ∷ [];
  vars = record { name = s; type = ty.I64; init = Literal (pos 0) } ∷ [];
  for_loop = Some (looped (Then (Update s update.Add (Operation binary.Mul (Conversion (at a) ty.I64) (Conversion (at b) ty.I64))) Done));
  answer = Some (record { type = ty.I64; value = Variable s });
}

-- kernel len(a: [u8], n: u64) -> u64 { for i in 0..n { break if a[i] == 0; } return i; }
abbrev len : Program
len = record {
  name = f;
  params = array a ty.U8 ∷ bound ∷ [];
  vars = [];
  for_loop = Some (looped (Then (Leave (Comparison compare.Eq (at a) (Literal (pos 0)))) Done));
  answer = Some (record { type = ty.U64; value = Variable i });
}

-- kernel copy(a: [u8], b: [u8], c: [u8], n: u64) { for i in 0..n { if a[i] != 0 { b[i] = c[i]; } } }
abbrev copy : Program
copy = record {
  name = f;
  params = array a ty.U8 ∷ array b ty.U8 ∷ array c ty.U8 ∷ bound ∷ [];
  vars = [];
  for_loop = Some (looped (Then (Choose (Comparison compare.Ne (at a) (Literal (pos 0))) (Then (Put b (Variable i) (at c)) Done) Nothing) Done));
  answer = None;
}

-- ---- outside the loop

-- 4 parameters, k laid into a register, and the test of one pair of two arrays
axpy-outside : outside_steps axpy ≡ 49
unfolding item_type widest constants before_break computed_index carried least_of greatest_of most_reach used_from
axpy-outside = refl

-- 3 parameters, four items, and an accumulator
dot-outside : outside_steps dot ≡ 45
unfolding item_type widest constants before_break computed_index carried least_of greatest_of most_reach used_from
dot-outside = refl

-- 2 parameters, two items and a literal
len-outside : outside_steps len ≡ 27
unfolding item_type widest constants before_break computed_index carried least_of greatest_of most_reach used_from
len-outside = refl

-- 4 parameters, a literal, and the test of two pairs of three arrays
copy-outside : outside_steps copy ≡ 77
unfolding item_type widest constants before_break computed_index carried least_of greatest_of most_reach used_from
copy-outside = refl

-- ---- a pass

axpy-pass : pass_steps axpy ≡ 13
unfolding item_type widest constants before_break computed_index carried least_of greatest_of most_reach used_from
axpy-pass = refl

dot-pass : pass_steps dot ≡ 12
unfolding item_type widest constants before_break computed_index carried least_of greatest_of most_reach used_from
dot-pass = refl

-- with the iteration by itself, or two passes more
len-pass : pass_steps len ≡ 13
unfolding item_type widest constants before_break computed_index carried least_of greatest_of most_reach used_from
len-pass = refl

copy-pass : pass_steps copy ≡ 8
unfolding item_type widest constants before_break computed_index carried least_of greatest_of most_reach used_from
copy-pass = refl

len-last : iteration_steps len ≡ 20
len-last = refl

-- ---- 64 iterations at 256 bits

-- 49 + 13 * 8
axpy-close : close_bound axpy (0x10000 ∷ 0x20000 ∷ 3 ∷ 64 ∷ []) 256 64 0 ≡ 153
unfolding item_type widest constants before_break computed_index carried least_of greatest_of most_reach used_from
axpy-close = refl

-- where the arrays overlap, iterations one by one: 49 + 28 * 64
axpy-over : close_bound axpy (0x10000 ∷ 0x10004 ∷ 3 ∷ 64 ∷ []) 256 64 0 ≡ 1841
unfolding item_type widest constants before_break computed_index carried least_of greatest_of most_reach used_from
axpy-over = refl

-- 45 + 12 * 16
dot-close : close_bound dot (0x10000 ∷ 0x20000 ∷ 64 ∷ []) 256 64 0 ≡ 237
unfolding item_type widest constants before_break computed_index carried least_of greatest_of most_reach used_from
dot-close = refl

-- 27 + 13 * (2 + 2) + 20
len-close : close_bound len (0x10000 ∷ 100 ∷ []) 256 64 0 ≡ 99
unfolding item_type widest constants before_break computed_index carried least_of greatest_of most_reach used_from
len-close = refl

-- and with three free elements that are suppressed, six passes more
len-suppressed : close_bound len (0x10000 ∷ 100 ∷ []) 256 64 3 ≡ 177
unfolding item_type widest constants before_break computed_index carried least_of greatest_of most_reach used_from
len-suppressed = refl

-- 77 + 8 * 2
copy-close : close_bound copy (0x10000 ∷ 0x20000 ∷ 0x30000 ∷ 64 ∷ []) 256 64 0 ≡ 93
unfolding item_type widest constants before_break computed_index carried least_of greatest_of most_reach used_from
copy-close = refl

-- The class of worked kernels.
use Rattle.std.proofs.Common.{◌≡◌, pos, [], ◌∷◌, Some, None, map, refl}
use Rattle.kernel_tree.specs.Plain.{Literal, Variable, Element, Operation, Comparison, Put, Update, Choose, Leave, Done, Then, Nothing, Program}
use Rattle.loop_form.specs.Entries.{item_type}
use Rattle.loop_form.specs.Lanes.{widest}
use Rattle.loop_form.proofs.Kernels.{a, c, f, i, n, s, t, y, values, axpy, spread, running, bright, look, far, pick, casts}
use Rattle.dependence.specs.declared.reason.Class.TheVariants.{Vector, Scalar}
use Rattle.dependence.specs.Classes.{before_break, computed_index, carried, class_of}
use Rattle.kernel_tree.specs.declared.ops.Ty.TheVariants as ty
use Rattle.kernel_tree.specs.declared.ops.BinaryOp.TheVariants as binary
use Rattle.kernel_tree.specs.declared.ops.CompareOp.TheVariants as compare
use Rattle.kernel_tree.specs.declared.ops.UpdateOp.TheVariants as update
use Rattle.kernel_tree.specs.declared.ast.Shape.TheVariants as shape
use Rattle.dependence.specs.declared.reason.Why.TheVariants as why

-- kernel farther(a: [u8], n: u64) { for i in 0..n { a[i + 256] = a[i]; } }
abbrev farther : Program
farther = record {
  name = f;
  params = record { name = a; shape = shape.Array ty.U8 } ∷ record { name = n; shape = shape.Scalar ty.U64 } ∷ [];
  vars = [];
  for_loop = Some (record { index = i; bound = n; body = (Then (Put a (Operation binary.Add (Variable i) (Literal (pos 256))) (Element a (Variable i))) Done) });
  answer = None;
}

-- kernel mixed(a: [u8], n: u64) -> u8 { var s: u8 = 0; for i in 0..n { s += a[i]; s ^= 1; } return s; }
abbrev mixed : Program
mixed = record {
  name = f;
  params = record { name = a; shape = shape.Array ty.U8 } ∷ record { name = n; shape = shape.Scalar ty.U64 } ∷ [];
  vars = record { name = s; type = ty.U8; init = (Literal (pos 0)) } ∷ [];
  for_loop = Some (record { index = i; bound = n; body = (Then (Update s update.Add (Element a (Variable i))) (Then (Update s update.Xor (Literal (pos 1))) Done)) });
  answer = Some (record { type = ty.U8; value = (Variable s) });
}

-- kernel both(a: [u8], n: u64) -> u8 { var s: u8 = 0; for i in 0..n { s += a[i]; s ^= s; } return s; }
abbrev both : Program
both = record {
  name = f;
  params = record { name = a; shape = shape.Array ty.U8 } ∷ record { name = n; shape = shape.Scalar ty.U64 } ∷ [];
  vars = record { name = s; type = ty.U8; init = (Literal (pos 0)) } ∷ [];
  for_loop = Some (record { index = i; bound = n; body = (Then (Update s update.Add (Element a (Variable i))) (Then (Update s update.Xor (Variable s)) Done)) });
  answer = Some (record { type = ty.U8; value = (Variable s) });
}

-- kernel counting(a: [u8], n: u64) -> u64 { var c: u64 = 0; for i in 0..n { if a[i] != 0 { c += 1; } break if a[i] == 9; } return c; }
abbrev counting : Program
counting = record {
  name = f;
  params = record { name = a; shape = shape.Array ty.U8 } ∷ record { name = n; shape = shape.Scalar ty.U64 } ∷ [];
  vars = record { name = c; type = ty.U64; init = (Literal (pos 0)) } ∷ [];
  for_loop = Some (record { index = i; bound = n; body = (Then (Choose (Comparison compare.Ne (Element a (Variable i)) (Literal (pos 0))) (Then (Update c update.Add (Literal (pos 1))) Done) Nothing) (Then (Leave (Comparison compare.Eq (Element a (Variable i)) (Literal (pos 9)))) Done)) });
  answer = Some (record { type = ty.U64; value = (Variable c) });
}

-- kernel scattered(t: [u8], y: [u8], n: u64) { for i in 0..n { y[i + 1] = y[i] + t[i * 2]; } }
abbrev scattered : Program
scattered = record {
  name = f;
  params = record { name = t; shape = shape.Array ty.U8 } ∷ record { name = y; shape = shape.Array ty.U8 } ∷ record { name = n; shape = shape.Scalar ty.U64 } ∷ [];
  vars = [];
  for_loop = Some (record { index = i; bound = n; body = (Then (Put y (Operation binary.Add (Variable i) (Literal (pos 1))) (Operation binary.Add (Element y (Variable i)) (Element t (Operation binary.Mul (Variable i) (Literal (pos 2)))))) Done) });
  answer = None;
}

-- kernel after(a: [u8], y: [u8], n: u64) { for i in 0..n { a[i] = 1; y[i] = a[i + 1]; } }
abbrev following : Program
following = record {
  name = f;
  params = record { name = a; shape = shape.Array ty.U8 } ∷ record { name = y; shape = shape.Array ty.U8 } ∷ record { name = n; shape = shape.Scalar ty.U64 } ∷ [];
  vars = [];
  for_loop = Some (record { index = i; bound = n; body = (Then (Put a (Variable i) (Literal (pos 1))) (Then (Put y (Variable i) (Element a (Operation binary.Add (Variable i) (Literal (pos 1))))) Done)) });
  answer = None;
}

-- kernel ahead(a: [u8], y: [u8], n: u64) { for i in 0..n { a[i + 1] = 1; y[i] = a[i]; } }
abbrev ahead : Program
ahead = record {
  name = f;
  params = record { name = a; shape = shape.Array ty.U8 } ∷ record { name = y; shape = shape.Array ty.U8 } ∷ record { name = n; shape = shape.Scalar ty.U64 } ∷ [];
  vars = [];
  for_loop = Some (record { index = i; bound = n; body = (Then (Put a (Operation binary.Add (Variable i) (Literal (pos 1))) (Literal (pos 1))) (Then (Put y (Variable i) (Element a (Variable i))) Done)) });
  answer = None;
}

worked-classes :
    map class_of (values ∷ axpy ∷ spread ∷ farther ∷ running ∷ bright ∷ mixed ∷ both ∷ counting ∷ scattered ∷ following ∷ ahead ∷ look ∷ far ∷ pick ∷ casts ∷ [])
    ≡ Scalar why.NoLoop ∷ Vector ∷ Scalar why.Carried ∷ Vector ∷ Scalar why.AccumulatorRead ∷ Vector ∷ Scalar why.MixedUpdate ∷ Scalar why.AccumulatorRead ∷ Scalar why.BeforeBreak ∷ Scalar why.ComputedIndex ∷ Scalar why.Carried ∷ Vector ∷ Vector ∷ Scalar why.ComputedIndex ∷ Vector ∷ Scalar why.ComputedIndex ∷ []
unfolding item_type widest before_break computed_index carried
worked-classes = refl

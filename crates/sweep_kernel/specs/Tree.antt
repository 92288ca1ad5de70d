-- The tree of the kernel that a sweep compiles.
use Rattle.std.specs.Prelude.{ℕ, pos, List, [], ◌∷◌, Some, None, codes}
use Rattle.kernel_tree.specs.declared.ops.Ty.TheVariants as ty
use Rattle.kernel_tree.specs.declared.ops.BinaryOp.TheVariants as binary
use Rattle.kernel_tree.specs.declared.ops.CompareOp.TheVariants as compare
use Rattle.kernel_tree.specs.declared.ops.UpdateOp.TheVariants as update
use Rattle.kernel_tree.specs.declared.ast.Shape.{Shape}
use Rattle.kernel_tree.specs.declared.ast.Shape.TheVariants as shape
use Rattle.kernel_tree.specs.Plain.{Term, Literal, Variable, Element, Operation, Conversion, Comparison, Either, Define, Put, Update, Choose, Block, Done, Then, Else, Parameter, Program}
use Rattle.sweep_kernel.specs.Numbers.{offset_of, level_of, initial_of}

abbrev pub a : List ℕ
a = codes "a"

abbrev pub b : List ℕ
b = codes "b"

abbrev pub y : List ℕ
y = codes "y"

abbrev pub k : List ℕ
k = codes "k"

abbrev pub n : List ℕ
n = codes "n"

abbrev pub s : List ℕ
s = codes "s"

abbrev pub m : List ℕ
m = codes "m"

abbrev pub i : List ℕ
i = codes "i"

abbrev pub t : List ℕ
t = codes "t"

abbrev pub parameter : List ℕ → Shape → Parameter
parameter x held = record { name = x; shape = held }

-- a[i] as i32 * k + b[i + offset] as i32
abbrev pub scaled : ℕ → Term
scaled offset =
    Operation binary.Add
    (Operation binary.Mul (Conversion (Element a (Variable i)) ty.I32) (Variable k))
    (Conversion (Element b (Operation binary.Add (Variable i) (Literal (pos offset)))) ty.I32)

-- t > level || b[i] == 7
abbrev pub chosen : ℕ → Term
chosen level =
    Either
    (Comparison compare.Gt (Variable t) (Literal (pos level)))
    (Comparison compare.Eq (Element b (Variable i)) (Literal (pos 7)))

-- y[i] = t; s += t as i64;
abbrev pub summed : Block
summed = Then (Put y (Variable i) (Variable t)) (Then (Update s update.Add (Conversion (Variable t) ty.I64)) Done)

-- m max= t;
abbrev pub raised : Block
raised = Then (Update m update.Max (Variable t)) Done

abbrev pub body_with : (offset level : ℕ) → Block
body_with offset level = Then (Define t None (scaled offset)) (Then (Choose (chosen level) summed (Else raised)) Done)

-- the kernel with an initial value, an offset and a level
unfoldable pub kernel_with : (initial offset level : ℕ) → Program
kernel_with initial offset level = record {
  name = codes "sweep";
  params = parameter a (shape.Array ty.I16) ∷ parameter b (shape.Array ty.U8) ∷ parameter y (shape.Array ty.I32) ∷ parameter k (shape.Scalar ty.I32) ∷ parameter n (shape.Scalar ty.U64) ∷ [];
  vars = record { name = s; type = ty.I64; init = Literal (pos 0) } ∷ record { name = m; type = ty.I32; init = Literal (pos initial) } ∷ [];
  for_loop = Some (record { index = i; bound = n; body = body_with offset level });
  answer = Some (record { type = ty.I64; value = Operation binary.Add (Variable s) (Conversion (Variable m) ty.I64) });
}

-- the kernel of a seed
abbrev pub kernel_of : ℕ → Program
kernel_of seed = kernel_with (initial_of seed) (offset_of seed) (level_of seed)

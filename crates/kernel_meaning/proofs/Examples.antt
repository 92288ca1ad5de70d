-- A kernel that counts, and its tokens.
use Rattle.std.proofs.Common.{◌≡◌, ℕ, List, [], ◌∷◌, ◌++◌, Some, None, refl}
use Rattle.std.specs.Prelude.{codes}
use Rattle.kernel_tree.specs.declared.ops.Ty.TheVariants as ty
use Rattle.kernel_tree.specs.declared.ast.Shape.TheVariants as shape
use Rattle.kernel_tree.specs.declared.ast.Stmt.{Stmt}
use Rattle.kernel_tree.specs.declared.mark.Mark.TheVariants as mark
use Rattle.kernel_tree.specs.TextToken.{TextToken, IsName, IsNumber, IsType, IsMark}
use Rattle.kernel_tree.specs.declared.ast.Param.{Param}
use Rattle.kernel_tree.specs.declared.ast.Var.{Var}
use Rattle.kernel_tree.specs.Plain.{Variable, Done, Program, name_of, block_of, parameters_of, accumulators_of}
use Rattle.kernel_tree.specs.Grammar.{name, up, some, last, scalar, no_var, loop, done, function, IsTree}
use Rattle.kernel_tree.specs.Typing.{check_fault, types_of}

-- kernel f(n: u64) -> u64 { for i in 0..n { } return i; }
abbrev pub counting : Program
counting = record {
  name = codes "f";
  params = record { name = codes "n"; shape = shape.Scalar ty.U64 } ∷ [];
  vars = [];
  for_loop = Some (record { index = codes "i"; bound = codes "n"; body = Done });
  answer = Some (record { type = ty.U64; value = Variable (codes "i") });
}

abbrev words : List TextToken
words =
    IsMark mark.Kernel ∷ IsName (codes "f") ∷ IsMark mark.OpenParen ∷ IsName (codes "n") ∷ IsMark mark.Colon ∷ IsType ty.U64 ∷ IsMark mark.CloseParen ∷ IsMark mark.Arrow ∷ IsType ty.U64 ∷ IsMark mark.OpenBrace
    ∷ IsMark mark.For ∷ IsName (codes "i") ∷ IsMark mark.In ∷ IsNumber 0 ∷ IsMark mark.Range ∷ IsName (codes "n") ∷ IsMark mark.OpenBrace ∷ IsMark mark.CloseBrace
    ∷ IsMark mark.Return ∷ IsName (codes "i") ∷ IsMark mark.Semicolon ∷ IsMark mark.CloseBrace ∷ []

pub counting_tree : IsTree counting
counting_tree = record { words = words; tokens = refl; tree = function (some (last scalar)) no_var (loop done) (up (up (up (up (up (up (up (up (up (up name)))))))))) }

pub counting_typed : check_fault counting ≡ None
counting_typed = refl

pub counting_types : types_of counting ≡ None ∷ None ∷ Some ty.U64 ∷ None ∷ []
counting_types = refl

one_param : (xs ys : List Param) (p : Param) → xs ≡ ys ++ p ∷ [] → ys ≡ [] → name_of p.name ≡ codes "n" → p.shape ≡ shape.Scalar ty.U64 → parameters_of xs ≡ record { name = codes "n"; shape = shape.Scalar ty.U64 } ∷ []
one_param xs ys p e f g h = rw (e, f, g, h) refl

pub counting_parts : (f i n x : List ℕ) (ps qs : List Param) (p : Param) (vs : List Var) (b : List Stmt) → f ≡ codes "f" → ps ≡ qs ++ p ∷ [] → qs ≡ [] → name_of p.name ≡ codes "n" → p.shape ≡ shape.Scalar ty.U64 → vs ≡ [] → i ≡ codes "i" → n ≡ codes "n" → b ≡ [] → x ≡ codes "i" → record { name = f; params = parameters_of ps; vars = accumulators_of vs; for_loop = Some (record { index = i; bound = n; body = block_of b }); answer = Some (record { type = ty.U64; value = Variable x }) } ≡ counting
counting_parts f i n x ps qs p vs b e g h j k l m o q r = rw (e, one_param ps qs p g h j k, l, m, o, q, r) refl

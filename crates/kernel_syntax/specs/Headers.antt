-- Reading kernels.
use Rattle.std.specs.Prelude.{ℕ, zero, suc, List, [], ◌∷◌, length, true, Option, Some, None, Result, Ok, Err, nat_eq, if◌then◌else◌}
use Rattle.kernel_tree.specs.declared.ops.Ty.{Ty}
use Rattle.kernel_tree.specs.declared.ast.Shape.{Shape}
use Rattle.kernel_tree.specs.declared.ast.Shape.TheVariants as shape
use Rattle.kernel_tree.specs.declared.mark.Mark.TheVariants as mark
use Rattle.kernel_tree.specs.TextToken.{TextToken}
use Rattle.kernel_tree.specs.Plain.{Parameter, Accumulator, PlainLoop, Returned, Program}
use Rattle.kernel_tree.specs.Grammar.{number_at}
use Rattle.expression_syntax.specs.Reading.{◌>>=◌, given, following, past, name_at, type_at}
use Rattle.kernel_syntax.specs.Statements.{term_at, block_at}

abbrev pub Read : Type 0 → Type 0
Read A = Result (A × List TextToken) ℕ

-- after the colon of a parameter
unfoldable pub shape_at : List TextToken → Read Shape
shape_at words =
    given (following mark.OpenBracket words)
    (λ from. type_at from >>= (λ t. past mark.CloseBracket t.1 >>= (λ rest. Ok (shape.Array t.0, rest))))
    (type_at words >>= (λ t. Ok (shape.Scalar t.0, t.1)))

unfoldable pub param_at : List TextToken → Read Parameter
param_at words = do
  x ← name_at words
  from ← past mark.Colon x.1
  s ← shape_at from
  Ok (record { name = x.0; shape = s.0 }, s.1)

-- a parameter, no more than so many others, and the parenthesis after them
unfoldable pub some_at : ℕ → List TextToken → Read (List Parameter)
some_at zero words =
    param_at words >>= (λ p. given (following mark.CloseParen p.1) (λ rest. Ok (p.0 ∷ [], rest)) (Err (length p.1)))
some_at (suc others) words =
    param_at words >>= (λ p. given (following mark.CloseParen p.1) (λ rest. Ok (p.0 ∷ [], rest))
    (past mark.Comma p.1 >>= (λ next. some_at others next >>= (λ ps. Ok (p.0 ∷ ps.0, ps.1)))))

unfoldable pub params_at : List TextToken → Read (List Parameter)
params_at words = given (following mark.CloseParen words) (λ rest. Ok ([], rest)) (some_at 7 words)

-- after the word that begins an accumulator
unfoldable pub var_at : List TextToken → Read Accumulator
var_at words = do
  x ← name_at words
  from ← past mark.Colon x.1
  t ← type_at from
  next ← past mark.Equals t.1
  e ← term_at mark.Semicolon next
  Ok (record { name = x.0; type = t.0; init = e.0 }, e.1)

unfoldable pub vars_by : ℕ → List TextToken → Read (List Accumulator)
vars_by zero words = Err (length words)
vars_by (suc k) words =
    given (following mark.Var words) (λ rest. var_at rest >>= (λ v. vars_by k v.1 >>= (λ vs. Ok (v.0 ∷ vs.0, vs.1)))) (Ok ([], words))

unfoldable pub vars_at : List TextToken → Read (List Accumulator)
vars_at words = vars_by (suc (length words)) words

unfoldable pub zero_at : List TextToken → Result (List TextToken) ℕ
zero_at words = given (number_at words) (λ x. if nat_eq x.0 0 then Ok x.1 else Err (length words)) (Err (length words))

-- after the word that begins a loop
unfoldable pub for_loop_at : List TextToken → Read PlainLoop
for_loop_at words = do
  i ← name_at words
  from ← past mark.In i.1
  range ← zero_at from
  end ← past mark.Range range
  n ← name_at end
  inside ← past mark.OpenBrace n.1
  b ← block_at true (length inside) inside
  Ok (record { index = i.0; bound = n.0; body = b.0 }, b.1)

unfoldable pub loop_at : List TextToken → Read (Option PlainLoop)
loop_at words = given (following mark.For words) (λ rest. for_loop_at rest >>= (λ l. Ok (Some l.0, l.1))) (Ok (None, words))

-- after the parameters: the type of what is returned, and the brace
unfoldable pub tail_at : List TextToken → Read (Option Ty)
tail_at words =
    given (following mark.OpenBrace words) (λ body. Ok (None, body))
    (past mark.Arrow words >>= (λ from. type_at from >>= (λ t. past mark.OpenBrace t.1 >>= (λ body. Ok (Some t.0, body)))))

-- the end of a kernel that returns nothing, or a value of a type
unfoldable pub answer_by : Option Ty → List TextToken → Read (Option Returned)
answer_by None words = past mark.CloseBrace words >>= (λ rest. Ok (None, rest))
answer_by (Some t) words = do
  from ← past mark.Return words
  e ← term_at mark.Semicolon from
  rest ← past mark.CloseBrace e.1
  Ok (Some (record { type = t; value = e.0 }), rest)

-- what was read, where nothing is left after it
abbrev pub alone : {A : Type 0} → A → List TextToken → Result A ℕ
alone x [] = Ok x
alone x (w ∷ rest) = Err (suc (length rest))

unfoldable pub kernel_at : List TextToken → Result Program ℕ
kernel_at words = do
  from ← past mark.Kernel words
  x ← name_at from
  inside ← past mark.OpenParen x.1
  ps ← params_at inside
  t ← tail_at ps.1
  vs ← vars_at t.1
  l ← loop_at vs.1
  a ← answer_by t.0 l.1
  alone (record { name = x.0; params = ps.0; vars = vs.0; for_loop = l.0; answer = a.0 }) a.1

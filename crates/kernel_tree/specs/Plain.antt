-- A syntax tree and a token as plain data: what they are apart from where they lie in memory.
use Rattle.std.specs.Prelude.{ℕ, ℤ, List, [], ◌∷◌, Option, option_map, map, string_bytes, Bool, nat_eq}
use Rattle.kernel_tree.specs.declared.name.Name.{Name}
use Rattle.kernel_tree.specs.declared.ops.Ty.{Ty}
use Rattle.kernel_tree.specs.declared.ops.UnaryOp.{UnaryOp}
use Rattle.kernel_tree.specs.declared.ops.BinaryOp.{BinaryOp}
use Rattle.kernel_tree.specs.declared.ops.CompareOp.{CompareOp}
use Rattle.kernel_tree.specs.declared.ops.UpdateOp.{UpdateOp}
use Rattle.kernel_tree.specs.declared.ast.Expr.{Expr}
use Rattle.kernel_tree.specs.declared.ast.Expr.TheVariants as expr
use Rattle.kernel_tree.specs.declared.ast.Stmt.{Stmt, Row_of-Stmt, end_of-Stmt, more_of-Stmt, Held-Stmt-If-2, None', Some'}
use Rattle.kernel_tree.specs.declared.ast.Stmt.TheVariants as stmt
use Rattle.kernel_tree.specs.declared.ast.Shape.{Shape}
use Rattle.kernel_tree.specs.declared.ast.Param.{Param}
use Rattle.kernel_tree.specs.declared.ast.Var.{Var}
use Rattle.kernel_tree.specs.declared.ast.Loop.{Loop}
use Rattle.kernel_tree.specs.declared.ast.Answer.{Answer}
use Rattle.kernel_tree.specs.declared.ast.Kernel.{Kernel}
use Rattle.kernel_tree.specs.declared.mark.Mark.{Mark}
use Rattle.kernel_tree.specs.declared.mark.Mark.TheVariants as mark
use Rattle.kernel_tree.specs.declared.token.Token.{Token}
use Rattle.kernel_tree.specs.declared.token.Token.TheVariants as token
use Rattle.kernel_tree.specs.TextToken.{TextToken, IsName, IsNumber, IsType, IsCompare, IsUpdate, IsMark}

-- an expression
pub data Term : Type 0 where
  Literal : ℤ → Term
  Variable : List ℕ → Term
  Element : List ℕ → Term → Term
  Unary : UnaryOp → Term → Term
  Operation : BinaryOp → Term → Term → Term
  -- to the left where true, and by how many bits
  Shift : Bool → Term → ℤ → Term
  Conversion : Term → Ty → Term
  -- the condition, the value where it holds, and the other one
  Choice : Term → Term → Term → Term
  Comparison : CompareOp → Term → Term → Term
  Both : Term → Term → Term
  Either : Term → Term → Term
  Not : Term → Term

-- a statement, and the statements of a block in their order
mutual
  pub data Action : Type 0 where
    Define : List ℕ → Option Ty → Term → Action
    Put : List ℕ → Term → Term → Action
    Update : List ℕ → UpdateOp → Term → Action
    Choose : Term → Block → Otherwise → Action
    Leave : Term → Action

  pub data Block : Type 0 where
    Done : Block
    Then : Action → Block → Block

  pub data Otherwise : Type 0 where
    Nothing : Otherwise
    Else : Block → Otherwise

pub record Parameter : Type 0 where
  pub name : List ℕ
  pub shape : Shape

pub record Accumulator : Type 0 where
  pub name : List ℕ
  pub type : Ty
  pub init : Term

pub record PlainLoop : Type 0 where
  pub index : List ℕ
  pub bound : List ℕ
  pub body : Block

pub record Returned : Type 0 where
  pub type : Ty
  pub value : Term

-- a kernel
pub record Program : Type 0 where
  pub name : List ℕ
  pub params : List Parameter
  pub vars : List Accumulator
  pub for_loop : Option PlainLoop
  pub answer : Option Returned

-- a name's bytes
abbrev pub name_of : Name → List ℕ
name_of n = string_bytes n.text

abbrev pub term_of : Expr → Term
term_of (expr.Lit n) = Literal n
term_of (expr.Var x) = Variable (name_of x)
term_of (expr.Read' a p i) = Element (name_of a) (term_of i)
term_of (expr.Unary' op p e) = Unary op (term_of e)
term_of (expr.Binary' op p a q b) = Operation op (term_of a) (term_of b)
term_of (expr.Shift' left p e n) = Shift left (term_of e) n
term_of (expr.Cast' p e t) = Conversion (term_of e) t
term_of (expr.Select' p c q a r b) = Choice (term_of c) (term_of a) (term_of b)
term_of (expr.Compare' op p a q b) = Comparison op (term_of a) (term_of b)
term_of (expr.And' p a q b) = Both (term_of a) (term_of b)
term_of (expr.Or' p a q b) = Either (term_of a) (term_of b)
term_of (expr.Not' p e) = Not (term_of e)

abbrev mutual
  pub action_of : Stmt → Action
  action_of (stmt.Let x t e) = Define (name_of x) t (term_of e)
  action_of (stmt.Store a i e) = Put (name_of a) (term_of i) (term_of e)
  action_of (stmt.Update x op e) = Update (name_of x) op (term_of e)
  action_of (stmt.If' c shape then_part otherwise) = Choose (term_of c) (row_of then_part) (held_of otherwise)
  action_of (stmt.Break c) = Leave (term_of c)

  pub row_of : {m : _} → Row_of-Stmt m → Block
  row_of end_of-Stmt = Done
  row_of (more_of-Stmt s rest) = Then (action_of s) (row_of rest)

  pub held_of : Held-Stmt-If-2 → Otherwise
  held_of None' = Nothing
  held_of (Some' shape rows) = Else (row_of rows)

abbrev pub block_of : List Stmt → Block
block_of [] = Done
block_of (s ∷ rest) = Then (action_of s) (block_of rest)

abbrev pub parameter_of : Param → Parameter
parameter_of p = record { name = name_of p.name; shape = p.shape }

abbrev pub parameters_of : List Param → List Parameter
parameters_of ps = map parameter_of ps

abbrev pub accumulator_of : Var → Accumulator
accumulator_of v = record { name = name_of v.name; type = v.ty; init = term_of v.init }

abbrev pub accumulators_of : List Var → List Accumulator
accumulators_of vs = map accumulator_of vs

abbrev pub for_loop_of : Loop → PlainLoop
for_loop_of l = record { index = name_of l.index; bound = name_of l.bound; body = block_of l.body.items }

abbrev pub returned_of : Answer → Returned
returned_of a = record { type = a.ty; value = term_of a.value }

abbrev pub program_of : Kernel → Program
program_of k = record {
  name = name_of k.name;
  params = parameters_of k.params.items;
  vars = accumulators_of k.vars.items;
  for_loop = option_map for_loop_of k.body;
  answer = option_map returned_of k.answer;
}

abbrev pub word_of : Token → TextToken
word_of (token.Name x) = IsName (name_of x)
word_of (token.Number n) = IsNumber n.value
word_of (token.Type t) = IsType t
word_of (token.Compare op) = IsCompare op
word_of (token.Update op) = IsUpdate op
word_of (token.Mark m) = IsMark m

abbrev pub words_of : List Token → List TextToken
words_of ts = map word_of ts

-- the number of a mark, in the order of the declaration
abbrev pub number_of_mark : Mark → ℕ
number_of_mark mark.Kernel = 0
number_of_mark mark.Var = 1
number_of_mark mark.For = 2
number_of_mark mark.In = 3
number_of_mark mark.Let = 4
number_of_mark mark.If = 5
number_of_mark mark.Else = 6
number_of_mark mark.Break = 7
number_of_mark mark.Return = 8
number_of_mark mark.Select = 9
number_of_mark mark.Min = 10
number_of_mark mark.Max = 11
number_of_mark mark.Abs = 12
number_of_mark mark.As = 13
number_of_mark mark.OpenParen = 14
number_of_mark mark.CloseParen = 15
number_of_mark mark.OpenBracket = 16
number_of_mark mark.CloseBracket = 17
number_of_mark mark.OpenBrace = 18
number_of_mark mark.CloseBrace = 19
number_of_mark mark.Comma = 20
number_of_mark mark.Semicolon = 21
number_of_mark mark.Colon = 22
number_of_mark mark.Arrow = 23
number_of_mark mark.Range = 24
number_of_mark mark.Equals = 25
number_of_mark mark.Plus = 26
number_of_mark mark.Minus = 27
number_of_mark mark.Star = 28
number_of_mark mark.ShiftLeft = 29
number_of_mark mark.ShiftRight = 30
number_of_mark mark.Ampersand = 31
number_of_mark mark.Caret = 32
number_of_mark mark.Bar = 33
number_of_mark mark.AndAnd = 34
number_of_mark mark.OrOr = 35
number_of_mark mark.Tilde = 36
number_of_mark mark.Bang = 37

abbrev pub same : Mark → Mark → Bool
same a b = nat_eq (number_of_mark a) (number_of_mark b)

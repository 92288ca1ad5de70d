-- Typing by kinds: values where values are wanted, and conditions where conditions are.
use Rattle.std.specs.Prelude.{List, [], ◌∷◌, Option, Some, None}
use Rattle.kernel_tree.specs.Plain.{Term, Literal, Variable, Element, Unary, Operation, Shift, Conversion, Choice, Comparison, Both, Either, Not, Action, Define, Put, Update, Choose, Leave, Block, Done, Then, Otherwise, Nothing, Else, Accumulator, PlainLoop, Returned, Program}

abbrev mutual
  pub IsValue : Term → Type 0
  IsValue (Literal n) = Unit {0}
  IsValue (Variable x) = Unit {0}
  IsValue (Element a i) = IsValue i
  IsValue (Unary op e) = IsValue e
  IsValue (Operation op x y) = IsValue x × IsValue y
  IsValue (Shift left e n) = IsValue e
  IsValue (Conversion e t) = IsValue e
  IsValue (Choice c x y) = IsValue x × IsValue y × IsTruth c
  IsValue (Comparison op x y) = ⊥
  IsValue (Both x y) = ⊥
  IsValue (Either x y) = ⊥
  IsValue (Not e) = ⊥

  pub IsTruth : Term → Type 0
  IsTruth (Comparison op x y) = IsValue x × IsValue y
  IsTruth (Both x y) = IsTruth x × IsTruth y
  IsTruth (Either x y) = IsTruth x × IsTruth y
  IsTruth (Not e) = IsTruth e
  IsTruth (Literal n) = ⊥
  IsTruth (Variable x) = ⊥
  IsTruth (Element a i) = ⊥
  IsTruth (Unary op e) = ⊥
  IsTruth (Operation op x y) = ⊥
  IsTruth (Shift left e n) = ⊥
  IsTruth (Conversion e t) = ⊥
  IsTruth (Choice c x y) = ⊥

-- statements; the index of a store is evaluated nowhere
abbrev mutual
  pub ActionKinds : Action → Type 0
  ActionKinds (Define x t e) = IsValue e
  ActionKinds (Put a i e) = IsValue e
  ActionKinds (Update x op e) = IsValue e
  ActionKinds (Choose c b d) = IsTruth c × BlockKinds b × OtherwiseKinds d
  ActionKinds (Leave c) = IsTruth c

  pub BlockKinds : Block → Type 0
  BlockKinds Done = Unit {0}
  BlockKinds (Then a b) = ActionKinds a × BlockKinds b

  pub OtherwiseKinds : Otherwise → Type 0
  OtherwiseKinds Nothing = Unit {0}
  OtherwiseKinds (Else b) = BlockKinds b

abbrev pub VarsKinds : List Accumulator → Type 0
VarsKinds [] = Unit {0}
VarsKinds (v ∷ vs) = IsValue v.init × VarsKinds vs

abbrev pub ForLoopKinds : Option PlainLoop → Type 0
ForLoopKinds None = Unit {0}
ForLoopKinds (Some l) = BlockKinds l.body

abbrev pub AnswerKinds : Option Returned → Type 0
AnswerKinds None = Unit {0}
AnswerKinds (Some a) = IsValue a.value

pub record KernelKinds (k : Program) : Type 0 where
  pub vars : VarsKinds k.vars
  pub for_loop : ForLoopKinds k.for_loop
  pub answer : AnswerKinds k.answer

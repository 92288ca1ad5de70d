-- The grammar by cases. Each relation holds of the tokens from a place, of what they spell, and of the
-- tokens that are left after it.
use Rattle.std.specs.Prelude.{◌≡◌, ℕ, suc, pos, neg_ℤ, List, [], ◌∷◌, Bool, true, false, Option, Some, None, IsTrue}
use Rattle.kernel_tree.specs.declared.ops.Ty.{Ty}
use Rattle.kernel_tree.specs.declared.ops.UnaryOp.TheVariants as unary
use Rattle.kernel_tree.specs.declared.ops.BinaryOp.{BinaryOp}
use Rattle.kernel_tree.specs.declared.ops.BinaryOp.TheVariants as binary
use Rattle.kernel_tree.specs.declared.ops.CompareOp.{CompareOp}
use Rattle.kernel_tree.specs.declared.ops.UpdateOp.{UpdateOp}
use Rattle.kernel_tree.specs.declared.ast.Shape.TheVariants as shape
use Rattle.kernel_tree.specs.declared.mark.Mark.{Mark}
use Rattle.kernel_tree.specs.declared.mark.Mark.TheVariants as mark
use Rattle.kernel_tree.specs.declared.mark.Joint.{Joint}
use Rattle.kernel_tree.specs.declared.mark.Joint.TheVariants as joint
use Rattle.kernel_tree.specs.declared.mark.Operator.{Operator}
use Rattle.kernel_tree.specs.declared.mark.Operator.TheVariants as operator
use Rattle.kernel_tree.specs.declared.mark.Sign.{Sign}
use Rattle.kernel_tree.specs.declared.mark.Sign.TheVariants as sign
use Rattle.kernel_tree.specs.declared.mark.Opening.{Opening}
use Rattle.kernel_tree.specs.declared.mark.Opening.TheVariants as opening
use Rattle.kernel_tree.specs.declared.mark.Beginning.{Beginning}
use Rattle.kernel_tree.specs.declared.mark.Beginning.TheVariants as beginning
use Rattle.kernel_tree.specs.TextToken.{TextToken, IsName, IsNumber, IsType, IsCompare, IsUpdate, IsMark}
use Rattle.kernel_tree.specs.Tokens.{are_tokens}
use Rattle.kernel_tree.specs.Plain.{Term, Literal, Variable, Element, Unary, Operation, Shift, Conversion, Choice, Comparison, Both, Either, Not, Action, Define, Put, Update, Choose, Leave, Block, Done, Then, Nothing, Else, Parameter, Accumulator, PlainLoop, Program}

-- ---- operators

abbrev pub operator_of_mark : Mark → Option Operator
operator_of_mark mark.Plus = Some (operator.Joined (joint.Dual binary.Add))
operator_of_mark mark.Minus = Some (operator.Joined (joint.Dual binary.Sub))
operator_of_mark mark.Star = Some (operator.Joined (joint.Dual binary.Mul))
operator_of_mark mark.Ampersand = Some (operator.Joined (joint.Dual binary.And))
operator_of_mark mark.Bar = Some (operator.Joined (joint.Dual binary.Or))
operator_of_mark mark.Caret = Some (operator.Joined (joint.Dual binary.Xor))
operator_of_mark mark.AndAnd = Some (operator.Joined joint.Both)
operator_of_mark mark.OrOr = Some (operator.Joined joint.Either)
operator_of_mark mark.ShiftLeft = Some (operator.Shifted true)
operator_of_mark mark.ShiftRight = Some (operator.Shifted false)
operator_of_mark mark.As = Some operator.As
operator_of_mark _ = None

-- what a token is after a first operand
abbrev pub operator_of : TextToken → Option Operator
operator_of (IsMark m) = operator_of_mark m
operator_of (IsCompare op) = Some (operator.Compared op)
operator_of (IsName x) = None
operator_of (IsNumber n) = None
operator_of (IsType t) = None
operator_of (IsUpdate op) = None

-- The levels, from the tightest: 0 a unary expression, 1 conversions, 2 products, 3 sums, 4 shifts, 5 `&`, 6 `^`,
-- 7 `|`, 8 comparisons, 9 `&&`, 10 `||`, which is any expression.
abbrev pub level_of_dual : BinaryOp → ℕ
level_of_dual binary.Mul = 2
level_of_dual binary.Add = 3
level_of_dual binary.Sub = 3
level_of_dual binary.And = 5
level_of_dual binary.Xor = 6
level_of_dual binary.Or = 7
-- these two stand in calls alone
level_of_dual binary.Min = 0
level_of_dual binary.Max = 0

abbrev pub level_of_joint : Joint → ℕ
level_of_joint (joint.Dual op) = level_of_dual op
level_of_joint joint.Both = 9
level_of_joint joint.Either = 10

abbrev pub level_of : Operator → ℕ
level_of operator.As = 1
level_of (operator.Shifted left) = 4
level_of (operator.Compared op) = 8
level_of (operator.Joined j) = level_of_joint j

abbrev pub joined : Joint → Term → Term → Term
joined (joint.Dual op) a b = Operation op a b
joined joint.Both a b = Both a b
joined joint.Either a b = Either a b

-- ---- what stands in front

-- what a mark at the front of a unary expression opens
abbrev pub opening_of_mark : Mark → Option Opening
opening_of_mark mark.OpenParen = Some opening.Group
opening_of_mark mark.Min = Some (opening.Pair binary.Min)
opening_of_mark mark.Max = Some (opening.Pair binary.Max)
opening_of_mark mark.Abs = Some opening.Absolute
opening_of_mark mark.Select = Some opening.Choice
opening_of_mark mark.Minus = Some (opening.Signed sign.Minus)
opening_of_mark mark.Tilde = Some (opening.Signed sign.Flip)
opening_of_mark mark.Bang = Some (opening.Signed sign.Not)
opening_of_mark _ = None

-- what a mark at the front of a statement begins
abbrev pub beginning_of_mark : Mark → Option Beginning
beginning_of_mark mark.Let = Some beginning.Definition
beginning_of_mark mark.If = Some beginning.Choice
beginning_of_mark mark.Break = Some beginning.Leaving
beginning_of_mark _ = None

abbrev pub signed : Sign → Term → Term
signed sign.Minus e = Unary unary.Neg e
signed sign.Flip e = Unary unary.Flip e
signed sign.Not e = Not e

-- the number at the front, and the tokens after it
abbrev pub number_at : List TextToken → Option (ℕ × List TextToken)
number_at [] = None
number_at (IsNumber n ∷ rest) = Some (n, rest)
number_at (IsName x ∷ rest) = None
number_at (IsType t ∷ rest) = None
number_at (IsCompare op ∷ rest) = None
number_at (IsUpdate op ∷ rest) = None
number_at (IsMark m ∷ rest) = None

-- the number that a sign in front of these tokens belongs to: a minus before a number is the number's
abbrev pub number_following : Sign → List TextToken → Option (ℕ × List TextToken)
number_following sign.Minus words = number_at words
number_following sign.Flip words = None
number_following sign.Not words = None

-- ---- expressions

-- Spells level words e rest: the words begin with an expression of the level that is e, and rest follows it
pub data Spells : ℕ → List TextToken → Term → List TextToken → Type 0 where
  number : {n : ℕ} {rest : List TextToken} → Spells 0 (IsNumber n ∷ rest) (Literal (pos n)) rest
  name : {x : List ℕ} {rest : List TextToken} → Spells 0 (IsName x ∷ rest) (Variable x) rest
  element : {x : List ℕ} {i : Term} {from rest : List TextToken} →
      Spells 10 from i (IsMark mark.CloseBracket ∷ rest) →
      Spells 0 (IsName x ∷ IsMark mark.OpenBracket ∷ from) (Element x i) rest
  group : {e : Term} {from rest : List TextToken} →
      Spells 10 from e (IsMark mark.CloseParen ∷ rest) →
      Spells 0 (IsMark mark.OpenParen ∷ from) e rest
  pair : {op : BinaryOp} {m : Mark} {a b : Term} {from next rest : List TextToken} →
      opening_of_mark m ≡ Some (opening.Pair op) →
      Spells 10 from a (IsMark mark.Comma ∷ next) →
      Spells 10 next b (IsMark mark.CloseParen ∷ rest) →
      Spells 0 (IsMark m ∷ IsMark mark.OpenParen ∷ from) (Operation op a b) rest
  absolute : {e : Term} {from rest : List TextToken} →
      Spells 10 from e (IsMark mark.CloseParen ∷ rest) →
      Spells 0 (IsMark mark.Abs ∷ IsMark mark.OpenParen ∷ from) (Unary unary.Abs e) rest
  choice : {c a b : Term} {from next last rest : List TextToken} →
      Spells 10 from c (IsMark mark.Comma ∷ next) →
      Spells 10 next a (IsMark mark.Comma ∷ last) →
      Spells 10 last b (IsMark mark.CloseParen ∷ rest) →
      Spells 0 (IsMark mark.Select ∷ IsMark mark.OpenParen ∷ from) (Choice c a b) rest
  negative : {n : ℕ} {rest : List TextToken} →
      Spells 0 (IsMark mark.Minus ∷ IsNumber n ∷ rest) (Literal (neg_ℤ (pos n))) rest
  prefix : {s : Sign} {m : Mark} {e : Term} {from rest : List TextToken} →
      opening_of_mark m ≡ Some (opening.Signed s) →
      number_following s from ≡ None →
      Spells 0 from e rest →
      Spells 0 (IsMark m ∷ from) (signed s e) rest
  up : {level : ℕ} {e : Term} {from rest : List TextToken} → Spells level from e rest → Spells (suc level) from e rest
  conversion : {level : ℕ} {e : Term} {t : Ty} {w : TextToken} {from rest : List TextToken} →
      Spells (suc level) from e (w ∷ IsType t ∷ rest) →
      operator_of w ≡ Some operator.As →
      level_of operator.As ≡ suc level →
      Spells (suc level) from (Conversion e t) rest
  shift : {level : ℕ} {left : Bool} {e : Term} {n : ℕ} {w : TextToken} {from rest : List TextToken} →
      Spells (suc level) from e (w ∷ IsNumber n ∷ rest) →
      operator_of w ≡ Some (operator.Shifted left) →
      level_of (operator.Shifted left) ≡ suc level →
      Spells (suc level) from (Shift left e (pos n)) rest
  operation : {level : ℕ} {j : Joint} {w : TextToken} {a b : Term} {from next rest : List TextToken} →
      Spells (suc level) from a (w ∷ next) →
      operator_of w ≡ Some (operator.Joined j) →
      level_of (operator.Joined j) ≡ suc level →
      Spells level next b rest →
      Spells (suc level) from (joined j a b) rest
  -- no comparison of comparisons without parentheses
  comparison : {level : ℕ} {op : CompareOp} {w : TextToken} {a b : Term} {from next rest : List TextToken} →
      Spells level from a (w ∷ next) →
      operator_of w ≡ Some (operator.Compared op) →
      level_of (operator.Compared op) ≡ suc level →
      Spells level next b rest →
      Spells (suc level) from (Comparison op a b) rest

-- ---- statements

-- the type that a definition may give
pub data SpellsType : List TextToken → Option Ty → List TextToken → Type 0 where
  untyped : {rest : List TextToken} → SpellsType rest None rest
  typed : {t : Ty} {rest : List TextToken} → SpellsType (IsMark mark.Colon ∷ IsType t ∷ rest) (Some t) rest

-- A statement, and statements as many as there are with the brace after them. A `break` stands in the loop's own
-- block alone, where the first argument is true.
mutual
  pub data SpellsAction : Bool → List TextToken → Action → List TextToken → Type 0 where
    define : {whole : Bool} {x : List ℕ} {t : Option Ty} {e : Term} {from next rest : List TextToken} →
        SpellsType from t (IsMark mark.Equals ∷ next) →
        Spells 10 next e (IsMark mark.Semicolon ∷ rest) →
        SpellsAction whole (IsMark mark.Let ∷ IsName x ∷ from) (Define x t e) rest
    put : {whole : Bool} {x : List ℕ} {i e : Term} {from next rest : List TextToken} →
        Spells 10 from i (IsMark mark.CloseBracket ∷ IsMark mark.Equals ∷ next) →
        Spells 10 next e (IsMark mark.Semicolon ∷ rest) →
        SpellsAction whole (IsName x ∷ IsMark mark.OpenBracket ∷ from) (Put x i e) rest
    update : {whole : Bool} {x : List ℕ} {op : UpdateOp} {e : Term} {from rest : List TextToken} →
        Spells 10 from e (IsMark mark.Semicolon ∷ rest) →
        SpellsAction whole (IsName x ∷ IsUpdate op ∷ from) (Update x op e) rest
    choose : {whole : Bool} {c : Term} {b : Block} {from next rest : List TextToken} →
        Spells 10 from c (IsMark mark.OpenBrace ∷ next) →
        SpellsBlock false next b rest →
        SpellsAction whole (IsMark mark.If ∷ from) (Choose c b Nothing) rest
    choose_else : {whole : Bool} {c : Term} {b d : Block} {from next more rest : List TextToken} →
        Spells 10 from c (IsMark mark.OpenBrace ∷ next) →
        SpellsBlock false next b (IsMark mark.Else ∷ IsMark mark.OpenBrace ∷ more) →
        SpellsBlock false more d rest →
        SpellsAction whole (IsMark mark.If ∷ from) (Choose c b (Else d)) rest
    leave : {c : Term} {from rest : List TextToken} →
        Spells 10 from c (IsMark mark.Semicolon ∷ rest) →
        SpellsAction true (IsMark mark.Break ∷ IsMark mark.If ∷ from) (Leave c) rest

  pub data SpellsBlock : Bool → List TextToken → Block → List TextToken → Type 0 where
    done : {whole : Bool} {rest : List TextToken} → SpellsBlock whole (IsMark mark.CloseBrace ∷ rest) Done rest
    then : {whole : Bool} {s : Action} {b : Block} {from next rest : List TextToken} →
        SpellsAction whole from s next → SpellsBlock whole next b rest → SpellsBlock whole from (Then s b) rest

-- ---- kernels

pub data SpellsParam : List TextToken → Parameter → List TextToken → Type 0 where
  scalar : {x : List ℕ} {t : Ty} {rest : List TextToken} →
      SpellsParam (IsName x ∷ IsMark mark.Colon ∷ IsType t ∷ rest) (record { name = x; shape = shape.Scalar t }) rest
  array : {x : List ℕ} {t : Ty} {rest : List TextToken} →
      SpellsParam (IsName x ∷ IsMark mark.Colon ∷ IsMark mark.OpenBracket ∷ IsType t ∷ IsMark mark.CloseBracket ∷ rest) (record { name = x; shape = shape.Array t }) rest

-- a parameter, no more than so many others, and the parenthesis after them
pub data SpellsSome : ℕ → List TextToken → List Parameter → List TextToken → Type 0 where
  last : {others : ℕ} {p : Parameter} {from rest : List TextToken} →
      SpellsParam from p (IsMark mark.CloseParen ∷ rest) → SpellsSome others from (p ∷ []) rest
  more : {others : ℕ} {p : Parameter} {ps : List Parameter} {from next rest : List TextToken} →
      SpellsParam from p (IsMark mark.Comma ∷ next) →
      SpellsSome others next ps rest →
      SpellsSome (suc others) from (p ∷ ps) rest

-- at most eight parameters, and the parenthesis after them
pub data SpellsParams : List TextToken → List Parameter → List TextToken → Type 0 where
  none : {rest : List TextToken} → SpellsParams (IsMark mark.CloseParen ∷ rest) [] rest
  some : {ps : List Parameter} {from rest : List TextToken} → SpellsSome 7 from ps rest → SpellsParams from ps rest

pub data SpellsVars : List TextToken → List Accumulator → List TextToken → Type 0 where
  no_var : {rest : List TextToken} → SpellsVars rest [] rest
  var : {x : List ℕ} {t : Ty} {e : Term} {vs : List Accumulator} {from next rest : List TextToken} →
      Spells 10 from e (IsMark mark.Semicolon ∷ next) →
      SpellsVars next vs rest →
      SpellsVars (IsMark mark.Var ∷ IsName x ∷ IsMark mark.Colon ∷ IsType t ∷ IsMark mark.Equals ∷ from) (record { name = x; type = t; init = e } ∷ vs) rest

pub data SpellsLoop : List TextToken → Option PlainLoop → List TextToken → Type 0 where
  no_loop : {rest : List TextToken} → SpellsLoop rest None rest
  loop : {i n : List ℕ} {b : Block} {from rest : List TextToken} →
      SpellsBlock true from b rest →
      SpellsLoop (IsMark mark.For ∷ IsName i ∷ IsMark mark.In ∷ IsNumber 0 ∷ IsMark mark.Range ∷ IsName n ∷ IsMark mark.OpenBrace ∷ from) (Some (record { index = i; bound = n; body = b })) rest

-- Tree words k: the words are the tokens of the kernel k
pub data Tree : List TextToken → Program → Type 0 where
  procedure : {x : List ℕ} {ps : List Parameter} {vs : List Accumulator} {l : Option PlainLoop} {from body next : List TextToken} →
      SpellsParams from ps (IsMark mark.OpenBrace ∷ body) →
      SpellsVars body vs next →
      SpellsLoop next l (IsMark mark.CloseBrace ∷ []) →
      Tree (IsMark mark.Kernel ∷ IsName x ∷ IsMark mark.OpenParen ∷ from) (record { name = x; params = ps; vars = vs; for_loop = l; answer = None })
  function : {x : List ℕ} {ps : List Parameter} {t : Ty} {vs : List Accumulator} {l : Option PlainLoop} {e : Term} {from body next last : List TextToken} →
      SpellsParams from ps (IsMark mark.Arrow ∷ IsType t ∷ IsMark mark.OpenBrace ∷ body) →
      SpellsVars body vs next →
      SpellsLoop next l (IsMark mark.Return ∷ last) →
      Spells 10 last e (IsMark mark.Semicolon ∷ IsMark mark.CloseBrace ∷ []) →
      Tree (IsMark mark.Kernel ∷ IsName x ∷ IsMark mark.OpenParen ∷ from) (record { name = x; params = ps; vars = vs; for_loop = l; answer = Some (record { type = t; value = e }) })

-- a kernel that is the tree of some token list
pub record IsTree (k : Program) : Type 0 where
  pub words : List TextToken
  pub tokens : IsTrue (are_tokens words)
  pub tree : Tree words k

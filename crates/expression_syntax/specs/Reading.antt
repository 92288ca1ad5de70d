-- Reading from left to right, with the number of tokens left where it stops.
use Rattle.std.specs.Prelude.{◌≡◌, ℕ, zero, suc, pos, neg_ℤ, List, [], ◌∷◌, length, Option, Some, None, Result, Ok, Err, nat_eq, if◌then◌else◌}
pub use Rattle.number_text.specs.Numbers.{given}
use Rattle.kernel_tree.specs.declared.ops.Ty.{Ty}
use Rattle.kernel_tree.specs.declared.ops.UnaryOp.TheVariants as unary
use Rattle.kernel_tree.specs.declared.ops.BinaryOp.{BinaryOp}
use Rattle.kernel_tree.specs.declared.ops.UpdateOp.{UpdateOp}
use Rattle.kernel_tree.specs.declared.mark.Mark.{Mark}
use Rattle.kernel_tree.specs.declared.mark.Mark.TheVariants as mark
use Rattle.kernel_tree.specs.declared.mark.Operator.{Operator}
use Rattle.kernel_tree.specs.declared.mark.Operator.TheVariants as operator
use Rattle.kernel_tree.specs.declared.mark.Sign.{Sign}
use Rattle.kernel_tree.specs.declared.mark.Opening.{Opening}
use Rattle.kernel_tree.specs.declared.mark.Opening.TheVariants as opening
use Rattle.kernel_tree.specs.TextToken.{TextToken, IsName, IsNumber, IsType, IsCompare, IsUpdate, IsMark}
use Rattle.kernel_tree.specs.Plain.{Term, Literal, Variable, Element, Unary, Operation, Shift, Conversion, Choice, Comparison, same}
use Rattle.kernel_tree.specs.Grammar.{operator_of, level_of, joined, opening_of_mark, signed, number_at, number_following}
use Rattle.expression_syntax.specs.declared.stop.Stop.{Stop}
use Rattle.expression_syntax.specs.declared.stop.Stop.TheVariants as stop

infixl 10 ◌>>=◌
abbrev pub ◌>>=◌ : {A B : Type 0} → Result A ℕ → (A → Result B ℕ) → Result B ℕ
(Ok x) >>= f = f x
(Err e) >>= f = Err e

-- What a function returned, seen by view, is what reading gives, unless memory ran out.
abbrev pub Fails : {Y : Type 0} → Stop → Result Y ℕ → Type 0
Fails stop.Memory read = Unit {0}
Fails (stop.Syntax left) read = read ≡ Err left

abbrev pub Gives : {X Y : Type 0} → (X → Y) → Result X Stop → Result Y ℕ → Type 0
Gives view (Ok x) read = read ≡ Ok (view x)
Gives view (Err e) read = Fails e read

-- The same of a function that takes no memory: it stops exactly where reading does.
abbrev pub Misses : {Y : Type 0} → Stop → Result Y ℕ → Type 0
Misses stop.Memory read = ⊥
Misses (stop.Syntax left) read = read ≡ Err left

abbrev pub Finds : {X Y : Type 0} → (X → Y) → Result X Stop → Result Y ℕ → Type 0
Finds view (Ok x) read = read ≡ Ok (view x)
Finds view (Err e) read = Misses e read

-- what must be there, or the number of tokens left
abbrev pub needed : {A : Type 0} → Option A → ℕ → Result A ℕ
needed None left = Err left
needed (Some x) left = Ok x

-- ---- one token

-- the mark at the front, and the tokens after it
abbrev pub mark_at : List TextToken → Option (Mark × List TextToken)
mark_at [] = None
mark_at (IsMark m ∷ rest) = Some (m, rest)
mark_at (IsName x ∷ rest) = None
mark_at (IsNumber n ∷ rest) = None
mark_at (IsType t ∷ rest) = None
mark_at (IsCompare op ∷ rest) = None
mark_at (IsUpdate op ∷ rest) = None

abbrev pub name_front : List TextToken → Option (List ℕ × List TextToken)
name_front [] = None
name_front (IsName x ∷ rest) = Some (x, rest)
name_front (IsNumber n ∷ rest) = None
name_front (IsType t ∷ rest) = None
name_front (IsCompare op ∷ rest) = None
name_front (IsUpdate op ∷ rest) = None
name_front (IsMark m ∷ rest) = None

abbrev pub type_front : List TextToken → Option (Ty × List TextToken)
type_front [] = None
type_front (IsType t ∷ rest) = Some (t, rest)
type_front (IsName x ∷ rest) = None
type_front (IsNumber n ∷ rest) = None
type_front (IsCompare op ∷ rest) = None
type_front (IsUpdate op ∷ rest) = None
type_front (IsMark m ∷ rest) = None

abbrev pub update_front : List TextToken → Option (UpdateOp × List TextToken)
update_front [] = None
update_front (IsUpdate op ∷ rest) = Some (op, rest)
update_front (IsName x ∷ rest) = None
update_front (IsNumber n ∷ rest) = None
update_front (IsType t ∷ rest) = None
update_front (IsCompare op ∷ rest) = None
update_front (IsMark m ∷ rest) = None

-- the tokens after a mark, where it stands at the front
unfoldable pub following : Mark → List TextToken → Option (List TextToken)
following m words = given (mark_at words) (λ x. if same x.0 m then Some x.1 else None) None

-- the tokens after a mark that must stand at the front
unfoldable pub past : Mark → List TextToken → Result (List TextToken) ℕ
past m words = needed (following m words) (length words)

unfoldable pub name_at : List TextToken → Result (List ℕ × List TextToken) ℕ
name_at words = needed (name_front words) (length words)

unfoldable pub type_at : List TextToken → Result (Ty × List TextToken) ℕ
type_at words = needed (type_front words) (length words)

unfoldable pub count_at : List TextToken → Result (ℕ × List TextToken) ℕ
count_at words = needed (number_at words) (length words)

-- a name and a mark after it
unfoldable pub name_before : Mark → List TextToken → Result (List ℕ × List TextToken) ℕ
name_before m words = name_at words >>= (λ x. past m x.1 >>= (λ rest. Ok (x.0, rest)))

-- the operator at the front, where it is of a level, and the tokens after it
unfoldable pub operator_at : ℕ → List TextToken → Option (Operator × List TextToken)
operator_at level [] = None
operator_at level (w ∷ rest) = given (operator_of w) (λ o. if nat_eq (level_of o) level then Some (o, rest) else None) None

-- ---- expressions

abbrev pub Outcome : Type 0
Outcome = Result (Term × List TextToken) ℕ

-- what goes on after a first operand
abbrev pub by_operator : (List TextToken → Outcome) → (Term → List TextToken → Outcome) → Term → Operator → List TextToken → Outcome
by_operator operand again left (operator.Joined j) words = operand words >>= (λ r. again (joined j left r.0) r.1)
by_operator operand again left (operator.Compared op) words = operand words >>= (λ r. Ok (Comparison op left r.0, r.1))
by_operator operand again left (operator.Shifted to_left) words = count_at words >>= (λ n. again (Shift to_left left (pos n.0)) n.1)
by_operator operand again left operator.As words = type_at words >>= (λ t. again (Conversion left t.0) t.1)

unfoldable pub more : (List TextToken → Outcome) → ℕ → ℕ → Term → List TextToken → Outcome
more operand level zero left words = Err (length words)
more operand level (suc k) left words =
    given (operator_at level words) (λ o. by_operator operand (more operand level k) left o.0 o.1) (Ok (left, words))

-- an expression of a level, by the reader of unary expressions
unfoldable pub chain_at : (List TextToken → Outcome) → ℕ → List TextToken → Outcome
chain_at unary zero words = unary words
chain_at unary (suc level) words =
    chain_at unary level words >>= (λ x. more (chain_at unary level) (suc level) (suc (length x.1)) x.0 x.1)

-- an expression and a mark after it, by the reader of expressions
unfoldable pub term_before : (List TextToken → Outcome) → Mark → List TextToken → Outcome
term_before read m words = read words >>= (λ e. past m e.1 >>= (λ rest. Ok (e.0, rest)))

unfoldable pub name_by : (List TextToken → Outcome) → List ℕ → List TextToken → Outcome
name_by read x words =
    given (following mark.OpenBracket words) (λ from. term_before read mark.CloseBracket from >>= (λ i. Ok (Element x i.0, i.1))) (Ok (Variable x, words))

unfoldable pub pair_by : (List TextToken → Outcome) → BinaryOp → List TextToken → Outcome
pair_by read op words = do
  from ← past mark.OpenParen words
  a ← term_before read mark.Comma from
  b ← term_before read mark.CloseParen a.1
  Ok (Operation op a.0 b.0, b.1)

unfoldable pub absolute_by : (List TextToken → Outcome) → List TextToken → Outcome
absolute_by read words = do
  from ← past mark.OpenParen words
  e ← term_before read mark.CloseParen from
  Ok (Unary unary.Abs e.0, e.1)

unfoldable pub choice_by : (List TextToken → Outcome) → List TextToken → Outcome
choice_by read words = do
  from ← past mark.OpenParen words
  c ← term_before read mark.Comma from
  a ← term_before read mark.Comma c.1
  b ← term_before read mark.CloseParen a.1
  Ok (Choice c.0 a.0 b.0, b.1)

-- what stands after a sign, by the reader of unary expressions
unfoldable pub signed_by : (List TextToken → Outcome) → Sign → List TextToken → Outcome
signed_by inner s words =
    given (number_following s words) (λ x. Ok (Literal (neg_ℤ (pos x.0)), x.1)) (inner words >>= (λ e. Ok (signed s e.0, e.1)))

abbrev pub sign_of : Option Opening → List TextToken → Option (Sign × List TextToken)
sign_of (Some (opening.Signed s)) rest = Some (s, rest)
sign_of (Some opening.Group) rest = None
sign_of (Some (opening.Pair op)) rest = None
sign_of (Some opening.Absolute) rest = None
sign_of (Some opening.Choice) rest = None
sign_of None rest = None

-- the sign at the front, and the tokens after it
unfoldable pub sign_front : List TextToken → Option (Sign × List TextToken)
sign_front words = given (mark_at words) (λ x. sign_of (opening_of_mark x.0) x.1) None

abbrev pub opened_by : (List TextToken → Outcome) → (List TextToken → Outcome) → Option Opening → List TextToken → Outcome
opened_by read inner None rest = Err (suc (length rest))
opened_by read inner (Some opening.Group) rest = term_before read mark.CloseParen rest
opened_by read inner (Some (opening.Pair op)) rest = pair_by read op rest
opened_by read inner (Some opening.Absolute) rest = absolute_by read rest
opened_by read inner (Some opening.Choice) rest = choice_by read rest
opened_by read inner (Some (opening.Signed s)) rest = signed_by inner s rest

abbrev pub unary_by : (List TextToken → Outcome) → (List TextToken → Outcome) → List TextToken → Outcome
unary_by read inner [] = Err 0
unary_by read inner (IsNumber n ∷ rest) = Ok (Literal (pos n), rest)
unary_by read inner (IsName x ∷ rest) = name_by read x rest
unary_by read inner (IsMark m ∷ rest) = opened_by read inner (opening_of_mark m) rest
unary_by read inner (IsType t ∷ rest) = Err (suc (length rest))
unary_by read inner (IsCompare op ∷ rest) = Err (suc (length rest))
unary_by read inner (IsUpdate op ∷ rest) = Err (suc (length rest))

-- a unary expression, with no more than room of them inside one another
unfoldable pub unary_at : ℕ → List TextToken → Outcome
unary_at zero words = Err (length words)
unary_at (suc room) words = unary_by (chain_at (unary_at room) 10) (unary_at room) words

-- Reading statements.
use Rattle.std.specs.Prelude.{ℕ, zero, suc, List, [], ◌∷◌, length, Bool, true, false, Option, Some, None, Result, Ok, Err}
use Rattle.kernel_tree.specs.declared.ops.Ty.{Ty}
use Rattle.kernel_tree.specs.declared.ops.UpdateOp.{UpdateOp}
use Rattle.kernel_tree.specs.declared.mark.Mark.{Mark}
use Rattle.kernel_tree.specs.declared.mark.Mark.TheVariants as mark
use Rattle.kernel_tree.specs.declared.mark.Beginning.{Beginning}
use Rattle.kernel_tree.specs.declared.mark.Beginning.TheVariants as beginning
use Rattle.kernel_tree.specs.TextToken.{TextToken, IsName, IsNumber, IsType, IsCompare, IsUpdate, IsMark}
use Rattle.kernel_tree.specs.Plain.{Action, Define, Put, Update, Choose, Leave, Block, Done, Then, Nothing, Else}
use Rattle.kernel_tree.specs.Grammar.{beginning_of_mark}
use Rattle.expression_syntax.specs.Reading.{◌>>=◌, given, Outcome, following, past, name_at, type_at, update_front, term_before, chain_at, unary_at}

abbrev pub Statement : Type 0
Statement = Result (Action × List TextToken) ℕ

abbrev pub Statements : Type 0
Statements = Result (Block × List TextToken) ℕ

-- an expression and a mark after it, with room for as many as there are tokens
unfoldable pub term_at : Mark → List TextToken → Outcome
term_at m words = term_before (chain_at (unary_at (length words)) 10) m words

unfoldable pub type_part : List TextToken → Result (Option Ty × List TextToken) ℕ
type_part words = given (following mark.Colon words) (λ rest. type_at rest >>= (λ t. Ok (Some t.0, t.1))) (Ok (None, words))

unfoldable pub define_at : List TextToken → Statement
define_at words = do
  x ← name_at words
  t ← type_part x.1
  from ← past mark.Equals t.1
  e ← term_at mark.Semicolon from
  Ok (Define x.0 t.0 e.0, e.1)

-- after the bracket of an element
unfoldable pub put_at : List ℕ → List TextToken → Statement
put_at x words = do
  i ← term_at mark.CloseBracket words
  next ← past mark.Equals i.1
  e ← term_at mark.Semicolon next
  Ok (Put x i.0 e.0, e.1)

unfoldable pub update_at : List ℕ → UpdateOp → List TextToken → Statement
update_at x op words = term_at mark.Semicolon words >>= (λ e. Ok (Update x op e.0, e.1))

-- after the name of what changes
unfoldable pub target_at : List ℕ → List TextToken → Statement
target_at x words = given (following mark.OpenBracket words) (λ from. put_at x from) (given (update_front words) (λ u. update_at x u.0 u.1) (Err (length words)))

-- after a break, which stands in the loop's own block alone
unfoldable pub leave_at : Bool → List TextToken → Statement
leave_at false words = Err (suc (length words))
leave_at true words = past mark.If words >>= (λ from. term_at mark.Semicolon from >>= (λ c. Ok (Leave c.0, c.1)))

-- the rest of a choice, by the reader of the statements of a block
unfoldable pub choose_by : (List TextToken → Statements) → List TextToken → Statement
choose_by block words = do
  c ← term_at mark.OpenBrace words
  b ← block c.1
  given (following mark.Else b.1) (λ rest. past mark.OpenBrace rest >>= (λ from. block from >>= (λ d. Ok (Choose c.0 b.0 (Else d.0), d.1)))) (Ok (Choose c.0 b.0 Nothing, b.1))

abbrev pub begun_by : Bool → (List TextToken → Statements) → Option Beginning → List TextToken → Statement
begun_by whole block None rest = Err (suc (length rest))
begun_by whole block (Some beginning.Definition) rest = define_at rest
begun_by whole block (Some beginning.Choice) rest = choose_by block rest
begun_by whole block (Some beginning.Leaving) rest = leave_at whole rest

unfoldable pub statement_by : Bool → (List TextToken → Statements) → List TextToken → Statement
statement_by whole block [] = Err 0
statement_by whole block (IsName x ∷ rest) = target_at x rest
statement_by whole block (IsMark m ∷ rest) = begun_by whole block (beginning_of_mark m) rest
statement_by whole block (IsNumber n ∷ rest) = Err (suc (length rest))
statement_by whole block (IsType t ∷ rest) = Err (suc (length rest))
statement_by whole block (IsCompare op ∷ rest) = Err (suc (length rest))
statement_by whole block (IsUpdate op ∷ rest) = Err (suc (length rest))

-- statements up to the brace after them
unfoldable pub block_by : (List TextToken → Statement) → ℕ → List TextToken → Statements
block_by statement zero words = Err (length words)
block_by statement (suc k) words =
    given (following mark.CloseBrace words) (λ rest. Ok (Done, rest)) (statement words >>= (λ s. block_by statement k s.1 >>= (λ b. Ok (Then s.0 b.0, b.1))))

-- no more than room blocks inside one another
unfoldable pub block_at : Bool → ℕ → List TextToken → Statements
block_at whole zero words = Err (length words)
block_at whole (suc room) words = block_by (statement_by whole (block_at false room)) (suc (length words)) words

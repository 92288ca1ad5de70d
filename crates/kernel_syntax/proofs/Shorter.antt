-- Fewer tokens are left after a statement, a parameter and an accumulator.
use Rattle.std.proofs.Common.{◌≡◌, ℕ, ◌≤◌, ◌<◌, Bool, true, false, List, [], ◌∷◌, length, Option, Some, None, Ok, arith}
use Rattle.kernel_tree.specs.declared.mark.Mark.TheVariants as mark
use Rattle.kernel_tree.specs.declared.mark.Beginning.{Beginning}
use Rattle.kernel_tree.specs.declared.mark.Beginning.TheVariants as beginning
use Rattle.kernel_tree.specs.TextToken.{TextToken, IsName, IsNumber, IsType, IsCompare, IsUpdate, IsMark}
use Rattle.kernel_tree.specs.Plain.{Action, Leave, Parameter, Accumulator}
use Rattle.kernel_tree.specs.Grammar.{beginning_of_mark}
use Rattle.expression_syntax.specs.Reading.{◌>>=◌, past}
use Rattle.kernel_syntax.specs.Statements.{Statements, leave_at, begun_by, statement_by, block_at, term_at}
use Rattle.kernel_syntax.specs.Headers.{param_at, var_at}
use Rattle.expression_syntax.proofs.Sound.{not_err}
use Rattle.expression_syntax.proofs.Within.{Passes, Going, passes_bind, passes_one, after_passes}
use Rattle.kernel_syntax.proofs.WithinKernel.{define_goes, target_goes, choose_passes, term_goes, block_at_goes, param_goes, var_goes}
use Rattle.expression_syntax.proofs.Shorter.{passes_ok}

module _ (block : List TextToken → Statements) (goes : Going block) where
  leave_short : (whole : Bool) (words : List TextToken) (y : Action × List TextToken) → leave_at whole words ≡ Ok y → length y.1 ≤ length words
  unfolding leave_at
  leave_short false words y e = absurd (not_err _ _ e)
  leave_short true words y e =
      let all : Passes (past mark.If words >>= (λ from. term_at mark.Semicolon from >>= (λ c. Ok (Leave c.0, c.1)))) (length words) = passes_one (past mark.If words) (λ from. term_at mark.Semicolon from >>= (λ c. Ok (Leave c.0, c.1))) (length words) (after_passes mark.If words (length words) (omega arith))
      (λ from l. passes_bind (term_at mark.Semicolon from) (λ c. Ok (Leave c.0, c.1)) (length words) (term_goes mark.Semicolon from (length words) l) (λ c k. k)) in
      passes_ok _ y (length words) all e

  begun_short : (whole : Bool) (o : Option Beginning) (words : List TextToken) (y : Action × List TextToken) → begun_by whole block o words ≡ Ok y → length y.1 ≤ length words
  begun_short whole None words y e = absurd (not_err _ _ e)
  begun_short whole (Some beginning.Definition) words y e = passes_ok _ y (length words) (define_goes words (length words) (omega arith)) e
  begun_short whole (Some beginning.Choice) words y e = passes_ok _ y (length words) (choose_passes block goes words (length words) (term_goes mark.OpenBrace words (length words) (omega arith))) e
  begun_short whole (Some beginning.Leaving) words y e = leave_short whole words y e

  by_front : (whole : Bool) (words : List TextToken) (y : Action × List TextToken) → statement_by whole block words ≡ Ok y → length y.1 < length words
  unfolding statement_by
  by_front whole [] y e = absurd (not_err _ _ e)
  by_front whole (IsName x ∷ words) y e =
      let less : length y.1 ≤ length words = passes_ok _ y (length words) (target_goes x words (length words) (omega arith)) e in
      omega (arith, less)
  by_front whole (IsMark m ∷ words) y e =
      let less : length y.1 ≤ length words = begun_short whole (beginning_of_mark m) words y e in
      omega (arith, less)
  by_front whole (IsNumber k ∷ words) y e = absurd (not_err _ _ e)
  by_front whole (IsType t ∷ words) y e = absurd (not_err _ _ e)
  by_front whole (IsCompare op ∷ words) y e = absurd (not_err _ _ e)
  by_front whole (IsUpdate op ∷ words) y e = absurd (not_err _ _ e)

pub statement_short : (whole : Bool) (room : ℕ) (words : List TextToken) (y : Action × List TextToken) → statement_by whole (block_at false room) words ≡ Ok y → length y.1 < length words
statement_short whole room words y e = by_front (block_at false room) (block_at_goes false room) whole words y e

pub param_short : (words : List TextToken) (y : Parameter × List TextToken) → param_at words ≡ Ok y → length y.1 ≤ length words
param_short words y e = passes_ok (param_at words) y (length words) (param_goes words (length words) (omega arith)) e

pub var_short : (words : List TextToken) (y : Accumulator × List TextToken) → var_at words ≡ Ok y → length y.1 ≤ length words
var_short words y e = passes_ok (var_at words) y (length words) (var_goes words (length words) (omega arith)) e

-- Fewer tokens are left after what was read.
use Rattle.std.proofs.Common.{◌≡◌, ℕ, zero, suc, ◌≤◌, ◌<◌, List, [], ◌∷◌, length, Option, Some, None, Result, Ok, ap, subst, arith}
use Rattle.std.specs.Prelude.{pos}
use Rattle.kernel_tree.specs.declared.mark.Mark.{Mark}
use Rattle.kernel_tree.specs.declared.mark.Mark.TheVariants as mark
use Rattle.kernel_tree.specs.declared.mark.Operator.{Operator}
use Rattle.kernel_tree.specs.declared.mark.Operator.TheVariants.{Joined, Compared, Shifted, As}
use Rattle.kernel_tree.specs.declared.mark.Opening.{Opening}
use Rattle.kernel_tree.specs.declared.mark.Opening.TheVariants as opening
use Rattle.kernel_tree.specs.TextToken.{TextToken, IsName, IsNumber, IsType, IsCompare, IsUpdate, IsMark}
use Rattle.kernel_tree.specs.Plain.{Term, Literal, Shift, Conversion, Comparison}
use Rattle.kernel_tree.specs.Grammar.{joined, opening_of_mark}
use Rattle.expression_syntax.specs.Reading.{Outcome, past, type_at, count_at, more, chain_at, opened_by, unary_by, unary_at}
use Rattle.expression_syntax.specs.Operands.{joined_by, compared_by, shifted_by, converted_by, extended_by}
use Rattle.expression_syntax.proofs.Sound.{bind_then, ok_is, not_err, after-is}
use Rattle.expression_syntax.proofs.Within.{Passes, Going, passes_bind, count_passes, type_passes, term_passes, more_passes, name_goes, pair_goes, absolute_goes, choice_goes, signed_goes, unary_goes, reads_go}

pub passes_ok : {A : Type 0} (r : Result (A × List TextToken) ℕ) (y : A × List TextToken) (n : ℕ) → Passes r n → r ≡ Ok y → length y.1 ≤ n
passes_ok {A = A} r y n p e = subst (λ (z : Result (A × List TextToken) ℕ). Passes z n) e p

module _ (read inner : List TextToken → Outcome) (goes : Going read) (runs : Going inner) where
  opened_short : (o : Option Opening) (words : List TextToken) (y : Term × List TextToken) → opened_by read inner o words ≡ Ok y → length y.1 ≤ length words
  opened_short None words y e = absurd (not_err _ _ e)
  opened_short (Some opening.Group) words y e = passes_ok _ y (length words) (term_passes read mark.CloseParen words (length words) (goes words (length words) (omega arith))) e
  opened_short (Some (opening.Pair op)) words y e = passes_ok _ y (length words) (pair_goes read inner goes runs op words (length words) (omega arith)) e
  opened_short (Some opening.Absolute) words y e = passes_ok _ y (length words) (absolute_goes read inner goes runs words (length words) (omega arith)) e
  opened_short (Some opening.Choice) words y e = passes_ok _ y (length words) (choice_goes read inner goes runs words (length words) (omega arith)) e
  opened_short (Some (opening.Signed s)) words y e = passes_ok _ y (length words) (signed_goes read inner goes runs s words (length words) (omega arith)) e

  unary_by_short : (words : List TextToken) (y : Term × List TextToken) → unary_by read inner words ≡ Ok y → length y.1 < length words
  unary_by_short [] y e = absurd (not_err _ _ e)
  unary_by_short (IsNumber k ∷ words) y e =
      let same : length words ≡ length y.1 = ap (λ (x : Term × List TextToken). length x.1) (ok_is (Literal (pos k), words) y e) in
      omega (arith, same)
  unary_by_short (IsName x ∷ words) y e =
      let less : length y.1 ≤ length words = passes_ok _ y (length words) (name_goes read inner goes runs x words (length words) (omega arith)) e in
      omega (arith, less)
  unary_by_short (IsMark m ∷ words) y e =
      let less : length y.1 ≤ length words = opened_short (opening_of_mark m) words y e in
      omega (arith, less)
  unary_by_short (IsType t ∷ words) y e = absurd (not_err _ _ e)
  unary_by_short (IsCompare op ∷ words) y e = absurd (not_err _ _ e)
  unary_by_short (IsUpdate op ∷ words) y e = absurd (not_err _ _ e)

unary_short : (room : ℕ) (words : List TextToken) (y : Term × List TextToken) → unary_at room words ≡ Ok y → length y.1 < length words
unfolding unary_at
unary_short zero words y e = absurd (not_err _ _ e)
unary_short (suc room) words y e = unary_by_short (chain_at (unary_at room) 10) (unary_at room) (reads_go room 10) (unary_goes room) words y e

pub chain_short : (room level : ℕ) (words : List TextToken) (y : Term × List TextToken) → chain_at (unary_at room) level words ≡ Ok y → length y.1 < length words
unfolding chain_at
chain_short room zero words y e = unary_short room words y e
chain_short room (suc level) words y e =
    bind_then (chain_at (unary_at room) level words) (λ x. more (chain_at (unary_at room) level) (suc level) (suc (length x.1)) x.0 x.1) y e
    (λ x p q.
    let first : length x.1 < length words = chain_short room level words x p in
    let rest : length y.1 ≤ length x.1 = passes_ok _ y (length x.1) (more_passes (chain_at (unary_at room) level) (reads_go room level) (suc level) (length x.1) (suc (length x.1)) x.0 x.1 (omega arith)) q in
    omega (arith, first, rest))

pub extended_short : (operand : List TextToken → Outcome) → Going operand → (o : Operator) (left : Term) (words : List TextToken) (y : Term × List TextToken) → extended_by operand o left words ≡ Ok y → length y.1 ≤ length words
unfolding joined_by compared_by shifted_by converted_by
extended_short operand goes (Joined j) left words y e = passes_ok _ y (length words) (passes_bind (operand words) (λ r. Ok (joined j left r.0, r.1)) (length words) (goes words (length words) (omega arith)) (λ r l. l)) e
extended_short operand goes (Compared op) left words y e = passes_ok _ y (length words) (passes_bind (operand words) (λ r. Ok (Comparison op left r.0, r.1)) (length words) (goes words (length words) (omega arith)) (λ r l. l)) e
extended_short operand goes (Shifted to_left) left words y e = passes_ok _ y (length words) (passes_bind (count_at words) (λ n. Ok (Shift to_left left (pos n.0), n.1)) (length words) (count_passes words (length words) (omega arith)) (λ n l. l)) e
extended_short operand goes As left words y e = passes_ok _ y (length words) (passes_bind (type_at words) (λ t. Ok (Conversion left t.0, t.1)) (length words) (type_passes words (length words) (omega arith)) (λ t l. l)) e

pub past_short : (m : Mark) (words rest : List TextToken) → past m words ≡ Ok rest → length rest < length words
past_short m words rest e = omega (arith, ap length (after-is m words rest e))

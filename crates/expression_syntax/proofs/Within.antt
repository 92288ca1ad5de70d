-- Reading an expression goes on from where it stands.
use Rattle.std.proofs.Common.{◌≡◌, ℕ, zero, suc, ◌≤◌, List, [], ◌∷◌, length, Option, Some, None, Result, Ok, Err, refl, sym, ap, subst, arith}
use Rattle.std.specs.Prelude.{pos, neg_ℤ}
use Rattle.kernel_tree.specs.declared.ops.Ty.{Ty}
use Rattle.kernel_tree.specs.declared.ops.UnaryOp.TheVariants as unary
use Rattle.kernel_tree.specs.declared.ops.BinaryOp.{BinaryOp}
use Rattle.kernel_tree.specs.declared.mark.Mark.{Mark}
use Rattle.kernel_tree.specs.declared.mark.Mark.TheVariants as mark
use Rattle.kernel_tree.specs.declared.mark.Operator.{Operator}
use Rattle.kernel_tree.specs.declared.mark.Operator.TheVariants.{Joined, Compared, Shifted, As}
use Rattle.kernel_tree.specs.declared.mark.Sign.{Sign}
use Rattle.kernel_tree.specs.declared.mark.Sign.TheVariants as sign
use Rattle.kernel_tree.specs.declared.mark.Opening.{Opening}
use Rattle.kernel_tree.specs.declared.mark.Opening.TheVariants as opening
use Rattle.kernel_tree.specs.TextToken.{TextToken, IsName, IsNumber, IsType, IsCompare, IsUpdate, IsMark}
use Rattle.kernel_tree.specs.Plain.{Term, Literal, Variable, Element, Unary, Operation, Shift, Conversion, Choice, Comparison}
use Rattle.kernel_tree.specs.Grammar.{joined, opening_of_mark, signed, number_following}
use Rattle.expression_syntax.specs.Reading.{◌>>=◌, given, Outcome, following, past, name_at, type_at, count_at, operator_at, by_operator, more, chain_at, term_before, name_by, pair_by, absolute_by, choice_by, signed_by, opened_by, unary_by, unary_at}
use Rattle.expression_syntax.proofs.Sound.{after-is, following-is, name-is, type-is, count-is, operator-is, number-is}
use Rattle.expression_syntax.proofs.Stuck.{after-stops, name-stops, type-stops, count-stops}

-- reading goes on at least to where so many tokens are left
abbrev pub Passes : {A : Type 0} → Result (A × List TextToken) ℕ → ℕ → Type 0
Passes (Ok x) n = length x.1 ≤ n
Passes (Err left) n = left ≤ n

abbrev pub PassesOne : Result (List TextToken) ℕ → ℕ → Type 0
PassesOne (Ok rest) n = length rest ≤ n
PassesOne (Err left) n = left ≤ n

pub passes_bind : {A B : Type 0} (r : Result (A × List TextToken) ℕ) (f : A × List TextToken → Result (B × List TextToken) ℕ) (n : ℕ) → Passes r n → ((x : A × List TextToken) → length x.1 ≤ n → Passes (f x) n) → Passes (r >>= f) n
passes_bind (Ok x) f n p g = g x p
passes_bind (Err left) f n p g = p

pub passes_one : {B : Type 0} (r : Result (List TextToken) ℕ) (f : List TextToken → Result (B × List TextToken) ℕ) (n : ℕ) → PassesOne r n → ((x : List TextToken) → length x ≤ n → Passes (f x) n) → Passes (r >>= f) n
passes_one (Ok x) f n p g = g x p
passes_one (Err left) f n p g = p

pub passes_is : {A : Type 0} (r : Result (A × List TextToken) ℕ) (x : A × List TextToken) (n : ℕ) → r ≡ Ok x → length x.1 ≤ n → Passes r n
passes_is {A = A} r x n e h = subst (λ (z : Result (A × List TextToken) ℕ). Passes z n) (sym e) h

pub passes_same : {A : Type 0} (r s : Result (A × List TextToken) ℕ) (n : ℕ) → r ≡ s → Passes s n → Passes r n
passes_same {A = A} r s n e h = subst (λ (z : Result (A × List TextToken) ℕ). Passes z n) (sym e) h

pub after_passes : (m : Mark) (words : List TextToken) (n : ℕ) → length words ≤ n → PassesOne (past m words) n
after_passes m words n h = go (past m words) refl
  where
    go : (r : Result (List TextToken) ℕ) → past m words ≡ r → PassesOne r n
    go (Ok rest) e = omega (arith, ap length (after-is m words rest e), h)
    go (Err left) e = omega (arith, after-stops m words left e, h)

pub name_passes : (words : List TextToken) (n : ℕ) → length words ≤ n → Passes (name_at words) n
name_passes words n h = go (name_at words) refl
  where
    go : (r : Result (List ℕ × List TextToken) ℕ) → name_at words ≡ r → Passes r n
    go (Ok x) e = omega (arith, ap length (name-is words x e), h)
    go (Err left) e = omega (arith, name-stops words left e, h)

pub type_passes : (words : List TextToken) (n : ℕ) → length words ≤ n → Passes (type_at words) n
type_passes words n h = go (type_at words) refl
  where
    go : (r : Result (Ty × List TextToken) ℕ) → type_at words ≡ r → Passes r n
    go (Ok x) e = omega (arith, ap length (type-is words x e), h)
    go (Err left) e = omega (arith, type-stops words left e, h)

pub count_passes : (words : List TextToken) (n : ℕ) → length words ≤ n → Passes (count_at words) n
count_passes words n h = go (count_at words) refl
  where
    go : (r : Result (ℕ × List TextToken) ℕ) → count_at words ≡ r → Passes r n
    go (Ok x) e = omega (arith, ap length (count-is words x e), h)
    go (Err left) e = omega (arith, count-stops words left e, h)

-- a mark that may be there
pub passes_given : {B : Type 0} (m : Mark) (words : List TextToken) (f : List TextToken → Result (B × List TextToken) ℕ) (b : Result (B × List TextToken) ℕ) (n : ℕ) → length words ≤ n → ((rest : List TextToken) → length rest ≤ n → Passes (f rest) n) → Passes b n → Passes (given (following m words) f b) n
passes_given m words f b n h there not_there = go (following m words) refl
  where
    go : (o : Option (List TextToken)) → following m words ≡ o → Passes (given o f b) n
    go None e = not_there
    go (Some rest) e = there rest (omega (arith, ap length (following-is m words rest e), h))

-- a reader that goes on
abbrev pub Going : {A : Type 0} → (List TextToken → Result (A × List TextToken) ℕ) → Type 0
Going read = (words : List TextToken) (n : ℕ) → length words ≤ n → Passes (read words) n

pub term_passes : (read : List TextToken → Outcome) (m : Mark) (words : List TextToken) (n : ℕ) → Passes (read words) n → Passes (term_before read m words) n
unfolding term_before
term_passes read m words n p =
    passes_bind (read words) (λ e. past m e.1 >>= (λ rest. Ok (e.0, rest))) n p
    (λ e l. passes_one (past m e.1) (λ rest. Ok (e.0, rest)) n (after_passes m e.1 n l) (λ rest k. k))

module _ (operand : List TextToken → Outcome) (goes : Going operand) (level : ℕ) (n : ℕ) where
  by_passes : (k : ℕ) → ((left : Term) (words : List TextToken) → length words ≤ n → Passes (more operand level k left words) n) → (left : Term) (o : Operator) (next : List TextToken) → length next ≤ n → Passes (by_operator operand (more operand level k) left o next) n
  by_passes k again left (Joined j) next h = passes_bind (operand next) (λ r. more operand level k (joined j left r.0) r.1) n (goes next n h) (λ r l. again (joined j left r.0) r.1 l)
  by_passes k again left (Compared op) next h = passes_bind (operand next) (λ r. Ok (Comparison op left r.0, r.1)) n (goes next n h) (λ r l. l)
  by_passes k again left (Shifted to_left) next h = passes_bind (count_at next) (λ c. more operand level k (Shift to_left left (pos c.0)) c.1) n (count_passes next n h) (λ c l. again (Shift to_left left (pos c.0)) c.1 l)
  by_passes k again left As next h = passes_bind (type_at next) (λ t. more operand level k (Conversion left t.0) t.1) n (type_passes next n h) (λ t l. again (Conversion left t.0) t.1 l)

  given_passes : (k : ℕ) → ((left : Term) (words : List TextToken) → length words ≤ n → Passes (more operand level k left words) n) → (left : Term) (words : List TextToken) → length words ≤ n → (o : Option (Operator × List TextToken)) → operator_at level words ≡ o → Passes (given o (λ o. by_operator operand (more operand level k) left o.0 o.1) (Ok (left, words))) n
  given_passes k again left words h None e = h
  given_passes k again left words h (Some o) e = by_passes k again left o.0 o.1 (omega (arith, ap length (operator-is level words o.0 o.1 e).1, h))

  pub more_passes : (k : ℕ) (left : Term) (words : List TextToken) → length words ≤ n → Passes (more operand level k left words) n
  unfolding more
  more_passes zero left words h = h
  more_passes (suc k) left words h = given_passes k (more_passes k) left words h (operator_at level words) refl

pub chain_goes : (unary : List TextToken → Outcome) → Going unary → (level : ℕ) → Going (chain_at unary level)
unfolding chain_at
chain_goes unary goes zero words n h = goes words n h
chain_goes unary goes (suc level) words n h =
    passes_bind (chain_at unary level words) (λ x. more (chain_at unary level) (suc level) (suc (length x.1)) x.0 x.1) n (chain_goes unary goes level words n h)
    (λ x l. more_passes (chain_at unary level) (chain_goes unary goes level) (suc level) n (suc (length x.1)) x.0 x.1 l)

module _ (read inner : List TextToken → Outcome) (goes : Going read) (runs : Going inner) where
  passes_term_before : (m : Mark) (words : List TextToken) (n : ℕ) → length words ≤ n → Passes (term_before read m words) n
  passes_term_before m words n h = term_passes read m words n (goes words n h)

  pub name_goes : (x : List ℕ) → Going (name_by read x)
  unfolding name_by
  name_goes x words n h = passes_given mark.OpenBracket words (λ from. term_before read mark.CloseBracket from >>= (λ i. Ok (Element x i.0, i.1))) (Ok (Variable x, words)) n h
      (λ from l. passes_bind (term_before read mark.CloseBracket from) (λ i. Ok (Element x i.0, i.1)) n (passes_term_before mark.CloseBracket from n l) (λ i k. k)) h

  pub pair_goes : (op : BinaryOp) → Going (pair_by read op)
  unfolding pair_by
  pair_goes op words n h =
      passes_one (past mark.OpenParen words) (λ from. term_before read mark.Comma from >>= (λ a. term_before read mark.CloseParen a.1 >>= (λ b. Ok (Operation op a.0 b.0, b.1)))) n (after_passes mark.OpenParen words n h)
      (λ from l. passes_bind (term_before read mark.Comma from) (λ a. term_before read mark.CloseParen a.1 >>= (λ b. Ok (Operation op a.0 b.0, b.1))) n (passes_term_before mark.Comma from n l)
      (λ a k. passes_bind (term_before read mark.CloseParen a.1) (λ b. Ok (Operation op a.0 b.0, b.1)) n (passes_term_before mark.CloseParen a.1 n k) (λ b i. i)))

  pub absolute_goes : Going (absolute_by read)
  unfolding absolute_by
  absolute_goes words n h =
      passes_one (past mark.OpenParen words) (λ from. term_before read mark.CloseParen from >>= (λ a. Ok (Unary unary.Abs a.0, a.1))) n (after_passes mark.OpenParen words n h)
      (λ from l. passes_bind (term_before read mark.CloseParen from) (λ a. Ok (Unary unary.Abs a.0, a.1)) n (passes_term_before mark.CloseParen from n l) (λ a k. k))

  pub choice_goes : Going (choice_by read)
  unfolding choice_by
  choice_goes words n h =
      passes_one (past mark.OpenParen words) (λ from. term_before read mark.Comma from >>= (λ c. term_before read mark.Comma c.1 >>= (λ a. term_before read mark.CloseParen a.1 >>= (λ b. Ok (Choice c.0 a.0 b.0, b.1))))) n (after_passes mark.OpenParen words n h)
      (λ from l. passes_bind (term_before read mark.Comma from) (λ c. term_before read mark.Comma c.1 >>= (λ a. term_before read mark.CloseParen a.1 >>= (λ b. Ok (Choice c.0 a.0 b.0, b.1)))) n (passes_term_before mark.Comma from n l)
      (λ c k. passes_bind (term_before read mark.Comma c.1) (λ a. term_before read mark.CloseParen a.1 >>= (λ b. Ok (Choice c.0 a.0 b.0, b.1))) n (passes_term_before mark.Comma c.1 n k)
      (λ a i. passes_bind (term_before read mark.CloseParen a.1) (λ b. Ok (Choice c.0 a.0 b.0, b.1)) n (passes_term_before mark.CloseParen a.1 n i) (λ b j. j))))

  number_shorter : (s : Sign) (words : List TextToken) (x : ℕ × List TextToken) (n : ℕ) → length words ≤ n → number_following s words ≡ Some x → length x.1 ≤ n
  number_shorter sign.Minus words x n h e = omega (arith, ap length (number-is words x e), h)
  number_shorter sign.Flip words x n h e = absurd cc
  number_shorter sign.Not words x n h e = absurd cc

  by_number : (s : Sign) (words : List TextToken) (n : ℕ) → length words ≤ n → (o : Option (ℕ × List TextToken)) → number_following s words ≡ o → Passes (given {B = Outcome} o (λ x. Ok (Literal (neg_ℤ (pos x.0)), x.1)) (inner words >>= (λ e. Ok (signed s e.0, e.1)))) n
  by_number s words n h None e = passes_bind (inner words) (λ e. Ok (signed s e.0, e.1)) n (runs words n h) (λ e l. l)
  by_number s words n h (Some x) e = number_shorter s words x n h e

  pub signed_goes : (s : Sign) → Going (signed_by inner s)
  unfolding signed_by
  signed_goes s words n h = by_number s words n h (number_following s words) refl

  pub opened_goes : (o : Option Opening) (words : List TextToken) (n : ℕ) → suc (length words) ≤ n → Passes (opened_by read inner o words) n
  opened_goes None words n h = h
  opened_goes (Some opening.Group) words n h = passes_term_before mark.CloseParen words n (omega (arith, h))
  opened_goes (Some (opening.Pair op)) words n h = pair_goes op words n (omega (arith, h))
  opened_goes (Some opening.Absolute) words n h = absolute_goes words n (omega (arith, h))
  opened_goes (Some opening.Choice) words n h = choice_goes words n (omega (arith, h))
  opened_goes (Some (opening.Signed s)) words n h = signed_goes s words n (omega (arith, h))

  pub unary_by_goes : Going (unary_by read inner)
  unary_by_goes [] n h = omega arith
  unary_by_goes (IsNumber k ∷ words) n h = omega (arith, h)
  unary_by_goes (IsName x ∷ words) n h = name_goes x words n (omega (arith, h))
  unary_by_goes (IsMark m ∷ words) n h = opened_goes (opening_of_mark m) words n h
  unary_by_goes (IsType t ∷ words) n h = h
  unary_by_goes (IsCompare op ∷ words) n h = h
  unary_by_goes (IsUpdate op ∷ words) n h = h

pub unary_goes : (room : ℕ) → Going (unary_at room)
unfolding unary_at
unary_goes zero words n h = h
unary_goes (suc room) words n h = unary_by_goes (chain_at (unary_at room) 10) (unary_at room) (chain_goes (unary_at room) (unary_goes room) 10) (unary_goes room) words n h

pub reads_go : (room : ℕ) (level : ℕ) → Going (chain_at (unary_at room) level)
reads_go room level = chain_goes (unary_at room) (unary_goes room) level

-- Where reading an expression stops, what was read is a front of one.
use Rattle.std.proofs.Common.{◌≡◌, ℕ, zero, suc, List, [], ◌∷◌, length, Option, Some, None, Result, Ok, Err, refl, sym, ap, subst, arith}
use Rattle.std.specs.Prelude.{pos, neg_ℤ}
use Rattle.kernel_tree.specs.declared.ops.UnaryOp.TheVariants as unary
use Rattle.kernel_tree.specs.declared.ops.BinaryOp.{BinaryOp}
use Rattle.kernel_tree.specs.declared.ops.BinaryOp.TheVariants as binary
use Rattle.kernel_tree.specs.declared.mark.Mark.{Mark}
use Rattle.kernel_tree.specs.declared.mark.Mark.TheVariants as mark
use Rattle.kernel_tree.specs.declared.mark.Operator.{Operator}
use Rattle.kernel_tree.specs.declared.mark.Operator.TheVariants.{Joined, Compared, Shifted, As}
use Rattle.kernel_tree.specs.declared.mark.Sign.{Sign}
use Rattle.kernel_tree.specs.declared.mark.Sign.TheVariants as sign
use Rattle.kernel_tree.specs.declared.mark.Opening.TheVariants as opening
use Rattle.kernel_tree.specs.TextToken.{TextToken, IsName, IsNumber, IsType, IsCompare, IsUpdate, IsMark}
use Rattle.kernel_tree.specs.Plain.{Term, Literal, Variable, Element, Unary, Operation, Shift, Conversion, Choice, Comparison}
use Rattle.kernel_tree.specs.Grammar.{up, operation, conversion, shift, joined, opening_of_mark, signed, number_at}
use Rattle.kernel_tree.specs.Front.{Fronts, nothing, above, in_element, in_group, at_pair, first_pair, second_pair, at_absolute, in_absolute, at_choice, first_choice, second_choice, third_choice, in_sign, at_operator, at_type, at_count, in_operation, in_comparison}
use Rattle.expression_syntax.specs.Reading.{◌>>=◌, given, needed, Outcome, following, past, name_at, type_at, count_at, operator_at, by_operator, more, chain_at, term_before, name_by, pair_by, absolute_by, choice_by, signed_by, opened_by, unary_by, unary_at}
use Rattle.expression_syntax.proofs.Sound.{after-is, following-is, operator-is, count-is, type-is, Sound, Left, until_spells, before_spells, joined_is_no_8, other_is_no_8, chain_spells, unary_spells}

-- reading stopped with so many tokens left, and up to there stands a front
pub record Stuck (Front : List TextToken → List TextToken → Type 0) (words : List TextToken) (left : ℕ) : Type 0 where
  pub bad : List TextToken
  pub front : Front words bad
  pub place : length bad ≡ left

pub err_is : {A : Type 0} (m n : ℕ) → ◌≡◌ {A = Result A ℕ} (Err m) (Err n) → m ≡ n
err_is m n e = cc

pub ok_not_err : {A : Type 0} (x : A) (n : ℕ) → ◌≡◌ {A = Result A ℕ} (Ok x) (Err n) → ⊥
ok_not_err x n e = cc

-- what stops stops in its first part, or after it
pub stuck_bind : {A B P : Type 0} (r : Result A ℕ) (f : A → Result B ℕ) (n : ℕ) → (r >>= f) ≡ Err n → (r ≡ Err n → P) → ((x : A) → r ≡ Ok x → f x ≡ Err n → P) → P
stuck_bind (Ok x) f n e a b = b x refl e
stuck_bind (Err d) f n e a b = a (ap Err (err_is d n e))

needed_err : {A : Type 0} (o : Option A) (m n : ℕ) → needed o m ≡ Err n → m ≡ n
needed_err None m n e = err_is m n e
needed_err (Some x) m n e = absurd (ok_not_err x n e)

pub after-stops : (m : Mark) (words : List TextToken) (n : ℕ) → past m words ≡ Err n → length words ≡ n
unfolding past
after-stops m words n e = needed_err (following m words) (length words) n e

pub name-stops : (words : List TextToken) (n : ℕ) → name_at words ≡ Err n → length words ≡ n
unfolding name_at
name-stops words n e = needed_err _ (length words) n e

pub type-stops : (words : List TextToken) (n : ℕ) → type_at words ≡ Err n → length words ≡ n
unfolding type_at
type-stops words n e = needed_err _ (length words) n e

pub count-stops : (words : List TextToken) (n : ℕ) → count_at words ≡ Err n → length words ≡ n
unfolding count_at
count-stops words n e = needed_err _ (length words) n e

pub stuck_from : (Front : List TextToken → List TextToken → Type 0) (to from : List TextToken) (n : ℕ) → to ≡ from → Stuck Front from n → Stuck Front to n
stuck_from Front to from n p h = subst (λ (z : List TextToken). Stuck Front z n) (sym p) h

-- a reader that stops after fronts
abbrev pub Stops : ℕ → (List TextToken → Outcome) → Type 0
Stops level read = (words : List TextToken) (n : ℕ) → read words ≡ Err n → Stuck (Fronts level) words n

module _ (operand : List TextToken → Outcome) (level : ℕ) (sound : Sound level operand) (stops : Stops level operand) (words : List TextToken) (n : ℕ) where
  by_stops : (k : ℕ) → ((left : Term) (mid : List TextToken) → Left level words left mid → more operand (suc level) k left mid ≡ Err n → Stuck (Fronts (suc level)) words n) → (left : Term) (mid : List TextToken) → Left level words left mid → (o : Operator) (next : List TextToken) → operator_at (suc level) mid ≡ Some (o, next) → by_operator operand (more operand (suc level) k) left o next ≡ Err n → Stuck (Fronts (suc level)) words n
  by_stops k again left mid h (Joined j) next p q =
      let m = operator-is (suc level) mid (Joined j) next p in
      let whole = until_spells (suc level) words left mid (m.0 ∷ next) m.1 h.whole in
      stuck_bind (operand next) (λ r. more operand (suc level) k (joined j left r.0) r.1) n q
      (λ f. let s = stops next n f in record { bad = s.bad; front = in_operation whole m.2 m.3 s.front; place = s.place })
      (λ b r f. again (joined j left b.0) b.1 (record { whole = operation whole m.2 m.3 (sound next b.0 b.1 r); lone = λ g. absurd (joined_is_no_8 j level m.3 g) }) f)
  by_stops k again left mid h (Compared op) next p q =
      let m = operator-is (suc level) mid (Compared op) next p in
      let whole = until_spells level words left mid (m.0 ∷ next) m.1 (h.lone (sym m.3)) in
      stuck_bind (operand next) (λ r. Ok (Comparison op left r.0, r.1)) n q
      (λ f. let s = stops next n f in record { bad = s.bad; front = in_comparison whole m.2 m.3 s.front; place = s.place })
      (λ b r f. absurd (ok_not_err (Comparison op left b.0, b.1) n f))
  by_stops k again left mid h (Shifted to_left) next p q =
      let m = operator-is (suc level) mid (Shifted to_left) next p in
      let whole = until_spells (suc level) words left mid (m.0 ∷ next) m.1 h.whole in
      stuck_bind (count_at next) (λ c. more operand (suc level) k (Shift to_left left (pos c.0)) c.1) n q
      (λ f. record { bad = next; front = at_count whole m.2 m.3; place = count-stops next n f })
      (λ b r f. again (Shift to_left left (pos b.0)) b.1 (record { whole = shift (until_spells (suc level) words left (m.0 ∷ next) (m.0 ∷ IsNumber b.0 ∷ b.1) (ap (λ (z : List TextToken). m.0 ∷ z) (count-is next b r)) whole) m.2 m.3; lone = λ g. absurd (other_is_no_8 4 level (omega arith) m.3 g) }) f)
  by_stops k again left mid h As next p q =
      let m = operator-is (suc level) mid As next p in
      let whole = until_spells (suc level) words left mid (m.0 ∷ next) m.1 h.whole in
      stuck_bind (type_at next) (λ t. more operand (suc level) k (Conversion left t.0) t.1) n q
      (λ f. record { bad = next; front = at_type whole m.2 m.3; place = type-stops next n f })
      (λ b r f. again (Conversion left b.0) b.1 (record { whole = conversion (until_spells (suc level) words left (m.0 ∷ next) (m.0 ∷ IsType b.0 ∷ b.1) (ap (λ (z : List TextToken). m.0 ∷ z) (type-is next b r)) whole) m.2 m.3; lone = λ g. absurd (other_is_no_8 1 level (omega arith) m.3 g) }) f)

  given_stops : (k : ℕ) → ((left : Term) (mid : List TextToken) → Left level words left mid → more operand (suc level) k left mid ≡ Err n → Stuck (Fronts (suc level)) words n) → (left : Term) (mid : List TextToken) → Left level words left mid → (o : Option (Operator × List TextToken)) → operator_at (suc level) mid ≡ o → given o (λ o. by_operator operand (more operand (suc level) k) left o.0 o.1) (Ok (left, mid)) ≡ Err n → Stuck (Fronts (suc level)) words n
  given_stops k again left mid h None p q = absurd (ok_not_err (left, mid) n q)
  given_stops k again left mid h (Some o) p q = by_stops k again left mid h o.0 o.1 p q

  more_stops : (k : ℕ) (left : Term) (mid : List TextToken) → Left level words left mid → more operand (suc level) k left mid ≡ Err n → Stuck (Fronts (suc level)) words n
  unfolding more
  more_stops zero left mid h q = record { bad = mid; front = at_operator h.whole; place = err_is (length mid) n q }
  more_stops (suc k) left mid h q = given_stops k (more_stops k) left mid h (operator_at (suc level) mid) refl q

pub chain_stops : (unary : List TextToken → Outcome) → Sound 0 unary → Stops 0 unary → (level : ℕ) → Stops level (chain_at unary level)
unfolding chain_at
chain_stops unary sound stops zero words n q = stops words n q
chain_stops unary sound stops (suc level) words n q =
    stuck_bind (chain_at unary level words) (λ x. more (chain_at unary level) (suc level) (suc (length x.1)) x.0 x.1) n q
    (λ f. let s = chain_stops unary sound stops level words n f in record { bad = s.bad; front = above s.front; place = s.place })
    (λ b r f. let first = chain_spells unary sound level words b.0 b.1 r in
    more_stops (chain_at unary level) level (chain_spells unary sound level) (chain_stops unary sound stops level) words n (suc (length b.1)) b.0 b.1 (record { whole = up first; lone = λ g. first }) f)

-- an expression and the mark after it
pub before_stops : (read : List TextToken → Outcome) → Sound 10 read → Stops 10 read → (m : Mark) (words : List TextToken) (n : ℕ) → term_before read m words ≡ Err n → Stuck (Fronts 10) words n
unfolding term_before
before_stops read sound stops m words n q =
    stuck_bind (read words) (λ e. past m e.1 >>= (λ rest. Ok (e.0, rest))) n q (stops words n)
    (λ e r f. stuck_bind (past m e.1) (λ rest. Ok (e.0, rest)) n f
    (λ g. record { bad = e.1; front = at_operator (sound words e.0 e.1 r); place = after-stops m e.1 n g })
    (λ rest s g. absurd (ok_not_err (e.0, rest) n g)))

module _ (read inner : List TextToken → Outcome) (whole : Sound 10 read) (stops : Stops 10 read) (sound : Sound 0 inner) (halts : Stops 0 inner) where
  stuck_term_before : (m : Mark) (words : List TextToken) (n : ℕ) → term_before read m words ≡ Err n → Stuck (Fronts 10) words n
  stuck_term_before m words n q = before_stops read whole stops m words n q

  name_stops : (x : List ℕ) (words : List TextToken) (n : ℕ) (o : Option (List TextToken)) → following mark.OpenBracket words ≡ o → given {B = Outcome} o (λ from. term_before read mark.CloseBracket from >>= (λ i. Ok (Element x i.0, i.1))) (Ok (Variable x, words)) ≡ Err n → Stuck (Fronts 0) (IsName x ∷ words) n
  name_stops x words n None p q = absurd (ok_not_err (Variable x, words) n q)
  name_stops x words n (Some from) p q =
      stuck_from (Fronts 0) _ _ n (ap (λ (z : List TextToken). IsName x ∷ z) (following-is mark.OpenBracket words from p))
      (stuck_bind (term_before read mark.CloseBracket from) (λ i. Ok (Element x i.0, i.1)) n q
      (λ f. let s = stuck_term_before mark.CloseBracket from n f in record { bad = s.bad; front = in_element s.front; place = s.place })
      (λ i r f. absurd (ok_not_err (Element x i.0, i.1) n f)))

  -- after a mark, an open parenthesis
  stuck_past_open_paren : (m : Mark) (words from : List TextToken) (n : ℕ) → past mark.OpenParen words ≡ Ok from → Stuck (Fronts 0) (IsMark m ∷ IsMark mark.OpenParen ∷ from) n → Stuck (Fronts 0) (IsMark m ∷ words) n
  stuck_past_open_paren m words from n p h = stuck_from (Fronts 0) _ _ n (ap (λ (z : List TextToken). IsMark m ∷ z) (after-is mark.OpenParen words from p)) h

  pair_stops : (m : Mark) (op : BinaryOp) → opening_of_mark m ≡ Some (opening.Pair op) → (words : List TextToken) (n : ℕ) → pair_by read op words ≡ Err n → Stuck (Fronts 0) (IsMark m ∷ words) n
  unfolding pair_by
  pair_stops m op o words n q =
      stuck_bind (past mark.OpenParen words) (λ from. term_before read mark.Comma from >>= (λ a. term_before read mark.CloseParen a.1 >>= (λ b. Ok (Operation op a.0 b.0, b.1)))) n q
      (λ f. record { bad = words; front = at_pair o; place = after-stops mark.OpenParen words n f })
      (λ from p f. stuck_past_open_paren m words from n p (stuck_bind (term_before read mark.Comma from) (λ a. term_before read mark.CloseParen a.1 >>= (λ b. Ok (Operation op a.0 b.0, b.1))) n f
      (λ g. let s = stuck_term_before mark.Comma from n g in record { bad = s.bad; front = first_pair o s.front; place = s.place })
      (λ a r g. stuck_bind (term_before read mark.CloseParen a.1) (λ b. Ok (Operation op a.0 b.0, b.1)) n g
      (λ h. let s = stuck_term_before mark.CloseParen a.1 n h in record { bad = s.bad; front = second_pair o (before_spells read whole mark.Comma from a r) s.front; place = s.place })
      (λ b t h. absurd (ok_not_err (Operation op a.0 b.0, b.1) n h)))))

  absolute_stops : (words : List TextToken) (n : ℕ) → absolute_by read words ≡ Err n → Stuck (Fronts 0) (IsMark mark.Abs ∷ words) n
  unfolding absolute_by
  absolute_stops words n q =
      stuck_bind (past mark.OpenParen words) (λ from. term_before read mark.CloseParen from >>= (λ a. Ok (Unary unary.Abs a.0, a.1))) n q
      (λ f. record { bad = words; front = at_absolute; place = after-stops mark.OpenParen words n f })
      (λ from p f. stuck_past_open_paren mark.Abs words from n p (stuck_bind (term_before read mark.CloseParen from) (λ a. Ok (Unary unary.Abs a.0, a.1)) n f
      (λ g. let s = stuck_term_before mark.CloseParen from n g in record { bad = s.bad; front = in_absolute s.front; place = s.place })
      (λ a r g. absurd (ok_not_err (Unary unary.Abs a.0, a.1) n g))))

  choice_stops : (words : List TextToken) (n : ℕ) → choice_by read words ≡ Err n → Stuck (Fronts 0) (IsMark mark.Select ∷ words) n
  unfolding choice_by
  choice_stops words n q =
      stuck_bind (past mark.OpenParen words) (λ from. term_before read mark.Comma from >>= (λ c. term_before read mark.Comma c.1 >>= (λ a. term_before read mark.CloseParen a.1 >>= (λ b. Ok (Choice c.0 a.0 b.0, b.1))))) n q
      (λ f. record { bad = words; front = at_choice; place = after-stops mark.OpenParen words n f })
      (λ from p f. stuck_past_open_paren mark.Select words from n p (stuck_bind (term_before read mark.Comma from) (λ c. term_before read mark.Comma c.1 >>= (λ a. term_before read mark.CloseParen a.1 >>= (λ b. Ok (Choice c.0 a.0 b.0, b.1)))) n f
      (λ g. let s = stuck_term_before mark.Comma from n g in record { bad = s.bad; front = first_choice s.front; place = s.place })
      (λ c r g. let one = before_spells read whole mark.Comma from c r in stuck_bind (term_before read mark.Comma c.1) (λ a. term_before read mark.CloseParen a.1 >>= (λ b. Ok (Choice c.0 a.0 b.0, b.1))) n g
      (λ h. let s = stuck_term_before mark.Comma c.1 n h in record { bad = s.bad; front = second_choice one s.front; place = s.place })
      (λ a t h. stuck_bind (term_before read mark.CloseParen a.1) (λ b. Ok (Choice c.0 a.0 b.0, b.1)) n h
      (λ i. let s = stuck_term_before mark.CloseParen a.1 n i in record { bad = s.bad; front = third_choice one (before_spells read whole mark.Comma c.1 a t) s.front; place = s.place })
      (λ b u i. absurd (ok_not_err (Choice c.0 a.0 b.0, b.1) n i))))))

  sign_stops : (s : Sign) (m : Mark) → opening_of_mark m ≡ Some (opening.Signed s) → (words : List TextToken) (n : ℕ) → ◌>>=◌ {A = Term × List TextToken} {B = Term × List TextToken} (inner words) (λ e. Ok (signed s e.0, e.1)) ≡ Err n → Stuck (Fronts 0) (IsMark m ∷ words) n
  sign_stops s m o words n q =
      stuck_bind (inner words) (λ e. Ok (signed s e.0, e.1)) n q
      (λ f. let h = halts words n f in record { bad = h.bad; front = in_sign o h.front; place = h.place })
      (λ e r f. absurd (ok_not_err (signed s e.0, e.1) n f))

  minus_stops : (words : List TextToken) (n : ℕ) (o : Option (ℕ × List TextToken)) → number_at words ≡ o → given {B = Outcome} o (λ x. Ok (Literal (neg_ℤ (pos x.0)), x.1)) (inner words >>= (λ e. Ok (signed sign.Minus e.0, e.1))) ≡ Err n → Stuck (Fronts 0) (IsMark mark.Minus ∷ words) n
  minus_stops words n None p q = sign_stops sign.Minus mark.Minus refl words n q
  minus_stops words n (Some x) p q = absurd (ok_not_err (Literal (neg_ℤ (pos x.0)), x.1) n q)

  nowhere : (w : TextToken) (words : List TextToken) (n : ℕ) → ◌≡◌ {A = Outcome} (Err (suc (length words))) (Err n) → Stuck (Fronts 0) (w ∷ words) n
  nowhere w words n q = record { bad = w ∷ words; front = nothing; place = err_is (suc (length words)) n q }

  opened_stops : (m : Mark) (words : List TextToken) (n : ℕ) → opened_by read inner (opening_of_mark m) words ≡ Err n → Stuck (Fronts 0) (IsMark m ∷ words) n
  unfolding signed_by
  opened_stops mark.OpenParen words n q = let s = stuck_term_before mark.CloseParen words n q in record { bad = s.bad; front = in_group s.front; place = s.place }
  opened_stops mark.Min words n q = pair_stops mark.Min binary.Min refl words n q
  opened_stops mark.Max words n q = pair_stops mark.Max binary.Max refl words n q
  opened_stops mark.Abs words n q = absolute_stops words n q
  opened_stops mark.Select words n q = choice_stops words n q
  opened_stops mark.Minus words n q = minus_stops words n (number_at words) refl q
  opened_stops mark.Tilde words n q = sign_stops sign.Flip mark.Tilde refl words n q
  opened_stops mark.Bang words n q = sign_stops sign.Not mark.Bang refl words n q
  opened_stops m words n q = nowhere (IsMark m) words n q

  unary_by_stops : Stops 0 (unary_by read inner)
  unfolding name_by
  unary_by_stops [] n q = record { bad = []; front = nothing; place = err_is 0 n q }
  unary_by_stops (IsNumber k ∷ words) n q = absurd (ok_not_err (Literal (pos k), words) n q)
  unary_by_stops (IsName x ∷ words) n q = name_stops x words n (following mark.OpenBracket words) refl q
  unary_by_stops (IsMark m ∷ words) n q = opened_stops m words n q
  unary_by_stops (IsType t ∷ words) n q = nowhere (IsType t) words n q
  unary_by_stops (IsCompare op ∷ words) n q = nowhere (IsCompare op) words n q
  unary_by_stops (IsUpdate op ∷ words) n q = nowhere (IsUpdate op) words n q

pub unary_stops : (room : ℕ) → Stops 0 (unary_at room)
unfolding unary_at
unary_stops zero words n q = record { bad = words; front = nothing; place = err_is (length words) n q }
unary_stops (suc room) words n q = unary_by_stops (chain_at (unary_at room) 10) (unary_at room) (chain_spells (unary_at room) (unary_spells room) 10) (chain_stops (unary_at room) (unary_spells room) (unary_stops room) 10) (unary_spells room) (unary_stops room) words n q

pub reads_stops : (room : ℕ) (level : ℕ) → Stops level (chain_at (unary_at room) level)
reads_stops room level = chain_stops (unary_at room) (unary_spells room) (unary_stops room) level

-- Reading an expression goes on at least to the end of each front of one.
use Rattle.std.proofs.Common.{◌≡◌, ℕ, zero, suc, ◌-◌, ◌<◌, ◌≤◌, Bool, List, ◌∷◌, length, Option, Some, None, Ok, refl, sym, ap, subst, ◌∙◌, arith}
use Rattle.std.specs.Prelude.{pos, neg_ℤ}
use Rattle.kernel_tree.specs.declared.ops.UnaryOp.TheVariants as unary
use Rattle.kernel_tree.specs.declared.ops.BinaryOp.{BinaryOp}
use Rattle.kernel_tree.specs.declared.ops.CompareOp.{CompareOp}
use Rattle.kernel_tree.specs.declared.mark.Mark.{Mark}
use Rattle.kernel_tree.specs.declared.mark.Mark.TheVariants as mark
use Rattle.kernel_tree.specs.declared.mark.Joint.{Joint}
use Rattle.kernel_tree.specs.declared.mark.Operator.{Operator}
use Rattle.kernel_tree.specs.declared.mark.Operator.TheVariants.{Joined, Compared, Shifted, As}
use Rattle.kernel_tree.specs.declared.mark.Sign.{Sign}
use Rattle.kernel_tree.specs.declared.mark.Sign.TheVariants as sign
use Rattle.kernel_tree.specs.declared.mark.Opening.TheVariants as opening
use Rattle.kernel_tree.specs.TextToken.{TextToken, IsName, IsNumber, IsType, IsMark}
use Rattle.kernel_tree.specs.Plain.{Term, Literal, Element, Unary, Operation, Shift, Conversion, Choice, Comparison}
use Rattle.kernel_tree.specs.Grammar.{Spells, number, name, element, group, pair, absolute, choice, negative, prefix, up, conversion, shift, operation, comparison, operator_of, level_of, joined, opening_of_mark, signed, number_following}
use Rattle.kernel_tree.specs.Front.{Fronts, nothing, above, in_element, end_element, in_group, end_group, at_pair, first_pair, comma_pair, second_pair, end_pair, at_absolute, in_absolute, end_absolute, at_choice, first_choice, comma_choice, second_choice, next_choice, third_choice, end_choice, in_sign, at_operator, at_type, at_count, in_operation, in_comparison}
use Rattle.kernel_tree.proofs.OneTerm.{shorter}
use Rattle.expression_syntax.specs.Reading.{◌>>=◌, given, Outcome, following, past, type_at, count_at, by_operator, more, chain_at, term_before, name_by, pair_by, absolute_by, choice_by, signed_by, unary_at}
use Rattle.expression_syntax.proofs.Chain.{Goes, chain_begins_below, chain_goes_by_operator}
use Rattle.expression_syntax.proofs.Sound.{joined_is_no_8, other_is_no_8, number-is}
use Rattle.kernel_syntax.proofs.Complete.{finish, goes_of, before_reads, reads, stops_before, operator_there, type_there, count_there}
use Rattle.expression_syntax.proofs.Within.{Passes, passes_bind, passes_is, passes_same, term_passes, type_passes, count_passes, more_passes, name_goes, pair_goes, absolute_goes, choice_goes, unary_goes, reads_go}

abbrev pub any : ℕ → List TextToken → Outcome
any room words = chain_at (unary_at room) 10 words

-- ---- after an operator

module _ (room level : ℕ) (from : List TextToken) (n : ℕ) (e : Term) (w : TextToken) (next : List TextToken) where
  operator_is_taken : (o : Operator) → Goes (unary_at room) (suc level) from e (w ∷ next) → operator_of w ≡ Some o → level_of o ≡ suc level → (k : ℕ) × (chain_at (unary_at room) (suc level) from ≡ by_operator (chain_at (unary_at room) level) (more (chain_at (unary_at room) level) (suc level) k) e o next)
  operator_is_taken o g p l =
      let same : suc level - 1 ≡ level = omega arith in
      let whole = chain_goes_by_operator (unary_at room) (suc level) from e (w ∷ next) g o next (sym (operator_there (suc level) w o next p l)) in
      (g.room, subst (λ (k : ℕ). chain_at (unary_at room) (suc level) from ≡ by_operator (chain_at (unary_at room) k) (more (chain_at (unary_at room) k) (suc level) g.room) e o next) same whole)

  go_on : (k : ℕ) (left : Term) (words : List TextToken) → length words ≤ n → Passes (more (chain_at (unary_at room) level) (suc level) k left words) n
  go_on k left words h = more_passes (chain_at (unary_at room) level) (reads_go room level) (suc level) n k left words h

  joined_reaches : (j : Joint) → Spells (suc level) from e (w ∷ next) → operator_of w ≡ Some (Joined j) → level_of (Joined j) ≡ suc level → length from ≤ room → Passes (chain_at (unary_at room) level next) n → Passes (chain_at (unary_at room) (suc level) from) n
  joined_reaches j d o l h p =
      let g = goes_of room level from e (w ∷ next) (joined_is_no_8 j level l) (reads d room h (stops_before level w (Joined j) next o l)) in
      let t = operator_is_taken (Joined j) g o l in
      passes_same _ _ n t.1 (passes_bind (chain_at (unary_at room) level next) (λ r. more (chain_at (unary_at room) level) (suc level) t.0 (joined j e r.0) r.1) n p (λ r k. go_on t.0 (joined j e r.0) r.1 k))

  compared_reaches : (op : CompareOp) → Spells level from e (w ∷ next) → operator_of w ≡ Some (Compared op) → level_of (Compared op) ≡ suc level → length from ≤ room → Passes (chain_at (unary_at room) level next) n → Passes (chain_at (unary_at room) (suc level) from) n
  compared_reaches op d o l h p =
      let same : suc level - 1 ≡ level = omega arith in
      let left = finish room level from e (w ∷ next) (reads d room h) (stops_before level w (Compared op) next o l) in
      let g = chain_begins_below (unary_at room) (suc level) from e (w ∷ next) (omega arith) (rw same left) in
      let t = operator_is_taken (Compared op) g o l in
      passes_same _ _ n t.1 (passes_bind (chain_at (unary_at room) level next) (λ r. Ok (Comparison op e r.0, r.1)) n p (λ r k. k))

  counted_reaches : (to_left : Bool) → Spells (suc level) from e (w ∷ next) → operator_of w ≡ Some (Shifted to_left) → level_of (Shifted to_left) ≡ suc level → length from ≤ room → Passes (count_at next) n → Passes (chain_at (unary_at room) (suc level) from) n
  counted_reaches to_left d o l h p =
      let g = goes_of room level from e (w ∷ next) (other_is_no_8 4 level (omega arith) l) (reads d room h (stops_before level w (Shifted to_left) next o l)) in
      let t = operator_is_taken (Shifted to_left) g o l in
      passes_same _ _ n t.1 (passes_bind (count_at next) (λ c. more (chain_at (unary_at room) level) (suc level) t.0 (Shift to_left e (pos c.0)) c.1) n p (λ c k. go_on t.0 (Shift to_left e (pos c.0)) c.1 k))

  typed_reaches : Spells (suc level) from e (w ∷ next) → operator_of w ≡ Some As → level_of As ≡ suc level → length from ≤ room → Passes (type_at next) n → Passes (chain_at (unary_at room) (suc level) from) n
  typed_reaches d o l h p =
      let g = goes_of room level from e (w ∷ next) (other_is_no_8 1 level (omega arith) l) (reads d room h (stops_before level w As next o l)) in
      let t = operator_is_taken As g o l in
      passes_same _ _ n t.1 (passes_bind (type_at next) (λ t0. more (chain_at (unary_at room) level) (suc level) t.0 (Conversion e t0.0) t0.1) n p (λ t0 k. go_on t.0 (Conversion e t0.0) t0.1 k))

above_reaches : (room level : ℕ) (from : List TextToken) (n : ℕ) → Passes (chain_at (unary_at room) level from) n → Passes (chain_at (unary_at room) (suc level) from) n
unfolding chain_at
above_reaches room level from n p =
    passes_bind (chain_at (unary_at room) level from) (λ x. more (chain_at (unary_at room) level) (suc level) (suc (length x.1)) x.0 x.1) n p
    (λ x k. more_passes (chain_at (unary_at room) level) (reads_go room level) (suc level) n (suc (length x.1)) x.0 x.1 k)

-- ---- within a unary expression

module _ (room : ℕ) (n : ℕ) where
  element_reaches : (x : List ℕ) (from : List TextToken) → Passes (any room from) n → Passes (unary_at (suc room) (IsName x ∷ IsMark mark.OpenBracket ∷ from)) n
  unfolding unary_at name_by following
  element_reaches x from p = passes_bind (term_before (chain_at (unary_at room) 10) mark.CloseBracket from) (λ i. Ok (Element x i.0, i.1)) n (term_passes (chain_at (unary_at room) 10) mark.CloseBracket from n p) (λ i k. k)

  group_reaches : (from : List TextToken) → Passes (any room from) n → Passes (unary_at (suc room) (IsMark mark.OpenParen ∷ from)) n
  unfolding unary_at
  group_reaches from p = term_passes (chain_at (unary_at room) 10) mark.CloseParen from n p

  opens : (m : Mark) (op : BinaryOp) (words : List TextToken) → opening_of_mark m ≡ Some (opening.Pair op) → unary_at (suc room) (IsMark m ∷ words) ≡ pair_by (chain_at (unary_at room) 10) op words
  unfolding unary_at
  opens m op words o = rw o refl

  at_pair_reaches : (m : Mark) (op : BinaryOp) (words : List TextToken) → opening_of_mark m ≡ Some (opening.Pair op) → length words ≤ n → Passes (unary_at (suc room) (IsMark m ∷ words)) n
  at_pair_reaches m op words o h = passes_same _ _ n (opens m op words o) (pair_goes (chain_at (unary_at room) 10) (unary_at room) (reads_go room 10) (unary_goes room) op words n h)

  pair_first : (m : Mark) (op : BinaryOp) (from : List TextToken) → opening_of_mark m ≡ Some (opening.Pair op) → Passes (any room from) n → Passes (pair_by (chain_at (unary_at room) 10) op (IsMark mark.OpenParen ∷ from)) n
  unfolding pair_by past following
  pair_first m op from o p =
      passes_bind (term_before (chain_at (unary_at room) 10) mark.Comma from) (λ a. term_before (chain_at (unary_at room) 10) mark.CloseParen a.1 >>= (λ b. Ok (Operation op a.0 b.0, b.1))) n (term_passes (chain_at (unary_at room) 10) mark.Comma from n p)
      (λ a k. passes_bind (term_before (chain_at (unary_at room) 10) mark.CloseParen a.1) (λ b. Ok (Operation op a.0 b.0, b.1)) n (term_passes (chain_at (unary_at room) 10) mark.CloseParen a.1 n (reads_go room 10 a.1 n k)) (λ b i. i))

  first_pair_reaches : (m : Mark) (op : BinaryOp) (from : List TextToken) → opening_of_mark m ≡ Some (opening.Pair op) → Passes (any room from) n → Passes (unary_at (suc room) (IsMark m ∷ IsMark mark.OpenParen ∷ from)) n
  first_pair_reaches m op from o p = passes_same _ _ n (opens m op (IsMark mark.OpenParen ∷ from) o) (pair_first m op from o p)

  -- the argument of a call and the comma after it are read
  argument : (from : List TextToken) (a : Term) (next : List TextToken) → length from ≤ room → Spells 10 from a (IsMark mark.Comma ∷ next) → term_before (chain_at (unary_at room) 10) mark.Comma from ≡ Ok (a, next)
  unfolding past following
  argument from a next h d = before_reads room mark.Comma from a next refl refl refl (reads d room h)

  pair_second : (op : BinaryOp) (from : List TextToken) (a : Term) (next : List TextToken) → term_before (chain_at (unary_at room) 10) mark.Comma from ≡ Ok (a, next) → Passes (any room next) n → Passes (pair_by (chain_at (unary_at room) 10) op (IsMark mark.OpenParen ∷ from)) n
  unfolding pair_by past following
  pair_second op from a next e p =
      passes_same _ _ n (ap (λ r. r >>= (λ a. term_before (chain_at (unary_at room) 10) mark.CloseParen a.1 >>= (λ b. Ok (Operation op a.0 b.0, b.1)))) e)
      (passes_bind (term_before (chain_at (unary_at room) 10) mark.CloseParen next) (λ b. Ok (Operation op a b.0, b.1)) n (term_passes (chain_at (unary_at room) 10) mark.CloseParen next n p) (λ b i. i))

  second_pair_reaches : (m : Mark) (op : BinaryOp) (from : List TextToken) (a : Term) (next : List TextToken) → opening_of_mark m ≡ Some (opening.Pair op) → length from ≤ room → Spells 10 from a (IsMark mark.Comma ∷ next) → Passes (any room next) n → Passes (unary_at (suc room) (IsMark m ∷ IsMark mark.OpenParen ∷ from)) n
  second_pair_reaches m op from a next o h d p = passes_same _ _ n (opens m op (IsMark mark.OpenParen ∷ from) o) (pair_second op from a next (argument from a next h d) p)

  at_absolute_reaches : (words : List TextToken) → length words ≤ n → Passes (unary_at (suc room) (IsMark mark.Abs ∷ words)) n
  unfolding unary_at
  at_absolute_reaches words h = absolute_goes (chain_at (unary_at room) 10) (unary_at room) (reads_go room 10) (unary_goes room) words n h

  absolute_reaches : (from : List TextToken) → Passes (any room from) n → Passes (unary_at (suc room) (IsMark mark.Abs ∷ IsMark mark.OpenParen ∷ from)) n
  unfolding unary_at absolute_by past following
  absolute_reaches from p = passes_bind (term_before (chain_at (unary_at room) 10) mark.CloseParen from) (λ a. Ok (Unary unary.Abs a.0, a.1)) n (term_passes (chain_at (unary_at room) 10) mark.CloseParen from n p) (λ a k. k)

  at_choice_reaches : (words : List TextToken) → length words ≤ n → Passes (unary_at (suc room) (IsMark mark.Select ∷ words)) n
  unfolding unary_at
  at_choice_reaches words h = choice_goes (chain_at (unary_at room) 10) (unary_at room) (reads_go room 10) (unary_goes room) words n h

  -- after the second comma of a choice, and before it
  last_of_choice : (c a : Term) (last : List TextToken) → Passes (any room last) n → Passes (term_before (chain_at (unary_at room) 10) mark.CloseParen last >>= (λ b. Ok (Choice c a b.0, b.1))) n
  last_of_choice c a last p = passes_bind (term_before (chain_at (unary_at room) 10) mark.CloseParen last) (λ b. Ok (Choice c a b.0, b.1)) n (term_passes (chain_at (unary_at room) 10) mark.CloseParen last n p) (λ b i. i)

  next_of_choice : (c : Term) (next : List TextToken) → Passes (any room next) n → Passes (term_before (chain_at (unary_at room) 10) mark.Comma next >>= (λ a. term_before (chain_at (unary_at room) 10) mark.CloseParen a.1 >>= (λ b. Ok (Choice c a.0 b.0, b.1)))) n
  next_of_choice c next p =
      passes_bind (term_before (chain_at (unary_at room) 10) mark.Comma next) (λ a. term_before (chain_at (unary_at room) 10) mark.CloseParen a.1 >>= (λ b. Ok (Choice c a.0 b.0, b.1))) n (term_passes (chain_at (unary_at room) 10) mark.Comma next n p)
      (λ a k. last_of_choice c a.0 a.1 (reads_go room 10 a.1 n k))

  first_choice_reaches : (from : List TextToken) → Passes (any room from) n → Passes (unary_at (suc room) (IsMark mark.Select ∷ IsMark mark.OpenParen ∷ from)) n
  unfolding unary_at choice_by past following
  first_choice_reaches from p =
      passes_bind (term_before (chain_at (unary_at room) 10) mark.Comma from) (λ c. term_before (chain_at (unary_at room) 10) mark.Comma c.1 >>= (λ a. term_before (chain_at (unary_at room) 10) mark.CloseParen a.1 >>= (λ b. Ok (Choice c.0 a.0 b.0, b.1)))) n (term_passes (chain_at (unary_at room) 10) mark.Comma from n p)
      (λ c k. next_of_choice c.0 c.1 (reads_go room 10 c.1 n k))

  second_choice_reaches : (from : List TextToken) (c : Term) (next : List TextToken) → length from ≤ room → Spells 10 from c (IsMark mark.Comma ∷ next) → Passes (any room next) n → Passes (unary_at (suc room) (IsMark mark.Select ∷ IsMark mark.OpenParen ∷ from)) n
  unfolding unary_at choice_by past following
  second_choice_reaches from c next h d p =
      passes_same _ _ n (ap (λ r. r >>= (λ c. term_before (chain_at (unary_at room) 10) mark.Comma c.1 >>= (λ a. term_before (chain_at (unary_at room) 10) mark.CloseParen a.1 >>= (λ b. Ok (Choice c.0 a.0 b.0, b.1))))) (argument from c next h d))
      (next_of_choice c next p)

  third_choice_reaches : (from : List TextToken) (c : Term) (next : List TextToken) (a : Term) (last : List TextToken) → length from ≤ room → length next ≤ room → Spells 10 from c (IsMark mark.Comma ∷ next) → Spells 10 next a (IsMark mark.Comma ∷ last) → Passes (any room last) n → Passes (unary_at (suc room) (IsMark mark.Select ∷ IsMark mark.OpenParen ∷ from)) n
  unfolding unary_at choice_by past following
  third_choice_reaches from c next a last h i d f p =
      passes_same _ _ n (ap (λ r. r >>= (λ c. term_before (chain_at (unary_at room) 10) mark.Comma c.1 >>= (λ a. term_before (chain_at (unary_at room) 10) mark.CloseParen a.1 >>= (λ b. Ok (Choice c.0 a.0 b.0, b.1))))) (argument from c next h d) ∙ ap (λ r. r >>= (λ a. term_before (chain_at (unary_at room) 10) mark.CloseParen a.1 >>= (λ b. Ok (Choice c a.0 b.0, b.1)))) (argument next a last i f))
      (last_of_choice c a last p)

  number_reaches : (r k : ℕ) (rest : List TextToken) → 0 < r → Passes (unary_at r (IsNumber k ∷ rest)) n → length rest ≤ n
  unfolding unary_at
  number_reaches zero k rest h p = absurd (omega (arith, h))
  number_reaches (suc r) k rest h p = p

  number_follows : (s : Sign) (words : List TextToken) (x : ℕ × List TextToken) → number_following s words ≡ Some x → words ≡ IsNumber x.0 ∷ x.1
  number_follows sign.Minus words x e = number-is words x e
  number_follows sign.Flip words x e = absurd cc
  number_follows sign.Not words x e = absurd cc

  by_number : (s : Sign) (words : List TextToken) → length words ≤ room → Passes (unary_at room words) n → (o : Option (ℕ × List TextToken)) → number_following s words ≡ o → Passes (given {B = Outcome} o (λ x. Ok (Literal (neg_ℤ (pos x.0)), x.1)) (unary_at room words >>= (λ e. Ok (signed s e.0, e.1)))) n
  by_number s words h p None e = passes_bind (unary_at room words) (λ e. Ok (signed s e.0, e.1)) n p (λ e k. k)
  by_number s words h p (Some x) e =
      let w = number_follows s words x e in
      number_reaches room x.0 x.1 (omega (arith, ap length w, h)) (subst (λ (z : List TextToken). Passes (unary_at room z) n) w p)

  sign_by : (s : Sign) (words : List TextToken) → length words ≤ room → Passes (unary_at room words) n → Passes (signed_by (unary_at room) s words) n
  unfolding signed_by
  sign_by s words h p = by_number s words h p (number_following s words) refl

  signs : (m : Mark) (s : Sign) (words : List TextToken) → opening_of_mark m ≡ Some (opening.Signed s) → unary_at (suc room) (IsMark m ∷ words) ≡ signed_by (unary_at room) s words
  unfolding unary_at
  signs m s words o = rw o refl

  sign_reaches : (m : Mark) (s : Sign) (words : List TextToken) → opening_of_mark m ≡ Some (opening.Signed s) → length words ≤ room → Passes (unary_at room words) n → Passes (unary_at (suc room) (IsMark m ∷ words)) n
  sign_reaches m s words o h p = passes_same _ _ n (signs m s words o) (sign_by s words h p)

-- ---- whole expressions and fronts

reaches_unary : (room : ℕ) (words : List TextToken) (n : ℕ) → Passes (unary_at room words) n → Passes (chain_at (unary_at room) 0 words) n
unfolding chain_at
reaches_unary room words n p = p

unary_reaches : (room : ℕ) (words : List TextToken) (n : ℕ) → Passes (chain_at (unary_at room) 0 words) n → Passes (unary_at room words) n
unfolding chain_at
unary_reaches room words n p = p

-- what stands here gives a whole expression with rest after it, whatever rest is
whole_reads : (words : List TextToken) (e : Term) (rest : List TextToken) (room : ℕ) → unary_at (suc room) words ≡ Ok (e, rest) → Passes (chain_at (unary_at (suc room)) 0 words) (length rest)
whole_reads words e rest room q = reaches_unary (suc room) words (length rest) (passes_is (unary_at (suc room) words) (e, rest) (length rest) q (omega arith))

name_reaches : (room : ℕ) (x : List ℕ) (rest : List TextToken) → Passes (unary_at (suc room) (IsName x ∷ rest)) (length rest)
unfolding unary_at
name_reaches room x rest = name_goes (chain_at (unary_at room) 10) (unary_at room) (reads_go room 10) (unary_goes room) x rest (length rest) (omega arith)

reach : {level : ℕ} {words : List TextToken} {e : Term} {rest : List TextToken} → Spells level words e rest → (room : ℕ) → length words ≤ room → Passes (chain_at (unary_at room) level words) (length rest)
unfolding unary_at name_by pair_by absolute_by choice_by signed_by following past
reach (number {n = n} {rest = rest}) (suc room) h = whole_reads (IsNumber n ∷ rest) (Literal (pos n)) rest room refl
reach (name {x = x} {rest = rest}) (suc room) h = reaches_unary (suc room) (IsName x ∷ rest) (length rest) (name_reaches room x rest)
reach (element {x = x} {i = i} {from = from} {rest = rest} d) (suc room) h = whole_reads (IsName x ∷ IsMark mark.OpenBracket ∷ from) (Element x i) rest room (rw (before_reads room mark.CloseBracket from i rest refl refl refl (reads d room (omega arith))) refl)
reach (group {e = e} {from = from} {rest = rest} d) (suc room) h = whole_reads (IsMark mark.OpenParen ∷ from) (e) rest room (before_reads room mark.CloseParen from e rest refl refl refl (reads d room (omega arith)))
reach (pair {op = op} {m = m} {a = a} {b = b} {from = from} {next = next} {rest = rest} o d1 d2) (suc room) h = whole_reads (IsMark m ∷ IsMark mark.OpenParen ∷ from) (Operation op a b) rest room (rw (o, before_reads room mark.Comma from a next refl refl refl (reads d1 room (omega arith)), before_reads room mark.CloseParen next b rest refl refl refl (reads d2 room (omega (arith, shorter d1)))) refl)
reach (absolute {e = e} {from = from} {rest = rest} d) (suc room) h = whole_reads (IsMark mark.Abs ∷ IsMark mark.OpenParen ∷ from) (Unary unary.Abs e) rest room (rw (before_reads room mark.CloseParen from e rest refl refl refl (reads d room (omega arith))) refl)
reach (choice {c = c} {a = a} {b = b} {from = from} {next = next} {last = last} {rest = rest} d1 d2 d3) (suc room) h = whole_reads (IsMark mark.Select ∷ IsMark mark.OpenParen ∷ from) (Choice c a b) rest room (rw (before_reads room mark.Comma from c next refl refl refl (reads d1 room (omega arith)), before_reads room mark.Comma next a last refl refl refl (reads d2 room (omega (arith, shorter d1))), before_reads room mark.CloseParen last b rest refl refl refl (reads d3 room (omega (arith, shorter d1, shorter d2)))) refl)
reach (negative {n = n} {rest = rest}) (suc room) h = whole_reads (IsMark mark.Minus ∷ IsNumber n ∷ rest) (Literal (neg_ℤ (pos n))) rest room refl
reach (prefix {s = s} {m = m} {from = from} {rest = rest} o n d) (suc room) h = reaches_unary (suc room) (IsMark m ∷ from) (length rest) (sign_reaches room (length rest) m s from o (omega arith) (unary_reaches room from (length rest) (reach d room (omega arith))))
reach (up {level = level} {from = from} {rest = rest} d) room h = above_reaches room level from (length rest) (reach d room h)
reach (conversion {level = level} {e = e} {t = t} {w = w} {from = from} {rest = rest} d o l) room h = typed_reaches room level from (length rest) e w (IsType t ∷ rest) d o l h (passes_is (type_at (IsType t ∷ rest)) (t, rest) (length rest) (type_there t rest) (omega arith))
reach (shift {level = level} {left = left} {e = e} {n = n} {w = w} {from = from} {rest = rest} d o l) room h = counted_reaches room level from (length rest) e w (IsNumber n ∷ rest) left d o l h (passes_is (count_at (IsNumber n ∷ rest)) (n, rest) (length rest) (count_there n rest) (omega arith))
reach (operation {level = level} {j = j} {w = w} {a = a} {from = from} {next = next} {rest = rest} d1 o l d2) room h = joined_reaches room level from (length rest) a w next j d1 o l h (reach d2 room (omega (arith, shorter d1)))
reach (comparison {level = level} {op = op} {w = w} {a = a} {from = from} {next = next} {rest = rest} d1 o l d2) room h = compared_reaches room level from (length rest) a w next op d1 o l h (reach d2 room (omega (arith, shorter d1)))
reach other zero h = absurd (omega arith)

pub fronts_reach : {level : ℕ} {words bad : List TextToken} → Fronts level words bad → (room : ℕ) → length words ≤ room → Passes (chain_at (unary_at room) level words) (length bad)
fronts_reach (nothing {level = level} {bad = bad}) room h = reads_go room level bad (length bad) (omega arith)
fronts_reach (above {level = level} {from = from} {bad = bad} f) room h = above_reaches room level from (length bad) (fronts_reach f room h)
fronts_reach (in_element {x = x} {from = from} {bad = bad} f) (suc room) h = reaches_unary (suc room) _ (length bad) (element_reaches room (length bad) x from (fronts_reach f room (omega arith)))
fronts_reach (end_element {x = x} {from = from} {bad = bad} d) (suc room) h = reaches_unary (suc room) _ (length bad) (element_reaches room (length bad) x from (reach d room (omega arith)))
fronts_reach (in_group {from = from} {bad = bad} f) (suc room) h = reaches_unary (suc room) _ (length bad) (group_reaches room (length bad) from (fronts_reach f room (omega arith)))
fronts_reach (end_group {from = from} {bad = bad} d) (suc room) h = reaches_unary (suc room) _ (length bad) (group_reaches room (length bad) from (reach d room (omega arith)))
fronts_reach (at_pair {op = op} {m = m} {bad = bad} o) (suc room) h = reaches_unary (suc room) _ (length bad) (at_pair_reaches room (length bad) m op bad o (omega arith))
fronts_reach (first_pair {op = op} {m = m} {from = from} {bad = bad} o f) (suc room) h = reaches_unary (suc room) _ (length bad) (first_pair_reaches room (length bad) m op from o (fronts_reach f room (omega arith)))
fronts_reach (comma_pair {op = op} {m = m} {from = from} {bad = bad} o d) (suc room) h = reaches_unary (suc room) _ (length bad) (first_pair_reaches room (length bad) m op from o (reach d room (omega arith)))
fronts_reach (second_pair {op = op} {m = m} {a = a} {from = from} {next = next} {bad = bad} o d f) (suc room) h = reaches_unary (suc room) _ (length bad) (second_pair_reaches room (length bad) m op from a next o (omega arith) d (fronts_reach f room (omega (arith, shorter d))))
fronts_reach (end_pair {op = op} {m = m} {a = a} {from = from} {next = next} {bad = bad} o d f) (suc room) h = reaches_unary (suc room) _ (length bad) (second_pair_reaches room (length bad) m op from a next o (omega arith) d (reach f room (omega (arith, shorter d))))
fronts_reach (at_absolute {bad = bad}) (suc room) h = reaches_unary (suc room) _ (length bad) (at_absolute_reaches room (length bad) bad (omega arith))
fronts_reach (in_absolute {from = from} {bad = bad} f) (suc room) h = reaches_unary (suc room) _ (length bad) (absolute_reaches room (length bad) from (fronts_reach f room (omega arith)))
fronts_reach (end_absolute {from = from} {bad = bad} d) (suc room) h = reaches_unary (suc room) _ (length bad) (absolute_reaches room (length bad) from (reach d room (omega arith)))
fronts_reach (at_choice {bad = bad}) (suc room) h = reaches_unary (suc room) _ (length bad) (at_choice_reaches room (length bad) bad (omega arith))
fronts_reach (first_choice {from = from} {bad = bad} f) (suc room) h = reaches_unary (suc room) _ (length bad) (first_choice_reaches room (length bad) from (fronts_reach f room (omega arith)))
fronts_reach (comma_choice {from = from} {bad = bad} d) (suc room) h = reaches_unary (suc room) _ (length bad) (first_choice_reaches room (length bad) from (reach d room (omega arith)))
fronts_reach (second_choice {c = c} {from = from} {next = next} {bad = bad} d f) (suc room) h = reaches_unary (suc room) _ (length bad) (second_choice_reaches room (length bad) from c next (omega arith) d (fronts_reach f room (omega (arith, shorter d))))
fronts_reach (next_choice {c = c} {from = from} {next = next} {bad = bad} d f) (suc room) h = reaches_unary (suc room) _ (length bad) (second_choice_reaches room (length bad) from c next (omega arith) d (reach f room (omega (arith, shorter d))))
fronts_reach (third_choice {c = c} {a = a} {from = from} {next = next} {last = last} {bad = bad} d g f) (suc room) h = reaches_unary (suc room) _ (length bad) (third_choice_reaches room (length bad) from c next a last (omega arith) (omega (arith, shorter d)) d g (fronts_reach f room (omega (arith, shorter d, shorter g))))
fronts_reach (end_choice {c = c} {a = a} {from = from} {next = next} {last = last} {bad = bad} d g f) (suc room) h = reaches_unary (suc room) _ (length bad) (third_choice_reaches room (length bad) from c next a last (omega arith) (omega (arith, shorter d)) d g (reach f room (omega (arith, shorter d, shorter g))))
fronts_reach (in_sign {s = s} {m = m} {from = from} {bad = bad} o f) (suc room) h = reaches_unary (suc room) _ (length bad) (sign_reaches room (length bad) m s from o (omega arith) (unary_reaches room from (length bad) (fronts_reach f room (omega arith))))
fronts_reach (at_operator d) room h = reach d room h
fronts_reach (at_type {level = level} {e = e} {w = w} {from = from} {bad = bad} d o l) room h = typed_reaches room level from (length bad) e w bad d o l h (type_passes bad (length bad) (omega arith))
fronts_reach (at_count {level = level} {left = left} {e = e} {w = w} {from = from} {bad = bad} d o l) room h = counted_reaches room level from (length bad) e w bad left d o l h (count_passes bad (length bad) (omega arith))
fronts_reach (in_operation {level = level} {j = j} {w = w} {a = a} {from = from} {next = next} {bad = bad} d o l f) room h = joined_reaches room level from (length bad) a w next j d o l h (fronts_reach f room (omega (arith, shorter d)))
fronts_reach (in_comparison {level = level} {op = op} {w = w} {a = a} {from = from} {next = next} {bad = bad} d o l f) room h = compared_reaches room level from (length bad) a w next op d o l h (fronts_reach f room (omega (arith, shorter d)))
fronts_reach other zero h = absurd (omega arith)

-- an expression and the mark after it, with room for as many as there are tokens
pub spelled_reaches : {words : List TextToken} {e : Term} {rest : List TextToken} → Spells 10 words e rest → (m : Mark) → Passes (term_before (chain_at (unary_at (length words)) 10) m words) (length rest)
spelled_reaches {words = words} {rest = rest} d m = term_passes (chain_at (unary_at (length words)) 10) m words (length rest) (reach d (length words) (omega arith))

pub front_reaches : {words bad : List TextToken} → Fronts 10 words bad → (m : Mark) → Passes (term_before (chain_at (unary_at (length words)) 10) m words) (length bad)
front_reaches {words = words} {bad = bad} f m = term_passes (chain_at (unary_at (length words)) 10) m words (length bad) (fronts_reach f (length words) (omega arith))

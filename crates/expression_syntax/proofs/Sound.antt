-- What is read is spelled so.
use Rattle.std.proofs.Common.{◌≡◌, ℕ, zero, suc, ◌<◌, Bool, true, false, cond, List, [], ◌∷◌, length, Option, Some, None, Result, Ok, Err, refl, sym, ap, subst, ◌∙◌, arith, eqb}
use Rattle.std.proofs.lemmas.Bool.{eqb-true}
use Rattle.std.specs.Prelude.{pos, neg_ℤ}
use Rattle.std.proofs.lemmas.Option.{none-some, same_Some}
use Rattle.kernel_tree.specs.declared.ops.Ty.{Ty}
use Rattle.kernel_tree.specs.declared.ops.UnaryOp.TheVariants as unary
use Rattle.kernel_tree.specs.declared.ops.BinaryOp.{BinaryOp}
use Rattle.kernel_tree.specs.declared.ops.BinaryOp.TheVariants as binary
use Rattle.kernel_tree.specs.declared.ops.UpdateOp.{UpdateOp}
use Rattle.kernel_tree.specs.declared.mark.Mark.{Mark}
use Rattle.kernel_tree.specs.declared.mark.Mark.TheVariants as mark
use Rattle.kernel_tree.specs.declared.mark.Joint.{Joint}
use Rattle.kernel_tree.specs.declared.mark.Joint.TheVariants as joint
use Rattle.kernel_tree.specs.declared.mark.Operator.{Operator}
use Rattle.kernel_tree.specs.declared.mark.Operator.TheVariants.{Joined, Compared, Shifted, As}
use Rattle.kernel_tree.specs.declared.mark.Sign.{Sign}
use Rattle.kernel_tree.specs.declared.mark.Sign.TheVariants as sign
use Rattle.kernel_tree.specs.declared.mark.Opening.TheVariants as opening
use Rattle.kernel_tree.specs.TextToken.{TextToken, IsName, IsNumber, IsType, IsCompare, IsUpdate, IsMark}
use Rattle.kernel_tree.specs.Plain.{Term, Literal, Variable, Element, Unary, Operation, Shift, Conversion, Choice, Comparison, same}
use Rattle.kernel_tree.specs.Grammar.{Spells, number, name, element, group, pair, absolute, choice, negative, prefix, up, conversion, shift, operation, comparison, operator_of, level_of, level_of_dual, joined, opening_of_mark, signed, number_at, number_following}
use Rattle.kernel_tree.proofs.Marks.{same-true}
use Rattle.expression_syntax.specs.Reading.{◌>>=◌, given, needed, Outcome, mark_at, name_front, type_front, update_front, following, past, name_at, type_at, count_at, operator_at, by_operator, more, chain_at, term_before, name_by, pair_by, absolute_by, choice_by, signed_by, opened_by, unary_by, unary_at}

pub bind_ok : {A B : Type 0} (r : Result A ℕ) (f : A → Result B ℕ) (y : B) → (r >>= f) ≡ Ok y → (x : A) × (r ≡ Ok x) × (f x ≡ Ok y)
bind_ok (Ok x) f y e = (x, refl, e)
bind_ok (Err d) f y e = absurd cc

-- what follows from it
pub bind_then : {A B C : Type 0} (r : Result A ℕ) (f : A → Result B ℕ) (y : B) → (r >>= f) ≡ Ok y → ((x : A) → r ≡ Ok x → f x ≡ Ok y → C) → C
bind_then (Ok x) f y e k = k x refl e
bind_then (Err d) f y e k = absurd cc

-- what may be there was there, if the other choice would not give this
pub given_is : {A B : Type 0} (o : Option A) (f : A → B) (b y : B) → (b ≡ y → ⊥) → given o f b ≡ y → (x : A) × (o ≡ Some x) × (f x ≡ y)
given_is None f b y n e = absurd (n e)
given_is (Some x) f b y n e = (x, refl, e)

pub cond_is : {B : Type 0} (t : Bool) (a b y : B) → (b ≡ y → ⊥) → cond t a b ≡ y → (t ≡ true) × (a ≡ y)
cond_is true a b y n e = (refl, e)
cond_is false a b y n e = absurd (n e)

pub ok_is : {A : Type 0} (x y : A) → ◌≡◌ {A = Result A ℕ} (Ok x) (Ok y) → x ≡ y
ok_is x y e = cc

pub not_err : {A : Type 0} (n : ℕ) (x : A) → ◌≡◌ {A = Result A ℕ} (Err n) (Ok x) → ⊥
not_err n x e = cc

needed_is : {A : Type 0} (o : Option A) (n : ℕ) (y : A) → needed o n ≡ Ok y → o ≡ Some y
needed_is None n y e = absurd (not_err n y e)
needed_is (Some x) n y e = ap Some (ok_is x y e)

-- ---- one token

-- a mark that was found stands at the front
pub mark-is : (words : List TextToken) (x : Mark × List TextToken) → mark_at words ≡ Some x → words ≡ IsMark x.0 ∷ x.1
mark-is [] x e = absurd cc
mark-is (IsMark n ∷ words) x e = ap (λ (x : Mark × List TextToken). IsMark x.0 ∷ x.1) (same_Some (n, words) x e)
mark-is other x e = absurd cc

name_front-is : (words : List TextToken) (x : List ℕ × List TextToken) → name_front words ≡ Some x → words ≡ IsName x.0 ∷ x.1
name_front-is [] x e = absurd cc
name_front-is (IsName y ∷ words) x e = ap (λ (x : List ℕ × List TextToken). IsName x.0 ∷ x.1) (same_Some (y, words) x e)
name_front-is other x e = absurd cc

type_front-is : (words : List TextToken) (x : Ty × List TextToken) → type_front words ≡ Some x → words ≡ IsType x.0 ∷ x.1
type_front-is [] x e = absurd cc
type_front-is (IsType t ∷ words) x e = ap (λ (x : Ty × List TextToken). IsType x.0 ∷ x.1) (same_Some (t, words) x e)
type_front-is other x e = absurd cc

pub update-is : (words : List TextToken) (x : UpdateOp × List TextToken) → update_front words ≡ Some x → words ≡ IsUpdate x.0 ∷ x.1
update-is [] x e = absurd cc
update-is (IsUpdate op ∷ words) x e = ap (λ (x : UpdateOp × List TextToken). IsUpdate x.0 ∷ x.1) (same_Some (op, words) x e)
update-is other x e = absurd cc

pub number-is : (words : List TextToken) (x : ℕ × List TextToken) → number_at words ≡ Some x → words ≡ IsNumber x.0 ∷ x.1
number-is [] x e = absurd cc
number-is (IsNumber n ∷ words) x e = ap (λ (x : ℕ × List TextToken). IsNumber x.0 ∷ x.1) (same_Some (n, words) x e)
number-is other x e = absurd cc

pub following-is : (m : Mark) (words rest : List TextToken) → following m words ≡ Some rest → words ≡ IsMark m ∷ rest
unfolding following
following-is m words rest e =
    let g = given_is (mark_at words) (λ x. cond (same x.0 m) (Some x.1) None) None (Some rest) (none-some rest) e in
    let h = cond_is (same g.0.0 m) (Some g.0.1) None (Some rest) (none-some rest) g.2 in
    let w : words ≡ IsMark g.0.0 ∷ g.0.1 = mark-is words g.0 g.1 in
    let m-is : g.0.0 ≡ m = same-true g.0.0 m h.0 in
    let r-is : g.0.1 ≡ rest = same_Some g.0.1 rest h.1 in
    cc

pub after-is : (m : Mark) (words rest : List TextToken) → past m words ≡ Ok rest → words ≡ IsMark m ∷ rest
unfolding past
after-is m words rest e = following-is m words rest (needed_is (following m words) (length words) rest e)

pub name-is : (words : List TextToken) (x : List ℕ × List TextToken) → name_at words ≡ Ok x → words ≡ IsName x.0 ∷ x.1
unfolding name_at
name-is words x e = name_front-is words x (needed_is (name_front words) (length words) x e)

pub type-is : (words : List TextToken) (x : Ty × List TextToken) → type_at words ≡ Ok x → words ≡ IsType x.0 ∷ x.1
unfolding type_at
type-is words x e = type_front-is words x (needed_is (type_front words) (length words) x e)

pub count-is : (words : List TextToken) (x : ℕ × List TextToken) → count_at words ≡ Ok x → words ≡ IsNumber x.0 ∷ x.1
unfolding count_at
count-is words x e = number-is words x (needed_is (number_at words) (length words) x e)

pub operator-is : (level : ℕ) (words : List TextToken) (o : Operator) (rest : List TextToken) → operator_at level words ≡ Some (o, rest) → (w : TextToken) × (words ≡ w ∷ rest) × (operator_of w ≡ Some o) × (level_of o ≡ level)
unfolding operator_at
operator-is level [] o rest e = absurd cc
operator-is level (w ∷ tail) o rest e =
    let y : Operator × List TextToken = (o, rest) in
    let h = given_is (operator_of w) (λ o. cond (eqb (level_of o) level) (Some (o, tail)) None) None (Some y) (none-some y) e in
    let k = cond_is (eqb (level_of h.0) level) (Some (h.0, tail)) None (Some y) (none-some y) h.2 in
    let p = same_Some (h.0, tail) (o, rest) k.1 in
    let o-is : h.0 ≡ o = ap (λ (x : Operator × List TextToken). x.0) p in
    (w, ap (λ (x : Operator × List TextToken). w ∷ x.1) p, h.1 ∙ ap Some o-is, ap level_of (sym o-is) ∙ eqb-true (level_of h.0) level k.0)

-- ---- expressions

-- a reader whose answers are spelled so
abbrev pub Sound : ℕ → (List TextToken → Outcome) → Type 0
Sound level read = (words : List TextToken) (e : Term) (rest : List TextToken) → read words ≡ Ok (e, rest) → Spells level words e rest

pub first_spells : (level : ℕ) (words : List TextToken) (x y : Term × List TextToken) → x ≡ y → Spells level words x.0 x.1 → Spells level words y.0 y.1
first_spells level words x y e h = subst (λ (z : Term × List TextToken). Spells level words z.0 z.1) e h

from_spells : (level : ℕ) (from to : List TextToken) (e : Term) (rest : List TextToken) → to ≡ from → Spells level from e rest → Spells level to e rest
from_spells level from to e rest p h = subst (λ (z : List TextToken). Spells level z e rest) (sym p) h

pub until_spells : (level : ℕ) (words : List TextToken) (e : Term) (from to : List TextToken) → from ≡ to → Spells level words e from → Spells level words e to
until_spells level words e from to p h = subst (λ (z : List TextToken). Spells level words e z) p h

dual_is_no_8 : (op : BinaryOp) (level : ℕ) → level_of_dual op ≡ suc level → suc level ≡ 8 → ⊥
dual_is_no_8 binary.Mul level p q = omega arith
dual_is_no_8 _ level p q = omega arith

pub joined_is_no_8 : (j : Joint) (level : ℕ) → level_of (Joined j) ≡ suc level → suc level ≡ 8 → ⊥
joined_is_no_8 (joint.Dual op) level p q = dual_is_no_8 op level p q
joined_is_no_8 joint.Both level p q = omega arith
joined_is_no_8 joint.Either level p q = omega arith

pub other_is_no_8 : (n level : ℕ) → n < 8 → n ≡ suc level → suc level ≡ 8 → ⊥
other_is_no_8 n level h p q = omega arith

-- what a loop has read of a chain: at the level of comparisons no more than one operand
pub record Left (level : ℕ) (words : List TextToken) (left : Term) (mid : List TextToken) : Type 0 where
  pub whole : Spells (suc level) words left mid
  pub lone : suc level ≡ 8 → Spells level words left mid

module _ (operand : List TextToken → Outcome) (level : ℕ) (sound : Sound level operand) (words : List TextToken) (e : Term) (rest : List TextToken) where
  by_spells : (k : ℕ) → ((left : Term) (mid : List TextToken) → Left level words left mid → more operand (suc level) k left mid ≡ Ok (e, rest) → Spells (suc level) words e rest) → (left : Term) (mid : List TextToken) → Left level words left mid → (o : Operator) (next : List TextToken) → operator_at (suc level) mid ≡ Some (o, next) → by_operator operand (more operand (suc level) k) left o next ≡ Ok (e, rest) → Spells (suc level) words e rest
  by_spells k again left mid h (Joined j) next p q =
      let m = operator-is (suc level) mid (Joined j) next p in
      let b = bind_ok (operand next) (λ r. more operand (suc level) k (joined j left r.0) r.1) (e, rest) q in
      again (joined j left b.0.0) b.0.1 (record {
        whole = operation (until_spells (suc level) words left mid (m.0 ∷ next) m.1 h.whole) m.2 m.3 (sound next b.0.0 b.0.1 b.1);
        lone = λ f. absurd (joined_is_no_8 j level m.3 f);
      }) b.2
  by_spells k again left mid h (Compared op) next p q =
      let m = operator-is (suc level) mid (Compared op) next p in
      let b = bind_ok (operand next) (λ r. Ok (Comparison op left r.0, r.1)) (e, rest) q in
      let left_is = until_spells level words left mid (m.0 ∷ next) m.1 (h.lone (sym m.3)) in
      first_spells (suc level) words (Comparison op left b.0.0, b.0.1) (e, rest) (ok_is (Comparison op left b.0.0, b.0.1) (e, rest) b.2) (comparison left_is m.2 m.3 (sound next b.0.0 b.0.1 b.1))
  by_spells k again left mid h (Shifted to_left) next p q =
      let m = operator-is (suc level) mid (Shifted to_left) next p in
      let b = bind_ok (count_at next) (λ n. more operand (suc level) k (Shift to_left left (pos n.0)) n.1) (e, rest) q in
      let there : mid ≡ m.0 ∷ IsNumber b.0.0 ∷ b.0.1 = m.1 ∙ ap (λ (n : List TextToken). m.0 ∷ n) (count-is next b.0 b.1) in
      again (Shift to_left left (pos b.0.0)) b.0.1 (record {
        whole = shift (until_spells (suc level) words left mid (m.0 ∷ IsNumber b.0.0 ∷ b.0.1) there h.whole) m.2 m.3;
        lone = λ f. absurd (other_is_no_8 4 level (omega arith) m.3 f);
      }) b.2
  by_spells k again left mid h As next p q =
      let m = operator-is (suc level) mid As next p in
      let b = bind_ok (type_at next) (λ t. more operand (suc level) k (Conversion left t.0) t.1) (e, rest) q in
      let there : mid ≡ m.0 ∷ IsType b.0.0 ∷ b.0.1 = m.1 ∙ ap (λ (n : List TextToken). m.0 ∷ n) (type-is next b.0 b.1) in
      again (Conversion left b.0.0) b.0.1 (record {
        whole = conversion (until_spells (suc level) words left mid (m.0 ∷ IsType b.0.0 ∷ b.0.1) there h.whole) m.2 m.3;
        lone = λ f. absurd (other_is_no_8 1 level (omega arith) m.3 f);
      }) b.2

  given_spells : (k : ℕ) → ((left : Term) (mid : List TextToken) → Left level words left mid → more operand (suc level) k left mid ≡ Ok (e, rest) → Spells (suc level) words e rest) → (left : Term) (mid : List TextToken) → Left level words left mid → (o : Option (Operator × List TextToken)) → operator_at (suc level) mid ≡ o → given o (λ o. by_operator operand (more operand (suc level) k) left o.0 o.1) (Ok (left, mid)) ≡ Ok (e, rest) → Spells (suc level) words e rest
  given_spells k again left mid h None p q = first_spells (suc level) words (left, mid) (e, rest) (ok_is (left, mid) (e, rest) q) h.whole
  given_spells k again left mid h (Some o) p q = by_spells k again left mid h o.0 o.1 p q

  more_spells : (k : ℕ) (left : Term) (mid : List TextToken) → Left level words left mid → more operand (suc level) k left mid ≡ Ok (e, rest) → Spells (suc level) words e rest
  unfolding more
  more_spells zero left mid h q = absurd (not_err (length mid) (e, rest) q)
  more_spells (suc k) left mid h q = given_spells k (more_spells k) left mid h (operator_at (suc level) mid) refl q

pub chain_spells : (unary : List TextToken → Outcome) → Sound 0 unary → (level : ℕ) → Sound level (chain_at unary level)
unfolding chain_at
chain_spells unary sound zero words e rest q = sound words e rest q
chain_spells unary sound (suc level) words e rest q =
    let b = bind_ok (chain_at unary level words) (λ x. more (chain_at unary level) (suc level) (suc (length x.1)) x.0 x.1) (e, rest) q in
    let first = chain_spells unary sound level words b.0.0 b.0.1 b.1 in
    more_spells (chain_at unary level) level (chain_spells unary sound level) words e rest (suc (length b.0.1)) b.0.0 b.0.1 (record { whole = up first; lone = λ f. first }) b.2

-- an expression and the mark after it
pub before_spells : (read : List TextToken → Outcome) → Sound 10 read → (m : Mark) (words : List TextToken) (x : Term × List TextToken) → term_before read m words ≡ Ok x → Spells 10 words x.0 (IsMark m ∷ x.1)
unfolding term_before
before_spells read sound m words x q =
    let b = bind_ok (read words) (λ e. past m e.1 >>= (λ rest. Ok (e.0, rest))) x q in
    let a = bind_ok (past m b.0.1) (λ rest. Ok (b.0.0, rest)) x b.2 in
    let p = ok_is (b.0.0, a.0) x a.2 in
    let w : b.0.1 ≡ IsMark m ∷ a.0 = after-is m b.0.1 a.0 a.1 in
    subst (λ (x : Term × List TextToken). Spells 10 words x.0 (IsMark m ∷ x.1)) p (until_spells 10 words b.0.0 b.0.1 (IsMark m ∷ a.0) w (sound words b.0.0 b.0.1 b.1))

module _ (read inner : List TextToken → Outcome) (whole : Sound 10 read) (sound : Sound 0 inner) where
  name_spells : (x : List ℕ) (words : List TextToken) (e : Term) (rest : List TextToken) → (o : Option (List TextToken)) → following mark.OpenBracket words ≡ o → given {B = Outcome} o (λ from. term_before read mark.CloseBracket from >>= (λ i. Ok (Element x i.0, i.1))) (Ok (Variable x, words)) ≡ Ok (e, rest) → Spells 0 (IsName x ∷ words) e rest
  name_spells x words e rest None p q = first_spells 0 (IsName x ∷ words) (Variable x, words) (e, rest) (ok_is (Variable x, words) (e, rest) q) name
  name_spells x words e rest (Some from) p q =
      let b = bind_ok (term_before read mark.CloseBracket from) (λ i. Ok (Element x i.0, i.1)) (e, rest) q in
      let w : IsName x ∷ words ≡ IsName x ∷ IsMark mark.OpenBracket ∷ from = ap (λ (z : List TextToken). IsName x ∷ z) (following-is mark.OpenBracket words from p) in
      from_spells 0 (IsName x ∷ IsMark mark.OpenBracket ∷ from) (IsName x ∷ words) e rest w (first_spells 0 _ (Element x b.0.0, b.0.1) (e, rest) (ok_is (Element x b.0.0, b.0.1) (e, rest) b.2) (element (before_spells read whole mark.CloseBracket from b.0 b.1)))

  past_open_paren : (m : Mark) (words from : List TextToken) → past mark.OpenParen words ≡ Ok from → IsMark m ∷ words ≡ IsMark m ∷ IsMark mark.OpenParen ∷ from
  past_open_paren m words from p = ap (λ (z : List TextToken). IsMark m ∷ z) (after-is mark.OpenParen words from p)

  pair_spells : (m : Mark) (op : BinaryOp) → opening_of_mark m ≡ Some (opening.Pair op) → (words : List TextToken) (e : Term) (rest : List TextToken) → pair_by read op words ≡ Ok (e, rest) → Spells 0 (IsMark m ∷ words) e rest
  unfolding pair_by
  pair_spells m op o words e rest q =
      let f = bind_ok (past mark.OpenParen words) (λ from. term_before read mark.Comma from >>= (λ a. term_before read mark.CloseParen a.1 >>= (λ b. Ok (Operation op a.0 b.0, b.1)))) (e, rest) q in
      let a = bind_ok (term_before read mark.Comma f.0) (λ a. term_before read mark.CloseParen a.1 >>= (λ b. Ok (Operation op a.0 b.0, b.1))) (e, rest) f.2 in
      let b = bind_ok (term_before read mark.CloseParen a.0.1) (λ b. Ok (Operation op a.0.0 b.0, b.1)) (e, rest) a.2 in
      from_spells 0 _ (IsMark m ∷ words) e rest (past_open_paren m words f.0 f.1) (first_spells 0 _ (Operation op a.0.0 b.0.0, b.0.1) (e, rest) (ok_is (Operation op a.0.0 b.0.0, b.0.1) (e, rest) b.2) (pair o (before_spells read whole mark.Comma f.0 a.0 a.1) (before_spells read whole mark.CloseParen a.0.1 b.0 b.1)))

  absolute_spells : (words : List TextToken) (e : Term) (rest : List TextToken) → absolute_by read words ≡ Ok (e, rest) → Spells 0 (IsMark mark.Abs ∷ words) e rest
  unfolding absolute_by
  absolute_spells words e rest q =
      let f = bind_ok (past mark.OpenParen words) (λ from. term_before read mark.CloseParen from >>= (λ a. Ok (Unary unary.Abs a.0, a.1))) (e, rest) q in
      let a = bind_ok (term_before read mark.CloseParen f.0) (λ a. Ok (Unary unary.Abs a.0, a.1)) (e, rest) f.2 in
      from_spells 0 _ (IsMark mark.Abs ∷ words) e rest (past_open_paren mark.Abs words f.0 f.1) (first_spells 0 _ (Unary unary.Abs a.0.0, a.0.1) (e, rest) (ok_is (Unary unary.Abs a.0.0, a.0.1) (e, rest) a.2) (absolute (before_spells read whole mark.CloseParen f.0 a.0 a.1)))

  choice_spells : (words : List TextToken) (e : Term) (rest : List TextToken) → choice_by read words ≡ Ok (e, rest) → Spells 0 (IsMark mark.Select ∷ words) e rest
  unfolding choice_by
  choice_spells words e rest q =
      let f = bind_ok (past mark.OpenParen words) (λ from. term_before read mark.Comma from >>= (λ c. term_before read mark.Comma c.1 >>= (λ a. term_before read mark.CloseParen a.1 >>= (λ b. Ok (Choice c.0 a.0 b.0, b.1))))) (e, rest) q in
      let c = bind_ok (term_before read mark.Comma f.0) (λ c. term_before read mark.Comma c.1 >>= (λ a. term_before read mark.CloseParen a.1 >>= (λ b. Ok (Choice c.0 a.0 b.0, b.1)))) (e, rest) f.2 in
      let a = bind_ok (term_before read mark.Comma c.0.1) (λ a. term_before read mark.CloseParen a.1 >>= (λ b. Ok (Choice c.0.0 a.0 b.0, b.1))) (e, rest) c.2 in
      let b = bind_ok (term_before read mark.CloseParen a.0.1) (λ b. Ok (Choice c.0.0 a.0.0 b.0, b.1)) (e, rest) a.2 in
      from_spells 0 _ (IsMark mark.Select ∷ words) e rest (past_open_paren mark.Select words f.0 f.1) (first_spells 0 _ (Choice c.0.0 a.0.0 b.0.0, b.0.1) (e, rest) (ok_is (Choice c.0.0 a.0.0 b.0.0, b.0.1) (e, rest) b.2) (choice (before_spells read whole mark.Comma f.0 c.0 c.1) (before_spells read whole mark.Comma c.0.1 a.0 a.1) (before_spells read whole mark.CloseParen a.0.1 b.0 b.1)))

  sign_spells : (s : Sign) (m : Mark) → opening_of_mark m ≡ Some (opening.Signed s) → (words : List TextToken) (e : Term) (rest : List TextToken) → number_following s words ≡ None → ◌>>=◌ {A = Term × List TextToken} {B = Term × List TextToken} (inner words) (λ e. Ok (signed s e.0, e.1)) ≡ Ok (e, rest) → Spells 0 (IsMark m ∷ words) e rest
  sign_spells s m o words e rest n q =
      let b = bind_ok (inner words) (λ e. Ok (signed s e.0, e.1)) (e, rest) q in
      first_spells 0 (IsMark m ∷ words) (signed s b.0.0, b.0.1) (e, rest) (ok_is (signed s b.0.0, b.0.1) (e, rest) b.2) (prefix o n (sound words b.0.0 b.0.1 b.1))

  minus_spells : (words : List TextToken) (e : Term) (rest : List TextToken) (o : Option (ℕ × List TextToken)) → number_at words ≡ o → given {B = Outcome} o (λ x. Ok (Literal (neg_ℤ (pos x.0)), x.1)) (inner words >>= (λ e. Ok (signed sign.Minus e.0, e.1))) ≡ Ok (e, rest) → Spells 0 (IsMark mark.Minus ∷ words) e rest
  minus_spells words e rest None p q = sign_spells sign.Minus mark.Minus refl words e rest p q
  minus_spells words e rest (Some x) p q =
      let w : IsMark mark.Minus ∷ words ≡ IsMark mark.Minus ∷ IsNumber x.0 ∷ x.1 = ap (λ (z : List TextToken). IsMark mark.Minus ∷ z) (number-is words x p) in
      from_spells 0 _ (IsMark mark.Minus ∷ words) e rest w (first_spells 0 _ (Literal (neg_ℤ (pos x.0)), x.1) (e, rest) (ok_is (Literal (neg_ℤ (pos x.0)), x.1) (e, rest) q) negative)

  opened_spells : (m : Mark) (words : List TextToken) (e : Term) (rest : List TextToken) → opened_by read inner (opening_of_mark m) words ≡ Ok (e, rest) → Spells 0 (IsMark m ∷ words) e rest
  unfolding signed_by
  opened_spells mark.OpenParen words e rest q = group (before_spells read whole mark.CloseParen words (e, rest) q)
  opened_spells mark.Min words e rest q = pair_spells mark.Min binary.Min refl words e rest q
  opened_spells mark.Max words e rest q = pair_spells mark.Max binary.Max refl words e rest q
  opened_spells mark.Abs words e rest q = absolute_spells words e rest q
  opened_spells mark.Select words e rest q = choice_spells words e rest q
  opened_spells mark.Minus words e rest q = minus_spells words e rest (number_at words) refl q
  opened_spells mark.Tilde words e rest q = sign_spells sign.Flip mark.Tilde refl words e rest refl q
  opened_spells mark.Bang words e rest q = sign_spells sign.Not mark.Bang refl words e rest refl q
  opened_spells _ words e rest q = absurd (not_err (suc (length words)) (e, rest) q)

  unary_by_spells : Sound 0 (unary_by read inner)
  unfolding name_by
  unary_by_spells [] e rest q = absurd (not_err 0 (e, rest) q)
  unary_by_spells (IsNumber n ∷ words) e rest q = first_spells 0 (IsNumber n ∷ words) (Literal (pos n), words) (e, rest) (ok_is (Literal (pos n), words) (e, rest) q) number
  unary_by_spells (IsName x ∷ words) e rest q = name_spells x words e rest (following mark.OpenBracket words) refl q
  unary_by_spells (IsMark m ∷ words) e rest q = opened_spells m words e rest q
  unary_by_spells (IsType t ∷ words) e rest q = absurd (not_err (suc (length words)) (e, rest) q)
  unary_by_spells (IsCompare op ∷ words) e rest q = absurd (not_err (suc (length words)) (e, rest) q)
  unary_by_spells (IsUpdate op ∷ words) e rest q = absurd (not_err (suc (length words)) (e, rest) q)

pub unary_spells : (room : ℕ) → Sound 0 (unary_at room)
unfolding unary_at
unary_spells zero words e rest q = absurd (not_err (length words) (e, rest) q)
unary_spells (suc room) words e rest q = unary_by_spells (chain_at (unary_at room) 10) (unary_at room) (chain_spells (unary_at room) (unary_spells room) 10) (unary_spells room) words e rest q

pub reads_spells : (room : ℕ) (level : ℕ) → Sound level (chain_at (unary_at room) level)
reads_spells room level = chain_spells (unary_at room) (unary_spells room) level

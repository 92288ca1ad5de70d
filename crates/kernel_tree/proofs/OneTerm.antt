-- A list of tokens is an expression in one way, up to where an operator or an index could go on.
use Rattle.std.proofs.Common.{◌≡◌, ℕ, zero, suc, ◌≤◌, ◌<◌, List, [], ◌∷◌, length, Bool, false, Option, Some, None, ◌⊎◌, inl, inr, refl, sym, ap, ap₂, subst, ◌∙◌, arith}
use Rattle.std.specs.Prelude.{pos, neg_ℤ}
use Rattle.std.proofs.lemmas.Option.{same_Some}
use Rattle.kernel_tree.specs.declared.ops.Ty.{Ty}
use Rattle.kernel_tree.specs.declared.ops.UnaryOp.TheVariants as unary
use Rattle.kernel_tree.specs.declared.ops.BinaryOp.{BinaryOp}
use Rattle.kernel_tree.specs.declared.mark.Mark.{Mark}
use Rattle.kernel_tree.specs.declared.mark.Mark.TheVariants as mark
use Rattle.kernel_tree.specs.declared.mark.Operator.{Operator}
use Rattle.kernel_tree.specs.declared.mark.Operator.TheVariants as operator
use Rattle.kernel_tree.specs.declared.mark.Sign.{Sign}
use Rattle.kernel_tree.specs.declared.mark.Sign.TheVariants as sign
use Rattle.kernel_tree.specs.declared.mark.Opening.{Opening}
use Rattle.kernel_tree.specs.declared.mark.Opening.TheVariants as opening
use Rattle.kernel_tree.specs.TextToken.{TextToken, IsName, IsNumber, IsType, IsCompare, IsUpdate, IsMark}
use Rattle.kernel_tree.specs.Plain.{Term, Literal, Variable, Element, Unary, Operation, Shift, Conversion, Choice, Comparison, same}
use Rattle.kernel_tree.specs.Grammar.{Spells, number, name, element, group, pair, absolute, choice, negative, prefix, up, conversion, shift, operation, comparison, operator_of, operator_of_mark, level_of, opening_of_mark, joined, signed, number_following}

-- ---- what may follow

-- whether a token opens an index
abbrev opens_index : TextToken → Bool
opens_index (IsMark m) = same m mark.OpenBracket
opens_index other = false

abbrev Looser : ℕ → Option Operator → Type 0
Looser level None = Unit {0}
Looser level (Some o) = level < level_of o

-- no index and no operator of the level or a tighter one begins here
abbrev pub Closed : ℕ → List TextToken → Type 0
Closed level [] = Unit {0}
Closed level (w ∷ rest) = (opens_index w ≡ false) × Looser level (operator_of w)

no_index_mark : (m : Mark) (o : Operator) → operator_of_mark m ≡ Some o → same m mark.OpenBracket ≡ false
no_index_mark mark.OpenBracket o e = absurd cc
no_index_mark _ o e = refl

operator_opens_no_index : (w : TextToken) (o : Operator) → operator_of w ≡ Some o → opens_index w ≡ false
operator_opens_no_index (IsMark m) o e = no_index_mark m o e
operator_opens_no_index other o e = refl

weaker : (level : ℕ) (o : Option Operator) → Looser (suc level) o → Looser level o
weaker level None h = tt
weaker level (Some o) h = omega arith

closed_below : (level : ℕ) (words : List TextToken) → Closed (suc level) words → Closed level words
closed_below level [] h = tt
closed_below level (w ∷ rest) h = (h.0, weaker level (operator_of w) h.1)

-- ---- chains of operators of one level

abbrev Made : Operator → ℕ → List TextToken → Term → Term → List TextToken → Type 0
Made (operator.Joined j) level next a e rest = (b : Term) × (Spells level next b rest) × (e ≡ joined j a b)
Made (operator.Compared op) level next a e rest = (b : Term) × (Spells level next b rest) × (e ≡ Comparison op a b)
Made (operator.Shifted left) level next a e rest = (n : ℕ) × (next ≡ IsNumber n ∷ rest) × (e ≡ Shift left a (pos n))
Made operator.As level next a e rest = (t : Ty) × (next ≡ IsType t ∷ rest) × (e ≡ Conversion a t)

-- an operator of the level above, and what it makes of a first operand
record Step (level : ℕ) (a : Term) (mid : List TextToken) (e : Term) (rest : List TextToken) : Type 0 where
  word : TextToken
  next : List TextToken
  op : Operator
  at : mid ≡ word ∷ next
  is_op : operator_of word ≡ Some op
  of_level : level_of op ≡ suc level
  made : Made op level next a e rest

data Chain (level : ℕ) : Term → List TextToken → Term → List TextToken → Type 0 where
  stop : {a : Term} {mid : List TextToken} → Chain level a mid a mid
  more : {a b e : Term} {mid next rest : List TextToken} → Step level a mid b next → Chain level b next e rest → Chain level a mid e rest

snoc : {level : ℕ} {a b e : Term} {mid next rest : List TextToken} → Chain level a mid b next → Step level b next e rest → Chain level a mid e rest
snoc stop s = more s stop
snoc (more t c) s = more t (snoc c s)

record Spine (level : ℕ) (words : List TextToken) (e : Term) (rest : List TextToken) : Type 0 where
  first : Term
  mid : List TextToken
  spells : Spells level words first mid
  chain : Chain level first mid e rest

-- ---- views

record ElementView (x : List ℕ) (from : List TextToken) (e : Term) (rest : List TextToken) : Type 0 where
  index : Term
  inner : List TextToken
  opens : from ≡ IsMark mark.OpenBracket ∷ inner
  is : e ≡ Element x index
  spells : Spells 10 inner index (IsMark mark.CloseBracket ∷ rest)

record PairView (op : BinaryOp) (from : List TextToken) (e : Term) (rest : List TextToken) : Type 0 where
  a : Term
  b : Term
  inner : List TextToken
  next : List TextToken
  opens : from ≡ IsMark mark.OpenParen ∷ inner
  is : e ≡ Operation op a b
  first : Spells 10 inner a (IsMark mark.Comma ∷ next)
  second : Spells 10 next b (IsMark mark.CloseParen ∷ rest)

record AbsoluteView (from : List TextToken) (e : Term) (rest : List TextToken) : Type 0 where
  a : Term
  inner : List TextToken
  opens : from ≡ IsMark mark.OpenParen ∷ inner
  is : e ≡ Unary unary.Abs a
  spells : Spells 10 inner a (IsMark mark.CloseParen ∷ rest)

record ChoiceView (from : List TextToken) (e : Term) (rest : List TextToken) : Type 0 where
  c : Term
  a : Term
  b : Term
  inner : List TextToken
  next : List TextToken
  last : List TextToken
  opens : from ≡ IsMark mark.OpenParen ∷ inner
  is : e ≡ Choice c a b
  first : Spells 10 inner c (IsMark mark.Comma ∷ next)
  second : Spells 10 next a (IsMark mark.Comma ∷ last)
  third : Spells 10 last b (IsMark mark.CloseParen ∷ rest)

record NegativeView (s : Sign) (from : List TextToken) (e : Term) (rest : List TextToken) : Type 0 where
  n : ℕ
  at : number_following s from ≡ Some (n, rest)
  is : e ≡ Literal (neg_ℤ (pos n))

record OperandView (s : Sign) (from : List TextToken) (e : Term) (rest : List TextToken) : Type 0 where
  a : Term
  free : number_following s from ≡ None
  is : e ≡ signed s a
  spells : Spells 0 from a rest

abbrev Opened : Opening → List TextToken → Term → List TextToken → Type 0
Opened opening.Group from e rest = Spells 10 from e (IsMark mark.CloseParen ∷ rest)
Opened (opening.Pair op) from e rest = PairView op from e rest
Opened opening.Absolute from e rest = AbsoluteView from e rest
Opened opening.Choice from e rest = ChoiceView from e rest
Opened (opening.Signed s) from e rest = NegativeView s from e rest ⊎ OperandView s from e rest

record MarkView (m : Mark) (from : List TextToken) (e : Term) (rest : List TextToken) : Type 0 where
  opened : Opening
  is : opening_of_mark m ≡ Some opened
  inside : Opened opened from e rest

abbrev Unary_view : List TextToken → Term → List TextToken → Type 0
Unary_view [] e rest = ⊥
Unary_view (IsNumber n ∷ from) e rest = (e ≡ Literal (pos n)) × (rest ≡ from)
Unary_view (IsName x ∷ from) e rest = ((e ≡ Variable x) × (rest ≡ from)) ⊎ ElementView x from e rest
Unary_view (IsMark m ∷ from) e rest = MarkView m from e rest
Unary_view other e rest = ⊥

abbrev View : ℕ → List TextToken → Term → List TextToken → Type 0
View zero words e rest = Unary_view words e rest
View (suc level) words e rest = Spine level words e rest

view : {level : ℕ} {words : List TextToken} {e : Term} {rest : List TextToken} → Spells level words e rest → View level words e rest
view number = (refl, refl)
view name = inl (refl, refl)
view (element {i = i} {from = from} d) = inr (record { index = i; inner = from; opens = refl; is = refl; spells = d })
view (group d) = record { opened = opening.Group; is = refl; inside = d }
view (pair {op = op} {a = a} {b = b} {from = from} {next = next} o d f) = record { opened = opening.Pair op; is = o; inside = record { a = a; b = b; inner = from; next = next; opens = refl; is = refl; first = d; second = f } }
view (absolute {e = a} {from = from} d) = record { opened = opening.Absolute; is = refl; inside = record { a = a; inner = from; opens = refl; is = refl; spells = d } }
view (choice {c = c} {a = a} {b = b} {from = from} {next = next} {last = last} d f g) = record { opened = opening.Choice; is = refl; inside = record { c = c; a = a; b = b; inner = from; next = next; last = last; opens = refl; is = refl; first = d; second = f; third = g } }
view (negative {n = n}) = record { opened = opening.Signed sign.Minus; is = refl; inside = inl (record { n = n; at = refl; is = refl }) }
view (prefix {s = s} {e = a} o n d) = record { opened = opening.Signed s; is = o; inside = inr (record { a = a; free = n; is = refl; spells = d }) }
view (up {e = e} {rest = rest} d) = record { first = e; mid = rest; spells = d; chain = stop }
view (conversion {e = a} {t = t} {w = w} {rest = rest} d o l) =
    let s = view d in
    record { first = s.first; mid = s.mid; spells = s.spells; chain = snoc s.chain (record { word = w; next = IsType t ∷ rest; op = operator.As; at = refl; is_op = o; of_level = l; made = (t, refl, refl) }) }
view (shift {left = left} {e = a} {n = n} {w = w} {rest = rest} d o l) =
    let s = view d in
    record { first = s.first; mid = s.mid; spells = s.spells; chain = snoc s.chain (record { word = w; next = IsNumber n ∷ rest; op = operator.Shifted left; at = refl; is_op = o; of_level = l; made = (n, refl, refl) }) }
view (operation {j = j} {w = w} {a = a} {b = b} {next = next} d o l f) =
    let s = view d in
    record { first = s.first; mid = s.mid; spells = s.spells; chain = snoc s.chain (record { word = w; next = next; op = operator.Joined j; at = refl; is_op = o; of_level = l; made = (b, f, refl) }) }
view (comparison {op = op} {w = w} {a = a} {b = b} {next = next} d o l f) =
    record { first = a; mid = w ∷ next; spells = d; chain = more (record { word = w; next = next; op = operator.Compared op; at = refl; is_op = o; of_level = l; made = (b, f, refl) }) stop }

-- an expression has a token
pub shorter : {level : ℕ} {words : List TextToken} {e : Term} {rest : List TextToken} → Spells level words e rest → length rest < length words
shorter number = omega arith
shorter name = omega arith
shorter (element d) = omega (arith, shorter d)
shorter (group d) = omega (arith, shorter d)
shorter (pair o d f) = omega (arith, shorter d, shorter f)
shorter (absolute d) = omega (arith, shorter d)
shorter (choice d f g) = omega (arith, shorter d, shorter f, shorter g)
shorter negative = omega arith
shorter (prefix o n d) = omega (arith, shorter d)
shorter (up d) = shorter d
shorter (conversion d o l) = omega (arith, shorter d)
shorter (shift d o l) = omega (arith, shorter d)
shorter (operation d o l f) = omega (arith, shorter d, shorter f)
shorter (comparison d o l f) = omega (arith, shorter d, shorter f)

-- ---- uniqueness

abbrev Same : Term → List TextToken → Term → List TextToken → Type 0
Same e r f s = (e ≡ f) × (r ≡ s)

-- what is spelled from some tokens is one expression
abbrev pub Once : ℕ → List TextToken → Type 0
Once level words = (e : Term) (r : List TextToken) (f : Term) (s : List TextToken) → Spells level words e r → Spells level words f s → Closed level r → Closed level s → Same e r f s

from_words : {level : ℕ} {v w : List TextToken} {e : Term} {r : List TextToken} → v ≡ w → Spells level v e r → Spells level w e r
from_words {level} {v} {w} {e} {r} p d = subst (λ (z : List TextToken). Spells level z e r) p d

pub tail_is : (v w : TextToken) (xs ys : List TextToken) → v ∷ xs ≡ w ∷ ys → xs ≡ ys
tail_is v w xs ys p = cc

-- the tokens after a step do not go on at its level
step_closed : (level : ℕ) (a : Term) (mid : List TextToken) (e : Term) (rest : List TextToken) → Step level a mid e rest → Closed level mid
step_closed level a mid e rest s = subst (Closed level) (sym s.at) (operator_opens_no_index s.word s.op s.is_op, subst (Looser level) (sym s.is_op) (omega (arith, s.of_level)))

chain_closed : {level : ℕ} {a : Term} {mid : List TextToken} {e : Term} {rest : List TextToken} → Chain level a mid e rest → Closed (suc level) rest → Closed level mid
chain_closed {level} {a} {mid} stop c = closed_below level mid c
chain_closed {level} {a} {mid} (more {b = b} {next = next} s t) c = step_closed level a mid b next s

-- a step cannot be taken where its level is closed
no_step : (level : ℕ) (a : Term) (mid : List TextToken) (e : Term) (rest : List TextToken) → Step level a mid e rest → Closed (suc level) mid → ⊥
no_step level a mid e rest s c =
    let d : Closed (suc level) (s.word ∷ s.next) = subst (Closed (suc level)) s.at c in
    let l : suc level < level_of s.op = subst (Looser (suc level)) s.is_op d.1 in
    omega (arith, s.of_level)

made_once : (op : Operator) (level : ℕ) (next : List TextToken) (a e : Term) (r : List TextToken) (f : Term) (s : List TextToken) → Once level next → Made op level next a e r → Made op level next a f s → Closed level r → Closed level s → Same e r f s
made_once (operator.Joined j) level next a e r f s once m n c d =
    let u = once m.0 r n.0 s m.1 n.1 c d in
    (m.2 ∙ ap (joined j a) u.0 ∙ sym n.2, u.1)
made_once (operator.Compared op) level next a e r f s once m n c d =
    let u = once m.0 r n.0 s m.1 n.1 c d in
    (m.2 ∙ ap (Comparison op a) u.0 ∙ sym n.2, u.1)
made_once (operator.Shifted left) level next a e r f s once m n c d =
    let p : IsNumber m.0 ∷ r ≡ IsNumber n.0 ∷ s = sym m.1 ∙ n.1 in
    let q : m.0 ≡ n.0 = cc in
    (m.2 ∙ ap (λ k. Shift left a (pos k)) q ∙ sym n.2, tail_is (IsNumber m.0) (IsNumber n.0) r s p)
made_once operator.As level next a e r f s once m n c d =
    let p : IsType m.0 ∷ r ≡ IsType n.0 ∷ s = sym m.1 ∙ n.1 in
    let q : m.0 ≡ n.0 = cc in
    (m.2 ∙ ap (Conversion a) q ∙ sym n.2, tail_is (IsType m.0) (IsType n.0) r s p)

step_once : (level : ℕ) (a : Term) (mid : List TextToken) → ((next : List TextToken) → length next < length mid → Once level next) → (e : Term) (r : List TextToken) (f : Term) (s : List TextToken) → Step level a mid e r → Step level a mid f s → Closed level r → Closed level s → Same e r f s
step_once level a mid once e r f s m n c d =
    let p : m.word ∷ m.next ≡ n.word ∷ n.next = sym m.at ∙ n.at in
    let w : m.word ≡ n.word = cc in
    let x : m.next ≡ n.next = tail_is m.word n.word m.next n.next p in
    let o : m.op ≡ n.op = same_Some m.op n.op (sym m.is_op ∙ ap operator_of w ∙ n.is_op) in
    let there : Made m.op level m.next a f s = subst (λ (z : Operator). Made z level m.next a f s) (sym o) (subst (λ (z : List TextToken). Made n.op level z a f s) (sym x) n.made) in
    made_once m.op level m.next a e r f s (once m.next (omega (arith, ap length m.at))) m.made there c d

made_shorter : (op : Operator) (level : ℕ) (next : List TextToken) (a e : Term) (rest : List TextToken) → Made op level next a e rest → length rest < length next
made_shorter (operator.Joined j) level next a e rest m = shorter m.1
made_shorter (operator.Compared op) level next a e rest m = shorter m.1
made_shorter (operator.Shifted left) level next a e rest m = omega (arith, ap length m.1)
made_shorter operator.As level next a e rest m = omega (arith, ap length m.1)

step_shorter : (level : ℕ) (a : Term) (mid : List TextToken) (e : Term) (rest : List TextToken) → Step level a mid e rest → length rest < length mid
step_shorter level a mid e rest s = omega (arith, ap length s.at, made_shorter s.op level s.next a e rest s.made)

chain_once : {level : ℕ} {a : Term} {mid : List TextToken} {e : Term} {r : List TextToken} → Chain level a mid e r → (b : Term) (from : List TextToken) (f : Term) (s : List TextToken) → Chain level b from f s → a ≡ b → mid ≡ from → ((next : List TextToken) → length next < length mid → Once level next) → Closed (suc level) r → Closed (suc level) s → Same e r f s
chain_once {level} {a} {mid} stop b from f s stop p q once c d = (p, q)
chain_once {level} {a} {mid} stop b from f s (more {b = g} {next = next} t u) p q once c d = absurd (no_step level b from g next t (subst (Closed (suc level)) q c))
chain_once {level} {a} {mid} (more {b = g} {next = next} t u) b from f s stop p q once c d = absurd (no_step level a mid g next t (subst (Closed (suc level)) (sym q) d))
chain_once {level} {a} {mid} (more {b = g} {next = next} t u) b from f s (more {b = h} {next = then} v w) p q once c d =
    let v2 : Step level a mid h then = subst (λ (z : Term). Step level z mid h then) (sym p) (subst (λ (z : List TextToken). Step level b z h then) (sym q) v) in
    let k = step_once level a mid once g next h then t v2 (chain_closed u c) (chain_closed w d) in
    chain_once u h then f s w k.0 k.1 (λ x l. once x (omega (arith, step_shorter level a mid g next t))) c d

-- ---- unary expressions

module _ (most : ℕ) (once : (next : List TextToken) → length next < most → Once 10 next) (lone : (next : List TextToken) → length next < most → Once 0 next) where
  element_once : (x : List ℕ) (from : List TextToken) (e : Term) (r : List TextToken) (f : Term) (s : List TextToken) → length from < most → ElementView x from e r → ElementView x from f s → Same e r f s
  element_once x from e r f s h m n =
      let p = tail_is _ _ m.inner n.inner (sym m.opens ∙ n.opens) in
      let u = once m.inner (omega (arith, ap length m.opens)) m.index _ n.index _ m.spells (from_words (sym p) n.spells) (refl, tt) (refl, tt) in
      (m.is ∙ ap (Element x) u.0 ∙ sym n.is, tail_is _ _ r s u.1)

  pair_once : (op : BinaryOp) (from : List TextToken) (e : Term) (r : List TextToken) (f : Term) (s : List TextToken) → length from < most → PairView op from e r → PairView op from f s → Same e r f s
  pair_once op from e r f s h m n =
      let p = tail_is _ _ m.inner n.inner (sym m.opens ∙ n.opens) in
      let u = once m.inner (omega (arith, ap length m.opens)) m.a _ n.a _ m.first (from_words (sym p) n.first) (refl, tt) (refl, tt) in
      let q = tail_is _ _ m.next n.next u.1 in
      let v = once m.next (omega (arith, ap length m.opens, shorter m.first)) m.b _ n.b _ m.second (from_words (sym q) n.second) (refl, tt) (refl, tt) in
      (m.is ∙ ap₂ (Operation op) u.0 v.0 ∙ sym n.is, tail_is _ _ r s v.1)

  absolute_once : (from : List TextToken) (e : Term) (r : List TextToken) (f : Term) (s : List TextToken) → length from < most → AbsoluteView from e r → AbsoluteView from f s → Same e r f s
  absolute_once from e r f s h m n =
      let p = tail_is _ _ m.inner n.inner (sym m.opens ∙ n.opens) in
      let u = once m.inner (omega (arith, ap length m.opens)) m.a _ n.a _ m.spells (from_words (sym p) n.spells) (refl, tt) (refl, tt) in
      (m.is ∙ ap (Unary unary.Abs) u.0 ∙ sym n.is, tail_is _ _ r s u.1)

  choice_once : (from : List TextToken) (e : Term) (r : List TextToken) (f : Term) (s : List TextToken) → length from < most → ChoiceView from e r → ChoiceView from f s → Same e r f s
  choice_once from e r f s h m n =
      let p = tail_is _ _ m.inner n.inner (sym m.opens ∙ n.opens) in
      let u = once m.inner (omega (arith, ap length m.opens)) m.c _ n.c _ m.first (from_words (sym p) n.first) (refl, tt) (refl, tt) in
      let q = tail_is _ _ m.next n.next u.1 in
      let v = once m.next (omega (arith, ap length m.opens, shorter m.first)) m.a _ n.a _ m.second (from_words (sym q) n.second) (refl, tt) (refl, tt) in
      let k = tail_is _ _ m.last n.last v.1 in
      let w = once m.last (omega (arith, ap length m.opens, shorter m.first, shorter m.second)) m.b _ n.b _ m.third (from_words (sym k) n.third) (refl, tt) (refl, tt) in
      (m.is ∙ ap (λ (c : Term). Choice c m.a m.b) u.0 ∙ ap₂ (Choice n.c) v.0 w.0 ∙ sym n.is, tail_is _ _ r s w.1)

  sign_once : (t : Sign) (from : List TextToken) (e : Term) (r : List TextToken) (f : Term) (s : List TextToken) → length from < most → NegativeView t from e r ⊎ OperandView t from e r → NegativeView t from f s ⊎ OperandView t from f s → Closed 0 r → Closed 0 s → Same e r f s
  sign_once t from e r f s h (inl m) (inl n) c d =
      let p : (m.n, r) ≡ (n.n, s) = same_Some (m.n, r) (n.n, s) (sym m.at ∙ n.at) in
      (m.is ∙ ap (λ (x : ℕ × List TextToken). Literal (neg_ℤ (pos x.0))) p ∙ sym n.is, ap (λ (x : ℕ × List TextToken). x.1) p)
  sign_once t from e r f s h (inl m) (inr n) c d = let p = sym m.at ∙ n.free in absurd cc
  sign_once t from e r f s h (inr m) (inl n) c d = let p = sym n.at ∙ m.free in absurd cc
  sign_once t from e r f s h (inr m) (inr n) c d =
      let u = lone from h m.a r n.a s m.spells n.spells c d in
      (m.is ∙ ap (signed t) u.0 ∙ sym n.is, u.1)

  opened_once : (o : Opening) (from : List TextToken) (e : Term) (r : List TextToken) (f : Term) (s : List TextToken) → length from < most → Opened o from e r → Opened o from f s → Closed 0 r → Closed 0 s → Same e r f s
  opened_once opening.Group from e r f s h m n c d = let u = once from h e _ f _ m n (refl, tt) (refl, tt) in (u.0, tail_is _ _ r s u.1)
  opened_once (opening.Pair op) from e r f s h m n c d = pair_once op from e r f s h m n
  opened_once opening.Absolute from e r f s h m n c d = absolute_once from e r f s h m n
  opened_once opening.Choice from e r f s h m n c d = choice_once from e r f s h m n
  opened_once (opening.Signed t) from e r f s h m n c d = sign_once t from e r f s h m n c d

  mark_once : (m : Mark) (from : List TextToken) (e : Term) (r : List TextToken) (f : Term) (s : List TextToken) → length from < most → MarkView m from e r → MarkView m from f s → Closed 0 r → Closed 0 s → Same e r f s
  mark_once m from e r f s h v w c d =
      let o : v.opened ≡ w.opened = same_Some v.opened w.opened (sym v.is ∙ w.is) in
      opened_once v.opened from e r f s h v.inside (subst (λ (z : Opening). Opened z from f s) (sym o) w.inside) c d

  name_once : (x : List ℕ) (from : List TextToken) (e : Term) (r : List TextToken) (f : Term) (s : List TextToken) → length from < most → ((e ≡ Variable x) × (r ≡ from)) ⊎ ElementView x from e r → ((f ≡ Variable x) × (s ≡ from)) ⊎ ElementView x from f s → Closed 0 r → Closed 0 s → Same e r f s
  name_once x from e r f s h (inl m) (inl n) c d = (m.0 ∙ sym n.0, m.1 ∙ sym n.1)
  name_once x from e r f s h (inl m) (inr n) c d = let p = (subst (Closed 0) (m.1 ∙ n.opens) c).0 in absurd cc
  name_once x from e r f s h (inr m) (inl n) c d = let p = (subst (Closed 0) (n.1 ∙ m.opens) d).0 in absurd cc
  name_once x from e r f s h (inr m) (inr n) c d = element_once x from e r f s h m n

  unary_once : (words : List TextToken) (e : Term) (r : List TextToken) (f : Term) (s : List TextToken) → length words ≤ most → Unary_view words e r → Unary_view words f s → Closed 0 r → Closed 0 s → Same e r f s
  unary_once [] e r f s h m n c d = absurd m
  unary_once (IsNumber k ∷ from) e r f s h m n c d = (m.0 ∙ sym n.0, m.1 ∙ sym n.1)
  unary_once (IsName x ∷ from) e r f s h m n c d = name_once x from e r f s (omega arith) m n c d
  unary_once (IsMark k ∷ from) e r f s h m n c d = mark_once k from e r f s (omega arith) m n c d
  unary_once (IsType t ∷ from) e r f s h m n c d = absurd m
  unary_once (IsCompare op ∷ from) e r f s h m n c d = absurd m
  unary_once (IsUpdate op ∷ from) e r f s h m n c d = absurd m

  level_once : (level : ℕ) (words : List TextToken) → length words ≤ most → Once level words
  level_once zero words h e r f s d g c k = unary_once words e r f s h (view d) (view g) c k
  level_once (suc level) words h e r f s d g c k =
      let m = view d in
      let n = view g in
      let u = level_once level words h m.first m.mid n.first n.mid m.spells n.spells (chain_closed m.chain c) (chain_closed n.chain k) in
      chain_once m.chain n.first n.mid f s n.chain u.0 u.1 (λ x l. level_once level x (omega (arith, shorter m.spells))) c k

once_all : (most level : ℕ) (words : List TextToken) → length words ≤ most → Once level words
once_all zero level words h = level_once 0 (λ next l. absurd (omega arith)) (λ next l. absurd (omega arith)) level words h
once_all (suc most) level words h = level_once (suc most) (λ next l. once_all most 10 next (omega arith)) (λ next l. once_all most 0 next (omega arith)) level words h

pub one_term : (level : ℕ) (words : List TextToken) → Once level words
one_term level words = once_all (length words) level words (omega arith)

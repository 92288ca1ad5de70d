-- A list of tokens is the tree of one kernel at most.
use Rattle.std.proofs.Common.{◌≡◌, ℕ, List, [], ◌∷◌, Bool, false, Option, Some, refl, sym, ap, ap₂, subst, ◌∙◌}
use Rattle.kernel_tree.specs.declared.ops.Ty.{Ty}
use Rattle.kernel_tree.specs.declared.mark.Mark.{Mark}
use Rattle.kernel_tree.specs.declared.mark.Mark.TheVariants as mark
use Rattle.kernel_tree.specs.TextToken.{TextToken, IsType, IsMark}
use Rattle.kernel_tree.specs.Plain.{Term, Action, Define, Put, Update, Choose, Leave, Block, Then, Nothing, Else, Parameter, Accumulator, PlainLoop, Returned, Program, same}
use Rattle.kernel_tree.specs.Grammar.{Spells, SpellsType, untyped, typed, SpellsAction, define, put, update, choose, choose_else, leave, SpellsBlock, done, then, SpellsParam, scalar, array, SpellsSome, last, more, SpellsParams, none, some, SpellsVars, no_var, var, SpellsLoop, no_loop, loop, Tree, procedure, function}
use Rattle.kernel_tree.proofs.OneTerm.{one_term, tail_is}

-- the tokens at the front begin with a mark or not
abbrev begins_with : Mark → List TextToken → Bool
begins_with m [] = false
begins_with m (IsMark k ∷ rest) = same k m
begins_with m other = false

type_is : (t u : Ty) (xs ys : List TextToken) → IsType t ∷ xs ≡ IsType u ∷ ys → t ≡ u
type_is t u xs ys p = cc

-- an expression, and what stands after it
before_semicolon : (words : List TextToken) (e f : Term) (r s : List TextToken) → Spells 10 words e (IsMark mark.Semicolon ∷ r) → Spells 10 words f (IsMark mark.Semicolon ∷ s) → (e ≡ f) × (r ≡ s)
before_semicolon words e f r s d g = let u = one_term 10 words e _ f _ d g (refl, tt) (refl, tt) in (u.0, tail_is _ _ r s u.1)

before_brace : (words : List TextToken) (e f : Term) (r s : List TextToken) → Spells 10 words e (IsMark mark.OpenBrace ∷ r) → Spells 10 words f (IsMark mark.OpenBrace ∷ s) → (e ≡ f) × (r ≡ s)
before_brace words e f r s d g = let u = one_term 10 words e _ f _ d g (refl, tt) (refl, tt) in (u.0, tail_is _ _ r s u.1)

before_bracket : (words : List TextToken) (e f : Term) (r s : List TextToken) → Spells 10 words e (IsMark mark.CloseBracket ∷ r) → Spells 10 words f (IsMark mark.CloseBracket ∷ s) → (e ≡ f) × (r ≡ s)
before_bracket words e f r s d g = let u = one_term 10 words e _ f _ d g (refl, tt) (refl, tt) in (u.0, tail_is _ _ r s u.1)

term_from : {v w : List TextToken} {e : Term} {r : List TextToken} → v ≡ w → Spells 10 v e r → Spells 10 w e r
term_from {v} {w} {e} {r} p d = subst (λ (z : List TextToken). Spells 10 z e r) p d

-- ---- statements

type_once : (words : List TextToken) (t u : Option Ty) (r s : List TextToken) → SpellsType words t (IsMark mark.Equals ∷ r) → SpellsType words u (IsMark mark.Equals ∷ s) → (t ≡ u) × (r ≡ s)
type_once words t u r s untyped untyped = (refl, refl)
type_once words t u r s typed typed = (refl, refl)

action_front : {whole : Bool} {words : List TextToken} {s : Action} {r : List TextToken} → SpellsAction whole words s r → (begins_with mark.CloseBrace words ≡ false) × (begins_with mark.Else words ≡ false)
action_front (define d f) = (refl, refl)
action_front other = (refl, refl)

block_front : {whole : Bool} {words : List TextToken} {b : Block} {r : List TextToken} → SpellsBlock whole words b r → begins_with mark.Else words ≡ false
block_front done = refl
block_front (then d f) = (action_front d).1

block_from : {whole : Bool} {v w : List TextToken} {b : Block} {r : List TextToken} → v ≡ w → SpellsBlock whole v b r → SpellsBlock whole w b r
block_from {whole} {v} {w} {b} {r} p d = subst (λ (z : List TextToken). SpellsBlock whole z b r) p d

mutual
  action_once : {whole : Bool} {words : List TextToken} {s : Action} {r : List TextToken} → SpellsAction whole words s r → (t : Action) (q : List TextToken) → SpellsAction whole words t q → begins_with mark.Else r ≡ false → begins_with mark.Else q ≡ false → (s ≡ t) × (r ≡ q)
  action_once (define {x = x} d f) t q (define g h) a b =
      let u = type_once _ _ _ _ _ d g in
      let v = before_semicolon _ _ _ _ _ f (term_from (sym u.1) h) in
      (ap₂ (Define x) u.0 v.0, v.1)
  action_once (put {x = x} d f) t q (put g h) a b =
      let u = before_bracket _ _ _ _ _ d g in
      let v = before_semicolon _ _ _ _ _ f (term_from (sym (tail_is _ _ _ _ u.1)) h) in
      (ap₂ (Put x) u.0 v.0, v.1)
  action_once (update {x = x} {op = op} d) t q (update g) a b =
      let u = before_semicolon _ _ _ _ _ d g in
      (ap (Update x op) u.0, u.1)
  action_once (choose d f) t q (choose g h) a b =
      let u = before_brace _ _ _ _ _ d g in
      let v = block_once f _ _ (block_from (sym u.1) h) in
      (ap₂ (λ (c : Term) (z : Block). Choose c z Nothing) u.0 v.0, v.1)
  action_once (choose d f) t q (choose_else g h i) a b =
      let u = before_brace _ _ _ _ _ d g in
      let v = block_once f _ _ (block_from (sym u.1) h) in
      let p = subst (λ (z : List TextToken). begins_with mark.Else z ≡ false) v.1 a in
      absurd cc
  action_once (choose_else d f k) t q (choose g h) a b =
      let u = before_brace _ _ _ _ _ d g in
      let v = block_once f _ _ (block_from (sym u.1) h) in
      let p = subst (λ (z : List TextToken). begins_with mark.Else z ≡ false) (sym v.1) b in
      absurd cc
  action_once (choose_else {d = e} d f k) t q (choose_else {c = c} {b = y} g h i) a b =
      let u = before_brace _ _ _ _ _ d g in
      let v = block_once f _ _ (block_from (sym u.1) h) in
      let w = block_once k _ _ (block_from (sym (tail_is _ _ _ _ (tail_is _ _ _ _ v.1))) i) in
      (ap₂ (λ (x : Term) (z : Block). Choose x z (Else e)) u.0 v.0 ∙ ap (λ (z : Block). Choose c y (Else z)) w.0, w.1)
  action_once (leave d) t q (leave g) a b =
      let u = before_semicolon _ _ _ _ _ d g in
      (ap Leave u.0, u.1)

  block_once : {whole : Bool} {words : List TextToken} {b : Block} {r : List TextToken} → SpellsBlock whole words b r → (d : Block) (q : List TextToken) → SpellsBlock whole words d q → (b ≡ d) × (r ≡ q)
  block_once done d q done = (refl, refl)
  block_once done d q (then g h) = let p = (action_front g).0 in absurd cc
  block_once (then g h) d q done = let p = (action_front g).0 in absurd cc
  block_once (then d f) y q (then g h) =
      let u = action_once d _ _ g (block_front f) (block_front h) in
      let v = block_once f _ _ (block_from (sym u.1) h) in
      (ap₂ Then u.0 v.0, v.1)

-- ---- kernels

param_once : {words : List TextToken} {p : Parameter} {r : List TextToken} → SpellsParam words p r → (o : Parameter) (q : List TextToken) → SpellsParam words o q → (p ≡ o) × (r ≡ q)
param_once scalar o q scalar = (refl, refl)
param_once array o q array = (refl, refl)

param_front : {words : List TextToken} {p : Parameter} {r : List TextToken} → SpellsParam words p r → begins_with mark.CloseParen words ≡ false
param_front scalar = refl
param_front array = refl

some_front : {others : ℕ} {words : List TextToken} {ps : List Parameter} {r : List TextToken} → SpellsSome others words ps r → begins_with mark.CloseParen words ≡ false
some_front (last d) = param_front d
some_front (more d f) = param_front d

some_once : {others : ℕ} {words : List TextToken} {ps : List Parameter} {r : List TextToken} → SpellsSome others words ps r → (left : ℕ) (os : List Parameter) (q : List TextToken) → SpellsSome left words os q → (ps ≡ os) × (r ≡ q)
some_once (last d) left os q (last g) = let u = param_once d _ _ g in (ap (λ (p : Parameter). p ∷ []) u.0, tail_is _ _ _ _ u.1)
some_once (last d) left os q (more g h) = let p = (param_once d _ _ g).1 in absurd cc
some_once (more d f) left os q (last g) = let p = (param_once d _ _ g).1 in absurd cc
some_once (more d f) left os q (more {others = others} {ps = rs} g h) =
    let u = param_once d _ _ g in
    let v = some_once f others _ _ (subst (λ (z : List TextToken). SpellsSome others z rs q) (sym (tail_is _ _ _ _ u.1)) h) in
    (ap₂ (λ (p : Parameter) (xs : List Parameter). p ∷ xs) u.0 v.0, v.1)

params_once : {words : List TextToken} {ps : List Parameter} {r : List TextToken} → SpellsParams words ps r → (os : List Parameter) (q : List TextToken) → SpellsParams words os q → (ps ≡ os) × (r ≡ q)
params_once none os q none = (refl, refl)
params_once none os q (some g) = let p = some_front g in absurd cc
params_once (some d) os q none = let p = some_front d in absurd cc
params_once (some d) os q (some g) = some_once d 7 os q g

vars_once : {words : List TextToken} {vs : List Accumulator} {r : List TextToken} → SpellsVars words vs r → (us : List Accumulator) (q : List TextToken) → SpellsVars words us q → begins_with mark.Var r ≡ false → begins_with mark.Var q ≡ false → (vs ≡ us) × (r ≡ q)
vars_once no_var us q no_var a b = (refl, refl)
vars_once no_var us q (var g h) a b = absurd cc
vars_once (var d f) us q no_var a b = absurd cc
vars_once (var {x = x} {t = t} d f) us q (var {vs = ws} g h) a b =
    let u = before_semicolon _ _ _ _ _ d g in
    let v = vars_once f ws q (subst (λ (z : List TextToken). SpellsVars z ws q) (sym u.1) h) a b in
    (ap₂ (λ (e : Term) (xs : List Accumulator). record { name = x; type = t; init = e } ∷ xs) u.0 v.0, v.1)

loop_front : {words : List TextToken} {l : Option PlainLoop} {r : List TextToken} → SpellsLoop words l r → begins_with mark.Var r ≡ false → begins_with mark.Var words ≡ false
loop_front no_loop h = h
loop_front (loop d) h = refl

loop_once : {words : List TextToken} {l : Option PlainLoop} {r : List TextToken} → SpellsLoop words l r → (m : Option PlainLoop) (q : List TextToken) → SpellsLoop words m q → begins_with mark.For r ≡ false → begins_with mark.For q ≡ false → (l ≡ m) × (r ≡ q)
loop_once no_loop m q no_loop a b = (refl, refl)
loop_once no_loop m q (loop g) a b = absurd cc
loop_once (loop d) m q no_loop a b = absurd cc
loop_once (loop {i = i} {n = n} d) m q (loop g) a b =
    let u = block_once d _ _ g in
    (ap (λ (z : Block). Some (record { index = i; bound = n; body = z })) u.0, u.1)

vars_from : {v w : List TextToken} {vs : List Accumulator} {r : List TextToken} → v ≡ w → SpellsVars v vs r → SpellsVars w vs r
vars_from {v} {w} {vs} {r} p d = subst (λ (z : List TextToken). SpellsVars z vs r) p d

loop_from : {v w : List TextToken} {l : Option PlainLoop} {r : List TextToken} → v ≡ w → SpellsLoop v l r → SpellsLoop w l r
loop_from {v} {w} {l} {r} p d = subst (λ (z : List TextToken). SpellsLoop z l r) p d

made_same : (x : List ℕ) (ps os : List Parameter) (vs us : List Accumulator) (l m : Option PlainLoop) (a b : Option Returned) → ps ≡ os → vs ≡ us → l ≡ m → a ≡ b → ◌≡◌ {A = Program} (record { name = x; params = ps; vars = vs; for_loop = l; answer = a }) (record { name = x; params = os; vars = us; for_loop = m; answer = b })
made_same x ps os vs us l m a b p v t e =
    ap₂ (λ (z : List Parameter) (y : List Accumulator). record { name = x; params = z; vars = y; for_loop = l; answer = a }) p v
    ∙ ap₂ (λ (z : Option PlainLoop) (y : Option Returned). record { name = x; params = os; vars = us; for_loop = z; answer = y }) t e

pub tree_once : {words : List TextToken} {j : Program} → Tree words j → (k : Program) → Tree words k → j ≡ k
tree_once (procedure {x = x} d f g) k (procedure i m n) =
    let p = params_once d _ _ i in
    let v = vars_once f _ _ (vars_from (sym (tail_is _ _ _ _ p.1)) m) (loop_front g refl) (loop_front n refl) in
    let l = loop_once g _ _ (loop_from (sym v.1) n) refl refl in
    made_same x _ _ _ _ _ _ _ _ p.0 v.0 l.0 refl
tree_once (procedure d f g) k (function i m n o) = let p = (params_once d _ _ i).1 in absurd cc
tree_once (function d f g h) k (procedure i m n) = let p = (params_once d _ _ i).1 in absurd cc
tree_once (function {x = x} {t = t} d f g h) k (function i m n o) =
    let p = params_once d _ _ i in
    let q = tail_is _ _ _ _ p.1 in
    let v = vars_once f _ _ (vars_from (sym (tail_is _ _ _ _ (tail_is _ _ _ _ q))) m) (loop_front g refl) (loop_front n refl) in
    let l = loop_once g _ _ (loop_from (sym v.1) n) refl refl in
    let a = before_semicolon _ _ _ _ _ h (term_from (sym (tail_is _ _ _ _ l.1)) o) in
    let y = type_is _ _ _ _ q in
    made_same x _ _ _ _ _ _ _ _ p.0 v.0 l.0 (ap₂ (λ (z : Ty) (e : Term). Some (record { type = z; value = e })) y a.0)

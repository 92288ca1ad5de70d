-- Kernels: what is read is spelled so.
use Rattle.std.proofs.Common.{◌≡◌, ℕ, zero, suc, true, cond, List, [], ◌∷◌, length, Option, Some, None, Result, Ok, Err, refl, sym, ap, subst, ◌∙◌, eqb}
use Rattle.std.proofs.lemmas.Bool.{eqb-true}
use Rattle.kernel_tree.specs.declared.ops.Ty.{Ty}
use Rattle.kernel_tree.specs.declared.ast.Shape.{Shape}
use Rattle.kernel_tree.specs.declared.ast.Shape.TheVariants as shape
use Rattle.kernel_tree.specs.declared.mark.Mark.{Mark}
use Rattle.kernel_tree.specs.declared.mark.Mark.TheVariants as mark
use Rattle.kernel_tree.specs.TextToken.{TextToken, IsName, IsNumber, IsType, IsMark}
use Rattle.kernel_tree.specs.Plain.{Term, Parameter, Accumulator, PlainLoop, Returned, Program}
use Rattle.kernel_tree.specs.Grammar.{Spells, SpellsBlock, SpellsParam, scalar, array, SpellsSome, last, more, SpellsParams, none, some, SpellsVars, no_var, var, SpellsLoop, no_loop, loop, Tree, procedure, function, number_at}
use Rattle.expression_syntax.specs.Reading.{◌>>=◌, given, following, past, name_at, type_at}
use Rattle.kernel_syntax.specs.Statements.{term_at, block_at}
use Rattle.kernel_syntax.specs.Headers.{Read, shape_at, param_at, some_at, params_at, var_at, vars_by, vars_at, zero_at, for_loop_at, loop_at, tail_at, answer_by, alone, kernel_at}
use Rattle.expression_syntax.proofs.Sound.{bind_ok, bind_then, ok_is, not_err, cond_is, after-is, following-is, name-is, type-is, number-is, until_spells}
use Rattle.kernel_syntax.proofs.ActionSound.{term_spells, block_spells}

-- what stands after the colon of a parameter
data SpellsShape : List TextToken → Shape → List TextToken → Type 0 where
  scalar_shape : {t : Ty} {rest : List TextToken} → SpellsShape (IsType t ∷ rest) (shape.Scalar t) rest
  array_shape : {t : Ty} {rest : List TextToken} → SpellsShape (IsMark mark.OpenBracket ∷ IsType t ∷ IsMark mark.CloseBracket ∷ rest) (shape.Array t) rest

at_shape : (words : List TextToken) (x y : Shape × List TextToken) → x ≡ y → SpellsShape words x.0 x.1 → SpellsShape words y.0 y.1
at_shape words x y p h = subst (λ (x : Shape × List TextToken). SpellsShape words x.0 x.1) p h

from_shape : (to from : List TextToken) (y : Shape × List TextToken) → to ≡ from → SpellsShape from y.0 y.1 → SpellsShape to y.0 y.1
from_shape to from y p h = subst (λ (z : List TextToken). SpellsShape z y.0 y.1) (sym p) h

by_shape : (words : List TextToken) (y : Shape × List TextToken) (o : Option (List TextToken)) → following mark.OpenBracket words ≡ o → given {B = Read Shape} o (λ from. type_at from >>= (λ t. past mark.CloseBracket t.1 >>= (λ rest. Ok (shape.Array t.0, rest)))) (type_at words >>= (λ t. Ok (shape.Scalar t.0, t.1))) ≡ Ok y → SpellsShape words y.0 y.1
by_shape words y None p q =
    let t = bind_ok (type_at words) (λ t. Ok (shape.Scalar t.0, t.1)) y q in
    from_shape _ _ y (type-is words t.0 t.1) (at_shape _ (shape.Scalar t.0.0, t.0.1) y (ok_is (shape.Scalar t.0.0, t.0.1) y t.2) scalar_shape)
by_shape words y (Some from) p q =
    let t = bind_ok (type_at from) (λ t. past mark.CloseBracket t.1 >>= (λ rest. Ok (shape.Array t.0, rest))) y q in
    let rest = bind_ok (past mark.CloseBracket t.0.1) (λ rest. Ok (shape.Array t.0.0, rest)) y t.2 in
    let w : words ≡ IsMark mark.OpenBracket ∷ IsType t.0.0 ∷ IsMark mark.CloseBracket ∷ rest.0 = following-is mark.OpenBracket words from p ∙ ap (λ (z : List TextToken). IsMark mark.OpenBracket ∷ z) (type-is from t.0 t.1 ∙ ap (λ (z : List TextToken). IsType t.0.0 ∷ z) (after-is mark.CloseBracket t.0.1 rest.0 rest.1)) in
    from_shape _ _ y w (at_shape _ (shape.Array t.0.0, rest.0) y (ok_is (shape.Array t.0.0, rest.0) y rest.2) array_shape)

shape_spells : (words : List TextToken) (y : Shape × List TextToken) → shape_at words ≡ Ok y → SpellsShape words y.0 y.1
unfolding shape_at
shape_spells words y q = by_shape words y (following mark.OpenBracket words) refl q

shaped : (x : List ℕ) (words : List TextToken) (s : Shape) (rest : List TextToken) → SpellsShape words s rest → SpellsParam (IsName x ∷ IsMark mark.Colon ∷ words) (record { name = x; shape = s }) rest
shaped x words s rest scalar_shape = scalar
shaped x words s rest array_shape = array

pub param_spells : (words : List TextToken) (y : Parameter × List TextToken) → param_at words ≡ Ok y → SpellsParam words y.0 y.1
unfolding param_at
param_spells words y q =
    let x = bind_ok (name_at words) (λ x. past mark.Colon x.1 >>= (λ from. shape_at from >>= (λ s. Ok (record { name = x.0; shape = s.0 }, s.1)))) y q in
    let from = bind_ok (past mark.Colon x.0.1) (λ from. shape_at from >>= (λ s. Ok (record { name = x.0.0; shape = s.0 }, s.1))) y x.2 in
    let s = bind_ok (shape_at from.0) (λ s. Ok (record { name = x.0.0; shape = s.0 }, s.1)) y from.2 in
    let w : words ≡ IsName x.0.0 ∷ IsMark mark.Colon ∷ from.0 = name-is words x.0 x.1 ∙ ap (λ (z : List TextToken). IsName x.0.0 ∷ z) (after-is mark.Colon x.0.1 from.0 from.1) in
    let p : Parameter × List TextToken = (record { name = x.0.0; shape = s.0.0 }, s.0.1) in
    subst (λ (z : Parameter × List TextToken). SpellsParam words z.0 z.1) (ok_is p y s.2) (subst (λ (z : List TextToken). SpellsParam z p.0 p.1) (sym w) (shaped x.0.0 from.0 s.0.0 s.0.1 (shape_spells from.0 s.0 s.1)))

at_some : (others : ℕ) (words : List TextToken) (x y : List Parameter × List TextToken) → x ≡ y → SpellsSome others words x.0 x.1 → SpellsSome others words y.0 y.1
at_some others words x y p h = subst (λ (x : List Parameter × List TextToken). SpellsSome others words x.0 x.1) p h

param_then : (words : List TextToken) (p : Parameter × List TextToken) (m : Mark) (next : List TextToken) → p.1 ≡ IsMark m ∷ next → SpellsParam words p.0 p.1 → SpellsParam words p.0 (IsMark m ∷ next)
param_then words p m next e h = subst (λ (z : List TextToken). SpellsParam words p.0 z) e h

last_spells : (others : ℕ) (words : List TextToken) (p : Parameter × List TextToken) (y : List Parameter × List TextToken) → SpellsParam words p.0 p.1 → (next : List TextToken) → following mark.CloseParen p.1 ≡ Some next → ◌≡◌ {A = Read (List Parameter)} (Ok (p.0 ∷ [], next)) (Ok y) → SpellsSome others words y.0 y.1
last_spells others words p y h next e q = at_some others words (p.0 ∷ [], next) y (ok_is (p.0 ∷ [], next) y q) (last (param_then words p mark.CloseParen next (following-is mark.CloseParen p.1 next e) h))

by_last : (words : List TextToken) (p : Parameter × List TextToken) (y : List Parameter × List TextToken) → SpellsParam words p.0 p.1 → (o : Option (List TextToken)) → following mark.CloseParen p.1 ≡ o → given {B = Read (List Parameter)} o (λ rest. Ok (p.0 ∷ [], rest)) (Err (length p.1)) ≡ Ok y → SpellsSome 0 words y.0 y.1
by_last words p y h None e q = absurd (not_err (length p.1) y q)
by_last words p y h (Some next) e q = last_spells 0 words p y h next e q

by_more : (others : ℕ) → ((next : List TextToken) (z : List Parameter × List TextToken) → some_at others next ≡ Ok z → SpellsSome others next z.0 z.1) → (words : List TextToken) (p : Parameter × List TextToken) (y : List Parameter × List TextToken) → SpellsParam words p.0 p.1 → (o : Option (List TextToken)) → following mark.CloseParen p.1 ≡ o → given {B = Read (List Parameter)} o (λ rest. Ok (p.0 ∷ [], rest)) (past mark.Comma p.1 >>= (λ next. some_at others next >>= (λ ps. Ok (p.0 ∷ ps.0, ps.1)))) ≡ Ok y → SpellsSome (suc others) words y.0 y.1
by_more others again words p y h None e q =
    let next = bind_ok (past mark.Comma p.1) (λ next. some_at others next >>= (λ ps. Ok (p.0 ∷ ps.0, ps.1))) y q in
    let ps = bind_ok (some_at others next.0) (λ ps. Ok (p.0 ∷ ps.0, ps.1)) y next.2 in
    at_some (suc others) words (p.0 ∷ ps.0.0, ps.0.1) y (ok_is (p.0 ∷ ps.0.0, ps.0.1) y ps.2) (more (param_then words p mark.Comma next.0 (after-is mark.Comma p.1 next.0 next.1) h) (again next.0 ps.0 ps.1))
by_more others again words p y h (Some next) e q = last_spells (suc others) words p y h next e q

some_spells : (others : ℕ) (words : List TextToken) (y : List Parameter × List TextToken) → some_at others words ≡ Ok y → SpellsSome others words y.0 y.1
unfolding some_at
some_spells zero words y q =
    let p = bind_ok (param_at words) (λ p. given {B = Read (List Parameter)} (following mark.CloseParen p.1) (λ rest. Ok (p.0 ∷ [], rest)) (Err (length p.1))) y q in
    by_last words p.0 y (param_spells words p.0 p.1) (following mark.CloseParen p.0.1) refl p.2
some_spells (suc others) words y q =
    let p = bind_ok (param_at words) (λ p. given {B = Read (List Parameter)} (following mark.CloseParen p.1) (λ rest. Ok (p.0 ∷ [], rest)) (past mark.Comma p.1 >>= (λ next. some_at others next >>= (λ ps. Ok (p.0 ∷ ps.0, ps.1))))) y q in
    by_more others (some_spells others) words p.0 y (param_spells words p.0 p.1) (following mark.CloseParen p.0.1) refl p.2

by_params : (words : List TextToken) (y : List Parameter × List TextToken) (o : Option (List TextToken)) → following mark.CloseParen words ≡ o → given {B = Read (List Parameter)} o (λ rest. Ok ([], rest)) (some_at 7 words) ≡ Ok y → SpellsParams words y.0 y.1
by_params words y None p q = some (some_spells 7 words y q)
by_params words y (Some rest) p q = subst (λ (x : List Parameter × List TextToken). SpellsParams words x.0 x.1) (ok_is ([], rest) y q) (subst (λ (z : List TextToken). SpellsParams z [] rest) (sym (following-is mark.CloseParen words rest p)) none)

pub params_spells : (words : List TextToken) (y : List Parameter × List TextToken) → params_at words ≡ Ok y → SpellsParams words y.0 y.1
unfolding params_at
params_spells words y q = by_params words y (following mark.CloseParen words) refl q

-- an accumulator after its first token
pub record SpellsVar (words : List TextToken) (v : Accumulator) (rest : List TextToken) : Type 0 where
  pub from : List TextToken
  pub front : words ≡ IsName v.name ∷ IsMark mark.Colon ∷ IsType v.type ∷ IsMark mark.Equals ∷ from
  pub value : Spells 10 from v.init (IsMark mark.Semicolon ∷ rest)

pub var_spells : (words : List TextToken) (y : Accumulator × List TextToken) → var_at words ≡ Ok y → SpellsVar words y.0 y.1
unfolding var_at
var_spells words y q =
    bind_then (name_at words) _ y q (λ x x_is q.
    bind_then (past mark.Colon x.1) _ y q (λ from from_is q.
    bind_then (type_at from) _ y q (λ t t_is q.
    bind_then (past mark.Equals t.1) _ y q (λ next next_is q.
    bind_then (term_at mark.Semicolon next) _ y q (λ e e_is q.
    let w : words ≡ IsName x.0 ∷ IsMark mark.Colon ∷ IsType t.0 ∷ IsMark mark.Equals ∷ next = name-is words x x_is ∙ ap (λ (z : List TextToken). IsName x.0 ∷ z) (after-is mark.Colon x.1 from from_is ∙ ap (λ (z : List TextToken). IsMark mark.Colon ∷ z) (type-is from t t_is ∙ ap (λ (z : List TextToken). IsType t.0 ∷ z) (after-is mark.Equals t.1 next next_is))) in
    subst (λ (z : Accumulator × List TextToken). SpellsVar words z.0 z.1) (ok_is (record { name = x.0; type = t.0; init = e.0 }, e.1) y q) (record { from = next; front = w; value = term_spells mark.Semicolon next e e_is }))))))

by_vars : (k : ℕ) → ((next : List TextToken) (z : List Accumulator × List TextToken) → vars_by k next ≡ Ok z → SpellsVars next z.0 z.1) → (words : List TextToken) (y : List Accumulator × List TextToken) (o : Option (List TextToken)) → following mark.Var words ≡ o → given {B = Read (List Accumulator)} o (λ rest. var_at rest >>= (λ v. vars_by k v.1 >>= (λ vs. Ok (v.0 ∷ vs.0, vs.1)))) (Ok ([], words)) ≡ Ok y → SpellsVars words y.0 y.1
by_vars k again words y None p q = subst (λ (x : List Accumulator × List TextToken). SpellsVars words x.0 x.1) (ok_is ([], words) y q) no_var
by_vars k again words y (Some from) p q =
    let v = bind_ok (var_at from) (λ v. vars_by k v.1 >>= (λ vs. Ok (v.0 ∷ vs.0, vs.1))) y q in
    let vs = bind_ok (vars_by k v.0.1) (λ vs. Ok (v.0.0 ∷ vs.0, vs.1)) y v.2 in
    let s = var_spells from v.0 v.1 in
    let w : words ≡ IsMark mark.Var ∷ IsName v.0.0.name ∷ IsMark mark.Colon ∷ IsType v.0.0.type ∷ IsMark mark.Equals ∷ s.from = following-is mark.Var words from p ∙ ap (λ (z : List TextToken). IsMark mark.Var ∷ z) s.front in
    subst (λ (x : List Accumulator × List TextToken). SpellsVars words x.0 x.1) (ok_is (v.0.0 ∷ vs.0.0, vs.0.1) y vs.2) (subst (λ (z : List TextToken). SpellsVars z (v.0.0 ∷ vs.0.0) vs.0.1) (sym w) (var s.value (again v.0.1 vs.0 vs.1)))

vars_by_spells : (k : ℕ) (words : List TextToken) (y : List Accumulator × List TextToken) → vars_by k words ≡ Ok y → SpellsVars words y.0 y.1
unfolding vars_by
vars_by_spells zero words y q = absurd (not_err (length words) y q)
vars_by_spells (suc k) words y q = by_vars k (vars_by_spells k) words y (following mark.Var words) refl q

pub vars_spells : (words : List TextToken) (y : List Accumulator × List TextToken) → vars_at words ≡ Ok y → SpellsVars words y.0 y.1
unfolding vars_at
vars_spells words y q = vars_by_spells (suc (length words)) words y q

by_zero : (words rest : List TextToken) (o : Option (ℕ × List TextToken)) → number_at words ≡ o → given {B = Result (List TextToken) ℕ} o (λ x. cond (eqb x.0 0) (Ok x.1) (Err (length words))) (Err (length words)) ≡ Ok rest → words ≡ IsNumber 0 ∷ rest
by_zero words rest None p q = absurd (not_err (length words) rest q)
by_zero words rest (Some x) p q =
    let c = cond_is (eqb x.0 0) (Ok x.1) (Err (length words)) (Ok rest) (not_err (length words) rest) q in
    let n : x.0 ≡ 0 = eqb-true x.0 0 c.0 in
    let r : x.1 ≡ rest = ok_is x.1 rest c.1 in
    number-is words x p ∙ ap (λ (k : ℕ). IsNumber k ∷ x.1) n ∙ ap (λ (z : List TextToken). IsNumber 0 ∷ z) r

pub zero-is : (words rest : List TextToken) → zero_at words ≡ Ok rest → words ≡ IsNumber 0 ∷ rest
unfolding zero_at
zero-is words rest q = by_zero words rest (number_at words) refl q

-- a loop after its first token
record SpellsForLoop (words : List TextToken) (l : PlainLoop) (rest : List TextToken) : Type 0 where
  pub from : List TextToken
  front : words ≡ IsName l.index ∷ IsMark mark.In ∷ IsNumber 0 ∷ IsMark mark.Range ∷ IsName l.bound ∷ IsMark mark.OpenBrace ∷ from
  inside : SpellsBlock true from l.body rest

for_loop_spells : (words : List TextToken) (y : PlainLoop × List TextToken) → for_loop_at words ≡ Ok y → SpellsForLoop words y.0 y.1
unfolding for_loop_at
for_loop_spells words y q =
    bind_then (name_at words) _ y q (λ i i_is q.
    bind_then (past mark.In i.1) _ y q (λ from from_is q.
    bind_then (zero_at from) _ y q (λ range range_is q.
    bind_then (past mark.Range range) _ y q (λ end end_is q.
    bind_then (name_at end) _ y q (λ n n_is q.
    bind_then (past mark.OpenBrace n.1) _ y q (λ inside inside_is q.
    bind_then (block_at true (length inside) inside) _ y q (λ b b_is q.
    let w : words ≡ IsName i.0 ∷ IsMark mark.In ∷ IsNumber 0 ∷ IsMark mark.Range ∷ IsName n.0 ∷ IsMark mark.OpenBrace ∷ inside = name-is words i i_is ∙ ap (λ (z : List TextToken). IsName i.0 ∷ z) (after-is mark.In i.1 from from_is ∙ ap (λ (z : List TextToken). IsMark mark.In ∷ z) (zero-is from range range_is ∙ ap (λ (z : List TextToken). IsNumber 0 ∷ z) (after-is mark.Range range end end_is ∙ ap (λ (z : List TextToken). IsMark mark.Range ∷ z) (name-is end n n_is ∙ ap (λ (z : List TextToken). IsName n.0 ∷ z) (after-is mark.OpenBrace n.1 inside inside_is))))) in
    subst (λ (z : PlainLoop × List TextToken). SpellsForLoop words z.0 z.1) (ok_is (record { index = i.0; bound = n.0; body = b.0 }, b.1) y q) (record { from = inside; front = w; inside = block_spells (length inside) true inside b b_is }))))))))

by_loop : (words : List TextToken) (y : Option PlainLoop × List TextToken) (o : Option (List TextToken)) → following mark.For words ≡ o → given {B = Read (Option PlainLoop)} o (λ rest. for_loop_at rest >>= (λ l. Ok (Some l.0, l.1))) (Ok (None, words)) ≡ Ok y → SpellsLoop words y.0 y.1
by_loop words y None p q = subst (λ (x : Option PlainLoop × List TextToken). SpellsLoop words x.0 x.1) (ok_is (None, words) y q) no_loop
by_loop words y (Some from) p q =
    let l = bind_ok (for_loop_at from) (λ l. Ok (Some l.0, l.1)) y q in
    let s = for_loop_spells from l.0 l.1 in
    let w : words ≡ IsMark mark.For ∷ IsName l.0.0.index ∷ IsMark mark.In ∷ IsNumber 0 ∷ IsMark mark.Range ∷ IsName l.0.0.bound ∷ IsMark mark.OpenBrace ∷ s.from = following-is mark.For words from p ∙ ap (λ (z : List TextToken). IsMark mark.For ∷ z) s.front in
    subst (λ (x : Option PlainLoop × List TextToken). SpellsLoop words x.0 x.1) (ok_is (Some l.0.0, l.0.1) y l.2) (subst (λ (z : List TextToken). SpellsLoop z (Some l.0.0) l.0.1) (sym w) (loop s.inside))

pub loop_spells : (words : List TextToken) (y : Option PlainLoop × List TextToken) → loop_at words ≡ Ok y → SpellsLoop words y.0 y.1
unfolding loop_at
loop_spells words y q = by_loop words y (following mark.For words) refl q

-- what stands between the parameters and the accumulators
pub data SpellsTail : List TextToken → Option Ty → List TextToken → Type 0 where
  no_type : {rest : List TextToken} → SpellsTail (IsMark mark.OpenBrace ∷ rest) None rest
  with_type : {t : Ty} {rest : List TextToken} → SpellsTail (IsMark mark.Arrow ∷ IsType t ∷ IsMark mark.OpenBrace ∷ rest) (Some t) rest

by_tail : (words : List TextToken) (y : Option Ty × List TextToken) (o : Option (List TextToken)) → following mark.OpenBrace words ≡ o → given {B = Read (Option Ty)} o (λ body. Ok (None, body)) (past mark.Arrow words >>= (λ from. type_at from >>= (λ t. past mark.OpenBrace t.1 >>= (λ body. Ok (Some t.0, body))))) ≡ Ok y → SpellsTail words y.0 y.1
by_tail words y (Some rest) p q = subst (λ (x : Option Ty × List TextToken). SpellsTail words x.0 x.1) (ok_is (None, rest) y q) (subst (λ (z : List TextToken). SpellsTail z None rest) (sym (following-is mark.OpenBrace words rest p)) no_type)
by_tail words y None p q =
    let from = bind_ok (past mark.Arrow words) (λ from. type_at from >>= (λ t. past mark.OpenBrace t.1 >>= (λ rest. Ok (Some t.0, rest)))) y q in
    let t = bind_ok (type_at from.0) (λ t. past mark.OpenBrace t.1 >>= (λ rest. Ok (Some t.0, rest))) y from.2 in
    let rest = bind_ok (past mark.OpenBrace t.0.1) (λ rest. Ok (Some t.0.0, rest)) y t.2 in
    let w : words ≡ IsMark mark.Arrow ∷ IsType t.0.0 ∷ IsMark mark.OpenBrace ∷ rest.0 = after-is mark.Arrow words from.0 from.1 ∙ ap (λ (z : List TextToken). IsMark mark.Arrow ∷ z) (type-is from.0 t.0 t.1 ∙ ap (λ (z : List TextToken). IsType t.0.0 ∷ z) (after-is mark.OpenBrace t.0.1 rest.0 rest.1)) in
    subst (λ (x : Option Ty × List TextToken). SpellsTail words x.0 x.1) (ok_is (Some t.0.0, rest.0) y rest.2) (subst (λ (z : List TextToken). SpellsTail z (Some t.0.0) rest.0) (sym w) with_type)

pub tail_spells : (words : List TextToken) (y : Option Ty × List TextToken) → tail_at words ≡ Ok y → SpellsTail words y.0 y.1
unfolding tail_at
tail_spells words y q = by_tail words y (following mark.OpenBrace words) refl q

-- what stands after the loop
pub data SpellsAnswer : Option Ty → List TextToken → Option Returned → List TextToken → Type 0 where
  no_answer : {rest : List TextToken} → SpellsAnswer None (IsMark mark.CloseBrace ∷ rest) None rest
  with_answer : {t : Ty} {e : Term} {from rest : List TextToken} → Spells 10 from e (IsMark mark.Semicolon ∷ IsMark mark.CloseBrace ∷ rest) → SpellsAnswer (Some t) (IsMark mark.Return ∷ from) (Some (record { type = t; value = e })) rest

pub answer_spells : (t : Option Ty) (words : List TextToken) (y : Option Returned × List TextToken) → answer_by t words ≡ Ok y → SpellsAnswer t words y.0 y.1
unfolding answer_by
answer_spells None words y q =
    let rest = bind_ok (past mark.CloseBrace words) (λ rest. Ok (None, rest)) y q in
    subst (λ (x : Option Returned × List TextToken). SpellsAnswer None words x.0 x.1) (ok_is (None, rest.0) y rest.2) (subst (λ (z : List TextToken). SpellsAnswer None z None rest.0) (sym (after-is mark.CloseBrace words rest.0 rest.1)) no_answer)
answer_spells (Some t) words y q =
    let from = bind_ok (past mark.Return words) (λ from. term_at mark.Semicolon from >>= (λ e. past mark.CloseBrace e.1 >>= (λ rest. Ok (Some (record { type = t; value = e.0 }), rest)))) y q in
    let e = bind_ok (term_at mark.Semicolon from.0) (λ e. past mark.CloseBrace e.1 >>= (λ rest. Ok (Some (record { type = t; value = e.0 }), rest))) y from.2 in
    let rest = bind_ok (past mark.CloseBrace e.0.1) (λ rest. Ok (Some (record { type = t; value = e.0.0 }), rest)) y e.2 in
    let value : Spells 10 from.0 e.0.0 (IsMark mark.Semicolon ∷ IsMark mark.CloseBrace ∷ rest.0) = until_spells 10 from.0 e.0.0 (IsMark mark.Semicolon ∷ e.0.1) (IsMark mark.Semicolon ∷ IsMark mark.CloseBrace ∷ rest.0) (ap (λ (z : List TextToken). IsMark mark.Semicolon ∷ z) (after-is mark.CloseBrace e.0.1 rest.0 rest.1)) (term_spells mark.Semicolon from.0 e.0 e.1) in
    let a : Returned = record { type = t; value = e.0.0 } in
    subst (λ (x : Option Returned × List TextToken). SpellsAnswer (Some t) words x.0 x.1) (ok_is (Some a, rest.0) y rest.2) (subst (λ (z : List TextToken). SpellsAnswer (Some t) z (Some a) rest.0) (sym (after-is mark.Return words from.0 from.1)) (with_answer value))

-- a kernel by its parts
kernel_of_parts : (x : List ℕ) (ps : List Parameter) (t : Option Ty) (vs : List Accumulator) (l : Option PlainLoop) (a : Option Returned) (from tail body next end : List TextToken) → SpellsParams from ps tail → SpellsTail tail t body → SpellsVars body vs next → SpellsLoop next l end → SpellsAnswer t end a [] → Tree (IsMark mark.Kernel ∷ IsName x ∷ IsMark mark.OpenParen ∷ from) (record { name = x; params = ps; vars = vs; for_loop = l; answer = a })
kernel_of_parts x ps None vs l a from tail body next end p no_type v s no_answer = procedure p v s
kernel_of_parts x ps (Some t) vs l a from tail body next end p with_type v s (with_answer e) = function p v s e

alone_is : {A : Type 0} (x : A) (words : List TextToken) (y : A) → alone x words ≡ Ok y → (x ≡ y) × (words ≡ [])
alone_is x [] y q = (ok_is x y q, refl)
alone_is x (w ∷ rest) y q = absurd (not_err (suc (length rest)) y q)

pub kernel_spells : (words : List TextToken) (k : Program) → kernel_at words ≡ Ok k → Tree words k
unfolding kernel_at
kernel_spells words k q =
    bind_then (past mark.Kernel words) _ k q (λ from from_is q.
    bind_then (name_at from) _ k q (λ x x_is q.
    bind_then (past mark.OpenParen x.1) _ k q (λ inside inside_is q.
    bind_then (params_at inside) _ k q (λ ps ps_is q.
    bind_then (tail_at ps.1) _ k q (λ t t_is q.
    bind_then (vars_at t.1) _ k q (λ vs vs_is q.
    bind_then (loop_at vs.1) _ k q (λ l l_is q.
    bind_then (answer_by t.0 l.1) _ k q (λ a a_is q.
    let g : Program = record { name = x.0; params = ps.0; vars = vs.0; for_loop = l.0; answer = a.0 } in
    let e = alone_is g a.1 k q in
    let w : words ≡ IsMark mark.Kernel ∷ IsName x.0 ∷ IsMark mark.OpenParen ∷ inside = after-is mark.Kernel words from from_is ∙ ap (λ (z : List TextToken). IsMark mark.Kernel ∷ z) (name-is from x x_is ∙ ap (λ (z : List TextToken). IsName x.0 ∷ z) (after-is mark.OpenParen x.1 inside inside_is)) in
    let end : SpellsAnswer t.0 l.1 a.0 [] = subst (λ (z : List TextToken). SpellsAnswer t.0 l.1 a.0 z) e.1 (answer_spells t.0 l.1 a a_is) in
    subst (λ (z : Program). Tree words z) e.0 (subst (λ (z : List TextToken). Tree z g) (sym w) (kernel_of_parts x.0 ps.0 t.0 vs.0 l.0 a.0 inside ps.1 t.1 vs.1 l.1 (params_spells inside ps ps_is) (tail_spells ps.1 t t_is) (vars_spells t.1 vs vs_is) (loop_spells vs.1 l l_is) end))))))))))

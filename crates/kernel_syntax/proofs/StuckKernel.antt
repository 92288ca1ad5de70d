-- Where reading a kernel stops, what was read is a front of one.
use Rattle.std.proofs.Common.{◌≡◌, ℕ, zero, suc, Bool, true, false, cond, List, [], ◌∷◌, length, Option, Some, None, Result, Ok, Err, refl, ap, subst, eqb}
use Rattle.kernel_tree.specs.declared.ops.Ty.{Ty}
use Rattle.kernel_tree.specs.declared.ast.Shape.{Shape}
use Rattle.kernel_tree.specs.declared.ast.Shape.TheVariants as shape
use Rattle.kernel_tree.specs.declared.mark.Mark.TheVariants as mark
use Rattle.kernel_tree.specs.TextToken.{TextToken, IsName, IsNumber, IsType, IsMark}
use Rattle.kernel_tree.specs.Plain.{Parameter, Accumulator, PlainLoop, Returned, Program}
use Rattle.kernel_tree.specs.Grammar.{SpellsParam, SpellsParams, SpellsVars, SpellsLoop, no_loop, loop, number_at}
use Rattle.kernel_tree.specs.Front.{ParamFronts, no_param, param_colon, param_shape, param_element, param_bracket, whole_param, SomeFronts, in_param, next_param, VarFronts, no_var_yet, var_name, var_colon, var_type, var_equals, var_value, next_var, LoopFronts, no_loop_yet, loop_name, loop_in, loop_zero, loop_range, loop_bound, loop_brace, loop_block, whole_block, BodyFronts, in_vars, in_loop, end_body, in_answer, at_brace, end_function, KernelFronts, no_kernel, kernel_name, kernel_paren, in_params, kernel_tail, kernel_type, kernel_brace, in_procedure, in_function}
use Rattle.expression_syntax.specs.Reading.{◌>>=◌, given, following, past, name_at, type_at}
use Rattle.kernel_syntax.specs.Statements.{term_at, block_at}
use Rattle.kernel_syntax.specs.Headers.{Read, shape_at, param_at, some_at, params_at, var_at, vars_by, vars_at, zero_at, for_loop_at, loop_at, tail_at, answer_by, alone, kernel_at}
use Rattle.expression_syntax.proofs.Sound.{after-is, type-is}
use Rattle.kernel_syntax.proofs.ActionSound.{term_spells}
use Rattle.kernel_syntax.proofs.KernelSound.{param_spells, params_spells, var_spells, vars_spells, zero-is, loop_spells, SpellsTail, no_type, with_type, tail_spells, SpellsAnswer, no_answer, with_answer, answer_spells}
use Rattle.expression_syntax.proofs.Stuck.{Stuck, err_is, ok_not_err, stuck_bind, stuck_from, after-stops, name-stops, type-stops}
use Rattle.kernel_syntax.proofs.StuckActions.{past_mark, past_following, past_name, past_type, term_stops, block_stops}

-- ---- parameters

by_shape : (x : List ℕ) (words : List TextToken) (n : ℕ) (o : Option (List TextToken)) → following mark.OpenBracket words ≡ o → given {B = Read Shape} o (λ from. type_at from >>= (λ t. past mark.CloseBracket t.1 >>= (λ rest. Ok (shape.Array t.0, rest)))) (type_at words >>= (λ t. Ok (shape.Scalar t.0, t.1))) ≡ Err n → Stuck ParamFronts (IsName x ∷ IsMark mark.Colon ∷ words) n
by_shape x words n None p q =
    stuck_bind (type_at words) (λ t. Ok (shape.Scalar t.0, t.1)) n q
    (λ f. record { bad = words; front = param_shape; place = type-stops words n f })
    (λ t r f. absurd (ok_not_err (shape.Scalar t.0, t.1) n f))
by_shape x words n (Some from) p q =
    past_following ParamFronts (λ z. IsName x ∷ IsMark mark.Colon ∷ z) mark.OpenBracket words from n p
    (stuck_bind (type_at from) (λ t. past mark.CloseBracket t.1 >>= (λ rest. Ok (shape.Array t.0, rest))) n q
    (λ f. record { bad = from; front = param_element; place = type-stops from n f })
    (λ t r f. past_type ParamFronts (λ z. IsName x ∷ IsMark mark.Colon ∷ IsMark mark.OpenBracket ∷ z) from t n r
    (stuck_bind (past mark.CloseBracket t.1) (λ rest. Ok (shape.Array t.0, rest)) n f
    (λ g. record { bad = t.1; front = param_bracket; place = after-stops mark.CloseBracket t.1 n g })
    (λ rest s g. absurd (ok_not_err (shape.Array t.0, rest) n g)))))

shape_stops : (x : List ℕ) (words : List TextToken) (n : ℕ) → shape_at words ≡ Err n → Stuck ParamFronts (IsName x ∷ IsMark mark.Colon ∷ words) n
unfolding shape_at
shape_stops x words n q = by_shape x words n (following mark.OpenBracket words) refl q

param_stops : (words : List TextToken) (n : ℕ) → param_at words ≡ Err n → Stuck ParamFronts words n
unfolding param_at
param_stops words n q =
    stuck_bind (name_at words) (λ x. past mark.Colon x.1 >>= (λ from. shape_at from >>= (λ s. Ok (record { name = x.0; shape = s.0 }, s.1)))) n q
    (λ f. record { bad = words; front = no_param; place = name-stops words n f })
    (λ x r f. past_name ParamFronts (λ z. z) words x n r
    (stuck_bind (past mark.Colon x.1) (λ from. shape_at from >>= (λ s. Ok (record { name = x.0; shape = s.0 }, s.1))) n f
    (λ g. record { bad = x.1; front = param_colon; place = after-stops mark.Colon x.1 n g })
    (λ from t g. past_mark ParamFronts (λ z. IsName x.0 ∷ z) mark.Colon x.1 from n t
    (stuck_bind (shape_at from) (λ s. Ok (record { name = x.0; shape = s.0 }, s.1)) n g
    (λ h. shape_stops x.0 from n h)
    (λ s u h. absurd (ok_not_err (record { name = x.0; shape = s.0 }, s.1) n h))))))

others_stop : (others : ℕ) (words : List TextToken) (p : Parameter × List TextToken) (n : ℕ) → SpellsParam words p.0 p.1 → length p.1 ≡ n → Stuck (SomeFronts others) words n
others_stop others words p n h e = record { bad = p.1; front = in_param (whole_param h); place = e }

by_last : (words : List TextToken) (p : Parameter × List TextToken) (n : ℕ) → SpellsParam words p.0 p.1 → (o : Option (List TextToken)) → given {B = Read (List Parameter)} o (λ rest. Ok (p.0 ∷ [], rest)) (Err (length p.1)) ≡ Err n → Stuck (SomeFronts 0) words n
by_last words p n h None q = others_stop 0 words p n h (err_is (length p.1) n q)
by_last words p n h (Some next) q = absurd (ok_not_err (p.0 ∷ [], next) n q)

by_more : (others : ℕ) → ((next : List TextToken) (n : ℕ) → some_at others next ≡ Err n → Stuck (SomeFronts others) next n) → (words : List TextToken) (p : Parameter × List TextToken) (n : ℕ) → SpellsParam words p.0 p.1 → (o : Option (List TextToken)) → given {B = Read (List Parameter)} o (λ rest. Ok (p.0 ∷ [], rest)) (past mark.Comma p.1 >>= (λ next. some_at others next >>= (λ ps. Ok (p.0 ∷ ps.0, ps.1)))) ≡ Err n → Stuck (SomeFronts (suc others)) words n
by_more others again words p n h (Some next) q = absurd (ok_not_err (p.0 ∷ [], next) n q)
by_more others again words p n h None q =
    stuck_bind (past mark.Comma p.1) (λ next. some_at others next >>= (λ ps. Ok (p.0 ∷ ps.0, ps.1))) n q
    (λ f. others_stop (suc others) words p n h (after-stops mark.Comma p.1 n f))
    (λ next r f. stuck_bind (some_at others next) (λ ps. Ok (p.0 ∷ ps.0, ps.1)) n f
    (λ g. let s = again next n g in record { bad = s.bad; front = next_param (subst (λ (z : List TextToken). SpellsParam words p.0 z) (after-is mark.Comma p.1 next r) h) s.front; place = s.place })
    (λ ps t g. absurd (ok_not_err (p.0 ∷ ps.0, ps.1) n g)))

in_first : (others : ℕ) (words : List TextToken) (n : ℕ) → param_at words ≡ Err n → Stuck (SomeFronts others) words n
in_first others words n q = let s = param_stops words n q in record { bad = s.bad; front = in_param s.front; place = s.place }

some_stops : (others : ℕ) (words : List TextToken) (n : ℕ) → some_at others words ≡ Err n → Stuck (SomeFronts others) words n
unfolding some_at
some_stops zero words n q =
    stuck_bind (param_at words) (λ p. given {B = Read (List Parameter)} (following mark.CloseParen p.1) (λ rest. Ok (p.0 ∷ [], rest)) (Err (length p.1))) n q
    (in_first 0 words n)
    (λ p r f. by_last words p n (param_spells words p r) (following mark.CloseParen p.1) f)
some_stops (suc others) words n q =
    stuck_bind (param_at words) (λ p. given {B = Read (List Parameter)} (following mark.CloseParen p.1) (λ rest. Ok (p.0 ∷ [], rest)) (past mark.Comma p.1 >>= (λ next. some_at others next >>= (λ ps. Ok (p.0 ∷ ps.0, ps.1))))) n q
    (in_first (suc others) words n)
    (λ p r f. by_more others (some_stops others) words p n (param_spells words p r) (following mark.CloseParen p.1) f)

by_params : (words : List TextToken) (n : ℕ) (o : Option (List TextToken)) → given {B = Read (List Parameter)} o (λ rest. Ok ([], rest)) (some_at 7 words) ≡ Err n → Stuck (SomeFronts 7) words n
by_params words n None q = some_stops 7 words n q
by_params words n (Some rest) q = absurd (ok_not_err ([], rest) n q)

params_stop : (words : List TextToken) (n : ℕ) → params_at words ≡ Err n → Stuck (SomeFronts 7) words n
unfolding params_at
params_stop words n q = by_params words n (following mark.CloseParen words) q

-- ---- accumulators

var_stops : (words : List TextToken) (n : ℕ) → var_at words ≡ Err n → Stuck VarFronts (IsMark mark.Var ∷ words) n
unfolding var_at
var_stops words n q =
    stuck_bind (name_at words) (λ x. past mark.Colon x.1 >>= (λ from. type_at from >>= (λ t. past mark.Equals t.1 >>= (λ next. term_at mark.Semicolon next >>= (λ e. Ok (record { name = x.0; type = t.0; init = e.0 }, e.1)))))) n q
    (λ f. record { bad = words; front = var_name; place = name-stops words n f })
    (λ x r f. past_name VarFronts (λ z. IsMark mark.Var ∷ z) words x n r
    (stuck_bind (past mark.Colon x.1) (λ from. type_at from >>= (λ t. past mark.Equals t.1 >>= (λ next. term_at mark.Semicolon next >>= (λ e. Ok (record { name = x.0; type = t.0; init = e.0 }, e.1))))) n f
    (λ g. record { bad = x.1; front = var_colon; place = after-stops mark.Colon x.1 n g })
    (λ from s g. past_mark VarFronts (λ z. IsMark mark.Var ∷ IsName x.0 ∷ z) mark.Colon x.1 from n s
    (stuck_bind (type_at from) (λ t. past mark.Equals t.1 >>= (λ next. term_at mark.Semicolon next >>= (λ e. Ok (record { name = x.0; type = t.0; init = e.0 }, e.1)))) n g
    (λ h. record { bad = from; front = var_type; place = type-stops from n h })
    (λ t u h. past_type VarFronts (λ z. IsMark mark.Var ∷ IsName x.0 ∷ IsMark mark.Colon ∷ z) from t n u
    (stuck_bind (past mark.Equals t.1) (λ next. term_at mark.Semicolon next >>= (λ e. Ok (record { name = x.0; type = t.0; init = e.0 }, e.1))) n h
    (λ i. record { bad = t.1; front = var_equals; place = after-stops mark.Equals t.1 n i })
    (λ next v i. past_mark VarFronts (λ z. IsMark mark.Var ∷ IsName x.0 ∷ IsMark mark.Colon ∷ IsType t.0 ∷ z) mark.Equals t.1 next n v
    (stuck_bind (term_at mark.Semicolon next) (λ e. Ok (record { name = x.0; type = t.0; init = e.0 }, e.1)) n i
    (λ j. let s = term_stops mark.Semicolon next n j in record { bad = s.bad; front = var_value s.front; place = s.place })
    (λ e w j. absurd (ok_not_err (record { name = x.0; type = t.0; init = e.0 }, e.1) n j))))))))))

by_vars : (k : ℕ) → ((next : List TextToken) (n : ℕ) → vars_by k next ≡ Err n → Stuck VarFronts next n) → (words : List TextToken) (n : ℕ) (o : Option (List TextToken)) → following mark.Var words ≡ o → given {B = Read (List Accumulator)} o (λ rest. var_at rest >>= (λ v. vars_by k v.1 >>= (λ vs. Ok (v.0 ∷ vs.0, vs.1)))) (Ok ([], words)) ≡ Err n → Stuck VarFronts words n
by_vars k again words n None p q = absurd (ok_not_err ([], words) n q)
by_vars k again words n (Some from) p q =
    past_following VarFronts (λ z. z) mark.Var words from n p
    (stuck_bind (var_at from) (λ v. vars_by k v.1 >>= (λ vs. Ok (v.0 ∷ vs.0, vs.1))) n q
    (var_stops from n)
    (λ v r f. let s = var_spells from v r in
    stuck_bind (vars_by k v.1) (λ vs. Ok (v.0 ∷ vs.0, vs.1)) n f
    (λ g. let t = again v.1 n g in stuck_from VarFronts _ _ n (ap (λ (z : List TextToken). IsMark mark.Var ∷ z) s.front) (record { bad = t.bad; front = next_var s.value t.front; place = t.place }))
    (λ vs t g. absurd (ok_not_err (v.0 ∷ vs.0, vs.1) n g))))

vars_by_stop : (k : ℕ) (words : List TextToken) (n : ℕ) → vars_by k words ≡ Err n → Stuck VarFronts words n
unfolding vars_by
vars_by_stop zero words n q = record { bad = words; front = no_var_yet; place = err_is (length words) n q }
vars_by_stop (suc k) words n q = by_vars k (vars_by_stop k) words n (following mark.Var words) refl q

vars_stop : (words : List TextToken) (n : ℕ) → vars_at words ≡ Err n → Stuck VarFronts words n
unfolding vars_at
vars_stop words n q = vars_by_stop (suc (length words)) words n q

-- ---- the loop

by_zero : (words : List TextToken) (n : ℕ) (o : Option (ℕ × List TextToken)) → given {B = Result (List TextToken) ℕ} o (λ x. cond (eqb x.0 0) (Ok x.1) (Err (length words))) (Err (length words)) ≡ Err n → length words ≡ n
by_zero words n None q = err_is (length words) n q
by_zero words n (Some x) q = by_test (eqb x.0 0) q
  where
    by_test : (t : Bool) → ◌≡◌ {A = Result (List TextToken) ℕ} (cond t (Ok x.1) (Err (length words))) (Err n) → length words ≡ n
    by_test true r = absurd (ok_not_err x.1 n r)
    by_test false r = err_is (length words) n r

pub zero-stops : (words : List TextToken) (n : ℕ) → zero_at words ≡ Err n → length words ≡ n
unfolding zero_at
zero-stops words n q = by_zero words n (number_at words) q

past_zero : (before : List TextToken → List TextToken) (words from : List TextToken) (n : ℕ) → zero_at words ≡ Ok from → Stuck LoopFronts (before (IsNumber 0 ∷ from)) n → Stuck LoopFronts (before words) n
past_zero before words from n p h = stuck_from LoopFronts _ _ n (ap before (zero-is words from p)) h

bound_stops : (i : List ℕ) (end : List TextToken) (n : ℕ) → ◌≡◌ {A = Read PlainLoop} (name_at end >>= (λ n. past mark.OpenBrace n.1 >>= (λ inside. block_at true (length inside) inside >>= (λ b. Ok (record { index = i; bound = n.0; body = b.0 }, b.1))))) (Err n) → Stuck LoopFronts (IsMark mark.For ∷ IsName i ∷ IsMark mark.In ∷ IsNumber 0 ∷ IsMark mark.Range ∷ end) n
bound_stops i end n q =
    stuck_bind (name_at end) (λ n. past mark.OpenBrace n.1 >>= (λ inside. block_at true (length inside) inside >>= (λ b. Ok (record { index = i; bound = n.0; body = b.0 }, b.1)))) n q
    (λ f. record { bad = end; front = loop_bound; place = name-stops end n f })
    (λ x r f. past_name LoopFronts (λ z. IsMark mark.For ∷ IsName i ∷ IsMark mark.In ∷ IsNumber 0 ∷ IsMark mark.Range ∷ z) end x n r
    (stuck_bind (past mark.OpenBrace x.1) (λ inside. block_at true (length inside) inside >>= (λ b. Ok (record { index = i; bound = x.0; body = b.0 }, b.1))) n f
    (λ g. record { bad = x.1; front = loop_brace; place = after-stops mark.OpenBrace x.1 n g })
    (λ inside s g. past_mark LoopFronts (λ z. IsMark mark.For ∷ IsName i ∷ IsMark mark.In ∷ IsNumber 0 ∷ IsMark mark.Range ∷ IsName x.0 ∷ z) mark.OpenBrace x.1 inside n s
    (stuck_bind (block_at true (length inside) inside) (λ b. Ok (record { index = i; bound = x.0; body = b.0 }, b.1)) n g
    (λ h. let t = block_stops (length inside) true inside n h in record { bad = t.bad; front = loop_block t.front; place = t.place })
    (λ b t h. absurd (ok_not_err (record { index = i; bound = x.0; body = b.0 }, b.1) n h))))))

for_loop_stops : (words : List TextToken) (n : ℕ) → for_loop_at words ≡ Err n → Stuck LoopFronts (IsMark mark.For ∷ words) n
unfolding for_loop_at
for_loop_stops words n q =
    stuck_bind (name_at words) (λ i. past mark.In i.1 >>= (λ from. zero_at from >>= (λ range. past mark.Range range >>= (λ end. name_at end >>= (λ n. past mark.OpenBrace n.1 >>= (λ inside. block_at true (length inside) inside >>= (λ b. Ok (record { index = i.0; bound = n.0; body = b.0 }, b.1)))))))) n q
    (λ f. record { bad = words; front = loop_name; place = name-stops words n f })
    (λ i r f. past_name LoopFronts (λ z. IsMark mark.For ∷ z) words i n r
    (stuck_bind (past mark.In i.1) (λ from. zero_at from >>= (λ range. past mark.Range range >>= (λ end. name_at end >>= (λ n. past mark.OpenBrace n.1 >>= (λ inside. block_at true (length inside) inside >>= (λ b. Ok (record { index = i.0; bound = n.0; body = b.0 }, b.1))))))) n f
    (λ g. record { bad = i.1; front = loop_in; place = after-stops mark.In i.1 n g })
    (λ from s g. past_mark LoopFronts (λ z. IsMark mark.For ∷ IsName i.0 ∷ z) mark.In i.1 from n s
    (stuck_bind (zero_at from) (λ range. past mark.Range range >>= (λ end. name_at end >>= (λ n. past mark.OpenBrace n.1 >>= (λ inside. block_at true (length inside) inside >>= (λ b. Ok (record { index = i.0; bound = n.0; body = b.0 }, b.1)))))) n g
    (λ h. record { bad = from; front = loop_zero; place = zero-stops from n h })
    (λ range t h. past_zero (λ z. IsMark mark.For ∷ IsName i.0 ∷ IsMark mark.In ∷ z) from range n t
    (stuck_bind (past mark.Range range) (λ end. name_at end >>= (λ n. past mark.OpenBrace n.1 >>= (λ inside. block_at true (length inside) inside >>= (λ b. Ok (record { index = i.0; bound = n.0; body = b.0 }, b.1))))) n h
    (λ j. record { bad = range; front = loop_range; place = after-stops mark.Range range n j })
    (λ end u j. past_mark LoopFronts (λ z. IsMark mark.For ∷ IsName i.0 ∷ IsMark mark.In ∷ IsNumber 0 ∷ z) mark.Range range end n u (bound_stops i.0 end n j))))))))

by_loop : (words : List TextToken) (n : ℕ) (o : Option (List TextToken)) → following mark.For words ≡ o → given {B = Read (Option PlainLoop)} o (λ rest. for_loop_at rest >>= (λ l. Ok (Some l.0, l.1))) (Ok (None, words)) ≡ Err n → Stuck LoopFronts words n
by_loop words n None p q = absurd (ok_not_err (None, words) n q)
by_loop words n (Some from) p q =
    past_following LoopFronts (λ z. z) mark.For words from n p
    (stuck_bind (for_loop_at from) (λ l. Ok (Some l.0, l.1)) n q
    (for_loop_stops from n)
    (λ l r f. absurd (ok_not_err (Some l.0, l.1) n f)))

loop_stops : (words : List TextToken) (n : ℕ) → loop_at words ≡ Err n → Stuck LoopFronts words n
unfolding loop_at
loop_stops words n q = by_loop words n (following mark.For words) refl q

-- ---- the kernel

abbrev pub returns : Option Ty → Bool
returns None = false
returns (Some t) = true

module _ (x : List ℕ) (ps : List Parameter) (from : List TextToken) where
  by_tail : (words : List TextToken) (n : ℕ) → SpellsParams from ps words → (o : Option (List TextToken)) → given {B = Read (Option Ty)} o (λ body. Ok (None, body)) (past mark.Arrow words >>= (λ from. type_at from >>= (λ t. past mark.OpenBrace t.1 >>= (λ body. Ok (Some t.0, body))))) ≡ Err n → Stuck KernelFronts (IsMark mark.Kernel ∷ IsName x ∷ IsMark mark.OpenParen ∷ from) n
  by_tail words n d (Some rest) q = absurd (ok_not_err (None, rest) n q)
  by_tail words n d None q =
      stuck_bind (past mark.Arrow words) (λ to. type_at to >>= (λ t. past mark.OpenBrace t.1 >>= (λ body. Ok (Some t.0, body)))) n q
      (λ f. record { bad = words; front = kernel_tail d; place = after-stops mark.Arrow words n f })
      (λ to r f. let arrow = subst (λ (z : List TextToken). SpellsParams from ps z) (after-is mark.Arrow words to r) d in
      stuck_bind (type_at to) (λ t. past mark.OpenBrace t.1 >>= (λ body. Ok (Some t.0, body))) n f
      (λ g. record { bad = to; front = kernel_type arrow; place = type-stops to n g })
      (λ t s g. stuck_bind (past mark.OpenBrace t.1) (λ body. Ok (Some t.0, body)) n g
      (λ h. record { bad = t.1; front = kernel_brace (subst (λ (z : List TextToken). SpellsParams from ps (IsMark mark.Arrow ∷ z)) (type-is to t s) arrow); place = after-stops mark.OpenBrace t.1 n h })
      (λ body u h. absurd (ok_not_err (Some t.0, body) n h))))

  tail_stops : (words : List TextToken) (n : ℕ) → SpellsParams from ps words → tail_at words ≡ Err n → Stuck KernelFronts (IsMark mark.Kernel ∷ IsName x ∷ IsMark mark.OpenParen ∷ from) n
  unfolding tail_at
  tail_stops words n d q = by_tail words n d (following mark.OpenBrace words) q

  in_body : (words body : List TextToken) (t : Option Ty) (n : ℕ) → SpellsParams from ps words → SpellsTail words t body → Stuck (BodyFronts (returns t)) body n → Stuck KernelFronts (IsMark mark.Kernel ∷ IsName x ∷ IsMark mark.OpenParen ∷ from) n
  in_body words body None n d no_type s = record { bad = s.bad; front = in_procedure d s.front; place = s.place }
  in_body words body (Some t) n d with_type s = record { bad = s.bad; front = in_function d s.front; place = s.place }

loop_fronts : (words rest : List TextToken) (l : Option PlainLoop) → SpellsLoop words l rest → LoopFronts words rest
loop_fronts words rest l no_loop = no_loop_yet
loop_fronts words rest l (loop d) = loop_block (whole_block d)

module _ (body : List TextToken) (vs : List Accumulator) (next : List TextToken) (v : SpellsVars body vs next) where
  answer_stops : (t : Option Ty) (l : Option PlainLoop) (words : List TextToken) (n : ℕ) → SpellsLoop next l words → answer_by t words ≡ Err n → Stuck (BodyFronts (returns t)) body n
  unfolding answer_by
  answer_stops None l words n d q =
      stuck_bind (past mark.CloseBrace words) (λ rest. Ok (None, rest)) n q
      (λ f. record { bad = words; front = in_loop v (loop_fronts next words l d); place = after-stops mark.CloseBrace words n f })
      (λ rest r f. absurd (ok_not_err (None, rest) n f))
  answer_stops (Some t) l words n d q =
      stuck_bind (past mark.Return words) (λ from. term_at mark.Semicolon from >>= (λ e. past mark.CloseBrace e.1 >>= (λ rest. Ok (Some (record { type = t; value = e.0 }), rest)))) n q
      (λ f. record { bad = words; front = in_loop v (loop_fronts next words l d); place = after-stops mark.Return words n f })
      (λ from r f. let back = subst (λ (z : List TextToken). SpellsLoop next l z) (after-is mark.Return words from r) d in
      stuck_bind (term_at mark.Semicolon from) (λ e. past mark.CloseBrace e.1 >>= (λ rest. Ok (Some (record { type = t; value = e.0 }), rest))) n f
      (λ g. let s = term_stops mark.Semicolon from n g in record { bad = s.bad; front = in_answer v back s.front; place = s.place })
      (λ e s g. stuck_bind (past mark.CloseBrace e.1) (λ rest. Ok (Some (record { type = t; value = e.0 }), rest)) n g
      (λ h. record { bad = e.1; front = at_brace v back (term_spells mark.Semicolon from e s); place = after-stops mark.CloseBrace e.1 n h })
      (λ rest u h. absurd (ok_not_err (Some (record { type = t; value = e.0 }), rest) n h))))

  end_stops : (t : Option Ty) (l : Option PlainLoop) (a : Option Returned) (words rest : List TextToken) (k : Program) (n : ℕ) → SpellsLoop next l words → SpellsAnswer t words a rest → alone k rest ≡ Err n → Stuck (BodyFronts (returns t)) body n
  end_stops t l a words [] k n d s q = absurd (ok_not_err k n q)
  end_stops None l a words (w ∷ rest) k n d no_answer q = record { bad = w ∷ rest; front = end_body v d; place = err_is (suc (length rest)) n q }
  end_stops (Some t) l a words (w ∷ rest) k n d (with_answer e) q = record { bad = w ∷ rest; front = end_function v d e; place = err_is (suc (length rest)) n q }

  loop_part : (x : List ℕ) (ps : List Parameter) (t : Option Ty) (n : ℕ) → ◌≡◌ {A = Result Program ℕ} (loop_at next >>= (λ l. answer_by t l.1 >>= (λ a. alone (record { name = x; params = ps; vars = vs; for_loop = l.0; answer = a.0 }) a.1))) (Err n) → Stuck (BodyFronts (returns t)) body n
  loop_part x ps t n q =
      stuck_bind (loop_at next) (λ l. answer_by t l.1 >>= (λ a. alone (record { name = x; params = ps; vars = vs; for_loop = l.0; answer = a.0 }) a.1)) n q
      (λ f. let s = loop_stops next n f in record { bad = s.bad; front = in_loop v s.front; place = s.place })
      (λ l r f. let d = loop_spells next l r in
      stuck_bind (answer_by t l.1) (λ a. alone (record { name = x; params = ps; vars = vs; for_loop = l.0; answer = a.0 }) a.1) n f
      (λ g. answer_stops t l.0 l.1 n d g)
      (λ a s g. end_stops t l.0 a.0 l.1 a.1 (record { name = x; params = ps; vars = vs; for_loop = l.0; answer = a.0 }) n d (answer_spells t l.1 a s) g))

vars_part : (x : List ℕ) (ps : List Parameter) (t : Option Ty) (body : List TextToken) (n : ℕ) → ◌≡◌ {A = Result Program ℕ} (vars_at body >>= (λ vs. loop_at vs.1 >>= (λ l. answer_by t l.1 >>= (λ a. alone (record { name = x; params = ps; vars = vs.0; for_loop = l.0; answer = a.0 }) a.1)))) (Err n) → Stuck (BodyFronts (returns t)) body n
vars_part x ps t body n q =
    stuck_bind (vars_at body) (λ vs. loop_at vs.1 >>= (λ l. answer_by t l.1 >>= (λ a. alone (record { name = x; params = ps; vars = vs.0; for_loop = l.0; answer = a.0 }) a.1))) n q
    (λ f. let s = vars_stop body n f in record { bad = s.bad; front = in_vars s.front; place = s.place })
    (λ vs r f. loop_part body vs.0 vs.1 (vars_spells body vs r) x ps t n f)

params_part : (x : List ℕ) (inside : List TextToken) (n : ℕ) → ◌≡◌ {A = Result Program ℕ} (params_at inside >>= (λ ps. tail_at ps.1 >>= (λ t. vars_at t.1 >>= (λ vs. loop_at vs.1 >>= (λ l. answer_by t.0 l.1 >>= (λ a. alone (record { name = x; params = ps.0; vars = vs.0; for_loop = l.0; answer = a.0 }) a.1)))))) (Err n) → Stuck KernelFronts (IsMark mark.Kernel ∷ IsName x ∷ IsMark mark.OpenParen ∷ inside) n
params_part x inside n q =
    stuck_bind (params_at inside) (λ ps. tail_at ps.1 >>= (λ t. vars_at t.1 >>= (λ vs. loop_at vs.1 >>= (λ l. answer_by t.0 l.1 >>= (λ a. alone (record { name = x; params = ps.0; vars = vs.0; for_loop = l.0; answer = a.0 }) a.1))))) n q
    (λ f. let s = params_stop inside n f in record { bad = s.bad; front = in_params s.front; place = s.place })
    (λ ps r f. let d = params_spells inside ps r in
    stuck_bind (tail_at ps.1) (λ t. vars_at t.1 >>= (λ vs. loop_at vs.1 >>= (λ l. answer_by t.0 l.1 >>= (λ a. alone (record { name = x; params = ps.0; vars = vs.0; for_loop = l.0; answer = a.0 }) a.1)))) n f
    (λ g. tail_stops x ps.0 inside ps.1 n d g)
    (λ t s g. in_body x ps.0 inside ps.1 t.1 t.0 n d (tail_spells ps.1 t s) (vars_part x ps.0 t.0 t.1 n g)))

-- where reading a kernel stops, a front of one was read
pub kernel_stops : (words : List TextToken) (n : ℕ) → kernel_at words ≡ Err n → Stuck KernelFronts words n
unfolding kernel_at
kernel_stops words n q =
    stuck_bind (past mark.Kernel words) (λ from. name_at from >>= (λ x. past mark.OpenParen x.1 >>= (λ inside. params_at inside >>= (λ ps. tail_at ps.1 >>= (λ t. vars_at t.1 >>= (λ vs. loop_at vs.1 >>= (λ l. answer_by t.0 l.1 >>= (λ a. alone (record { name = x.0; params = ps.0; vars = vs.0; for_loop = l.0; answer = a.0 }) a.1)))))))) n q
    (λ f. record { bad = words; front = no_kernel; place = after-stops mark.Kernel words n f })
    (λ from r f. past_mark KernelFronts (λ z. z) mark.Kernel words from n r
    (stuck_bind (name_at from) (λ x. past mark.OpenParen x.1 >>= (λ inside. params_at inside >>= (λ ps. tail_at ps.1 >>= (λ t. vars_at t.1 >>= (λ vs. loop_at vs.1 >>= (λ l. answer_by t.0 l.1 >>= (λ a. alone (record { name = x.0; params = ps.0; vars = vs.0; for_loop = l.0; answer = a.0 }) a.1))))))) n f
    (λ g. record { bad = from; front = kernel_name; place = name-stops from n g })
    (λ x s g. past_name KernelFronts (λ z. IsMark mark.Kernel ∷ z) from x n s
    (stuck_bind (past mark.OpenParen x.1) (λ inside. params_at inside >>= (λ ps. tail_at ps.1 >>= (λ t. vars_at t.1 >>= (λ vs. loop_at vs.1 >>= (λ l. answer_by t.0 l.1 >>= (λ a. alone (record { name = x.0; params = ps.0; vars = vs.0; for_loop = l.0; answer = a.0 }) a.1)))))) n g
    (λ h. record { bad = x.1; front = kernel_paren; place = after-stops mark.OpenParen x.1 n h })
    (λ inside t h. past_mark KernelFronts (λ z. IsMark mark.Kernel ∷ IsName x.0 ∷ z) mark.OpenParen x.1 inside n t (params_part x.0 inside n h))))))

-- Reading a kernel goes on at least to the end of each front of one.
use Rattle.std.proofs.Common.{◌≡◌, ℕ, zero, suc, ◌<◌, ◌≤◌, Bool, true, false, List, [], ◌∷◌, length, Option, Some, None, Result, Ok, Err, refl, sym, ap, subst, arith}
use Rattle.kernel_tree.specs.declared.ops.Ty.{Ty}
use Rattle.kernel_tree.specs.declared.ast.Shape.TheVariants as shape
use Rattle.kernel_tree.specs.declared.mark.Mark.TheVariants as mark
use Rattle.kernel_tree.specs.TextToken.{TextToken, IsName, IsNumber, IsType, IsMark}
use Rattle.kernel_tree.specs.Plain.{Term, Parameter, Accumulator, PlainLoop, Program}
use Rattle.kernel_tree.specs.Grammar.{Spells, SpellsParams, SpellsVars, no_var, var, SpellsLoop}
use Rattle.kernel_tree.specs.Front.{ParamFronts, no_param, param_colon, param_shape, param_element, param_bracket, whole_param, SomeFronts, in_param, next_param, VarFronts, no_var_yet, var_name, var_colon, var_type, var_equals, var_value, var_end, next_var, LoopFronts, no_loop_yet, loop_name, loop_in, loop_zero, loop_range, loop_bound, loop_brace, loop_block, BlockFronts, BodyFronts, in_vars, in_loop, end_body, in_answer, end_answer, at_brace, end_function, KernelFronts, no_kernel, kernel_name, kernel_paren, in_params, kernel_tail, kernel_type, kernel_brace, in_procedure, in_function}
use Rattle.kernel_tree.proofs.OneTerm.{shorter}
use Rattle.expression_syntax.specs.Reading.{◌>>=◌, given, following, past, name_at, type_at}
use Rattle.kernel_syntax.specs.Statements.{term_at}
use Rattle.kernel_syntax.specs.Headers.{Read, shape_at, param_at, some_at, params_at, var_at, vars_by, vars_at, zero_at, for_loop_at, loop_at, tail_at, answer_by, kernel_at}
use Rattle.expression_syntax.proofs.Sound.{following-is}
use Rattle.kernel_syntax.proofs.KernelComplete.{semicolon_reads, param_reads, params_reads, vars_reads, loop_reads, ends_vars}
use Rattle.kernel_syntax.proofs.StuckKernel.{returns}
use Rattle.expression_syntax.proofs.Within.{Passes, passes_bind, passes_one, passes_is, passes_same, after_passes, type_passes}
use Rattle.kernel_syntax.proofs.WithinKernel.{array_passes, shaped, shape_passes, shape_goes, colon_passes, param_goes, some_passes, initial, value_passes, equals_passes, type_passes_on, named_passes, var_goes, var_passes, vars_by_go, inside_passes, bound_passes, end_passes, range_passes, zero_of_passes, index_passes, for_loop_goes, loop_goes, opened, type_opens, returned, close_passes, return_passes, PassesEnd, ends_bind, by_answer, by_for_loop, by_vars, by_tail, by_params, by_inside, answer_ends, for_loop_ends, vars_end, tail_ends, params_end, name_ends, kernel_ends, whole_ends}
use Rattle.kernel_syntax.proofs.ReachActions.{passes_more, term_spelled, term_front, block_front_reaches}

ends_same : {A : Type 0} (r s : Result A ℕ) (n : ℕ) → r ≡ s → PassesEnd s n → PassesEnd r n
ends_same {A = A} r s n e h = subst (λ (z : Result A ℕ). PassesEnd z n) (sym e) h

-- ---- parameters

param_reaches : {words bad : List TextToken} → ParamFronts words bad → Passes (param_at words) (length bad)
unfolding param_at name_at past following shape_at type_at
param_reaches (no_param {bad = bad}) = param_goes bad (length bad) (omega arith)
param_reaches (param_colon {x = x} {bad = bad}) = colon_passes x bad (length bad) (omega arith)
param_reaches (param_shape {x = x} {bad = bad}) = shape_passes x bad (length bad) (shape_goes bad (length bad) (omega arith))
param_reaches (param_element {x = x} {bad = bad}) = passes_bind (type_at bad >>= (λ t. past mark.CloseBracket t.1 >>= (λ rest. Ok (shape.Array t.0, rest)))) (shaped x) (length bad)
    (passes_bind (type_at bad) (λ t. past mark.CloseBracket t.1 >>= (λ rest. Ok (shape.Array t.0, rest))) (length bad) (type_passes bad (length bad) (omega arith)) (array_passes (length bad))) (λ s k. k)
param_reaches (param_bracket {x = x} {t = t} {bad = bad}) = passes_bind (past mark.CloseBracket bad >>= (λ rest. Ok (shape.Array t, rest))) (shaped x) (length bad) (array_passes (length bad) (t, bad) (omega arith)) (λ s k. k)
param_reaches (whole_param {p = p} {from = from} {bad = bad} d) = passes_is (param_at from) (p, bad) (length bad) (param_reads from p bad d) (omega arith)

some_next : (others : ℕ) (words : List TextToken) (p : Parameter) (next : List TextToken) (n : ℕ) → param_at words ≡ Ok (p, IsMark mark.Comma ∷ next) → Passes (some_at others next) n → Passes (some_at (suc others) words) n
unfolding some_at past following
some_next others words p next n q h =
    passes_same _ _ n (ap (λ r. r >>= (λ p. given {B = Read (List Parameter)} (following mark.CloseParen p.1) (λ rest. Ok (p.0 ∷ [], rest)) (past mark.Comma p.1 >>= (λ next. some_at others next >>= (λ ps. Ok (p.0 ∷ ps.0, ps.1)))))) q)
    (passes_bind (some_at others next) (λ ps. Ok (p ∷ ps.0, ps.1)) n h (λ ps k. k))

some_reaches : {others : ℕ} {words bad : List TextToken} → SomeFronts others words bad → Passes (some_at others words) (length bad)
some_reaches (in_param {others = others} {from = from} {bad = bad} f) = some_passes others from (length bad) (param_reaches f)
some_reaches (next_param {others = others} {p = p} {from = from} {next = next} {bad = bad} d f) = some_next others from p next (length bad) (param_reads from p (IsMark mark.Comma ∷ next) d) (some_reaches f)

-- no parameter begins with a parenthesis
no_param_here : (others : ℕ) (rest : List TextToken) (n : ℕ) → Passes (some_at others (IsMark mark.CloseParen ∷ rest)) n → suc (length rest) ≤ n
unfolding some_at param_at name_at
no_param_here zero rest n p = p
no_param_here (suc others) rest n p = p

by_close : (words : List TextToken) (n : ℕ) → Passes (some_at 7 words) n → (o : Option (List TextToken)) → following mark.CloseParen words ≡ o → Passes (given {B = Read (List Parameter)} o (λ rest. Ok ([], rest)) (some_at 7 words)) n
by_close words n p None e = p
by_close words n p (Some rest) e = omega (arith, no_param_here 7 rest n (subst (λ (z : List TextToken). Passes (some_at 7 z) n) (following-is mark.CloseParen words rest e) p))

params_reach : {words bad : List TextToken} → SomeFronts 7 words bad → Passes (params_at words) (length bad)
unfolding params_at
params_reach {words = words} {bad = bad} f = by_close words (length bad) (some_reaches f) (following mark.CloseParen words) refl

-- ---- accumulators

var_first : (k : ℕ) (words : List TextToken) (n : ℕ) → Passes (var_at words) n → Passes (vars_by (suc k) (IsMark mark.Var ∷ words)) n
unfolding vars_by following
var_first k words n p = var_passes k words n p

var_then : (k : ℕ) (words : List TextToken) (v : Accumulator) (next : List TextToken) (n : ℕ) → var_at words ≡ Ok (v, next) → Passes (vars_by k next) n → Passes (vars_by (suc k) (IsMark mark.Var ∷ words)) n
unfolding vars_by following
var_then k words v next n q p =
    passes_same _ _ n (ap (λ r. r >>= (λ v. vars_by k v.1 >>= (λ vs. Ok (v.0 ∷ vs.0, vs.1)))) q)
    (passes_bind (vars_by k next) (λ vs. Ok (v ∷ vs.0, vs.1)) n p (λ vs j. j))

module _ (x : List ℕ) (n : ℕ) where
  var_named : (words : List TextToken) → length words ≤ n → Passes (var_at (IsName x ∷ words)) n
  unfolding var_at name_at type_at past following
  var_named words h = named_passes x words n h

  var_typed : (words : List TextToken) → length words ≤ n → Passes (var_at (IsName x ∷ IsMark mark.Colon ∷ words)) n
  unfolding var_at name_at type_at past following
  var_typed words h = type_passes_on x words n h

  var_equal : (t : Ty) (words : List TextToken) → length words ≤ n → Passes (var_at (IsName x ∷ IsMark mark.Colon ∷ IsType t ∷ words)) n
  unfolding var_at name_at type_at past following
  var_equal t words h = equals_passes x t words n h

  var_valued : (t : Ty) (words : List TextToken) → Passes (term_at mark.Semicolon words) n → Passes (var_at (IsName x ∷ IsMark mark.Colon ∷ IsType t ∷ IsMark mark.Equals ∷ words)) n
  unfolding var_at name_at type_at past following
  var_valued t words p = value_passes x t words n p

var_is : (x : List ℕ) (t : Ty) (e : Term) (words next : List TextToken) → term_at mark.Semicolon words ≡ Ok (e, next) → var_at (IsName x ∷ IsMark mark.Colon ∷ IsType t ∷ IsMark mark.Equals ∷ words) ≡ Ok (record { name = x; type = t; init = e }, next)
unfolding var_at name_at type_at past following
var_is x t e words next q = ap (λ r. r >>= initial x t) q

vars_reach_by : {words bad : List TextToken} → VarFronts words bad → (k : ℕ) → length words < k → Passes (vars_by k words) (length bad)
vars_reach_by f zero l = absurd (omega (arith, l))
vars_reach_by (no_var_yet {bad = bad}) (suc k) l = vars_by_go (suc k) bad (length bad) (omega arith)
vars_reach_by (var_name {bad = bad}) (suc k) l = var_first k bad (length bad) (var_goes bad (length bad) (omega arith))
vars_reach_by (var_colon {x = x} {bad = bad}) (suc k) l = var_first k _ (length bad) (var_named x (length bad) bad (omega arith))
vars_reach_by (var_type {x = x} {bad = bad}) (suc k) l = var_first k _ (length bad) (var_typed x (length bad) bad (omega arith))
vars_reach_by (var_equals {x = x} {t = t} {bad = bad}) (suc k) l = var_first k _ (length bad) (var_equal x (length bad) t bad (omega arith))
vars_reach_by (var_value {x = x} {t = t} {from = from} {bad = bad} f) (suc k) l = var_first k _ (length bad) (var_valued x (length bad) t from (term_front f mark.Semicolon))
vars_reach_by (var_end {x = x} {t = t} {from = from} {bad = bad} d) (suc k) l = var_first k _ (length bad) (var_valued x (length bad) t from (term_spelled d mark.Semicolon))
vars_reach_by (next_var {x = x} {t = t} {e = e} {from = from} {next = next} {bad = bad} d f) (suc k) l =
    var_then k _ (record { name = x; type = t; init = e }) next (length bad) (var_is x t e from next (semicolon_reads from e next d)) (vars_reach_by f k (omega (arith, shorter d)))

vars_reach : {words bad : List TextToken} → VarFronts words bad → Passes (vars_at words) (length bad)
unfolding vars_at
vars_reach {words = words} f = vars_reach_by f (suc (length words)) (omega arith)

vars_front : {words : List TextToken} {vs : List Accumulator} {rest : List TextToken} → SpellsVars words vs rest → VarFronts words rest
vars_front no_var = no_var_yet
vars_front (var d ds) = next_var d (vars_front ds)

-- ---- the loop

loop_first : (words : List TextToken) (n : ℕ) → Passes (for_loop_at words) n → Passes (loop_at (IsMark mark.For ∷ words)) n
unfolding loop_at following
loop_first words n p = passes_bind (for_loop_at words) (λ l. Ok (Some l.0, l.1)) n p (λ l k. k)

module _ (i : List ℕ) (n : ℕ) where
  for_loop_in : (words : List TextToken) → length words ≤ n → Passes (for_loop_at (IsName i ∷ words)) n
  unfolding for_loop_at name_at zero_at past following
  for_loop_in words h = index_passes n (i, words) h

  for_loop_zero : (words : List TextToken) → length words ≤ n → Passes (for_loop_at (IsName i ∷ IsMark mark.In ∷ words)) n
  unfolding for_loop_at name_at zero_at past following
  for_loop_zero words h = zero_of_passes i n words h

  for_loop_range : (words : List TextToken) → length words ≤ n → Passes (for_loop_at (IsName i ∷ IsMark mark.In ∷ IsNumber 0 ∷ words)) n
  unfolding for_loop_at name_at zero_at past following
  for_loop_range words h = range_passes i n words h

  for_loop_bound : (words : List TextToken) → length words ≤ n → Passes (for_loop_at (IsName i ∷ IsMark mark.In ∷ IsNumber 0 ∷ IsMark mark.Range ∷ words)) n
  unfolding for_loop_at name_at zero_at past following
  for_loop_bound words h = end_passes i n words h

  for_loop_brace : (b : List ℕ) (words : List TextToken) → length words ≤ n → Passes (for_loop_at (IsName i ∷ IsMark mark.In ∷ IsNumber 0 ∷ IsMark mark.Range ∷ IsName b ∷ words)) n
  unfolding for_loop_at name_at zero_at past following
  for_loop_brace b words h = bound_passes i n (b, words) h

  for_loop_block : (b : List ℕ) {words bad : List TextToken} → BlockFronts true words bad → length bad ≤ n → Passes (for_loop_at (IsName i ∷ IsMark mark.In ∷ IsNumber 0 ∷ IsMark mark.Range ∷ IsName b ∷ IsMark mark.OpenBrace ∷ words)) n
  unfolding for_loop_at name_at zero_at past following
  for_loop_block b {words = words} {bad = bad} f h = inside_passes i b words n (passes_more _ (length bad) n h (block_front_reaches f (length words) (omega arith)))

loop_reaches : {words bad : List TextToken} → LoopFronts words bad → Passes (loop_at words) (length bad)
loop_reaches (no_loop_yet {bad = bad}) = loop_goes bad (length bad) (omega arith)
loop_reaches (loop_name {bad = bad}) = loop_first bad (length bad) (for_loop_goes bad (length bad) (omega arith))
loop_reaches (loop_in {i = i} {bad = bad}) = loop_first _ (length bad) (for_loop_in i (length bad) bad (omega arith))
loop_reaches (loop_zero {i = i} {bad = bad}) = loop_first _ (length bad) (for_loop_zero i (length bad) bad (omega arith))
loop_reaches (loop_range {i = i} {bad = bad}) = loop_first _ (length bad) (for_loop_range i (length bad) bad (omega arith))
loop_reaches (loop_bound {i = i} {bad = bad}) = loop_first _ (length bad) (for_loop_bound i (length bad) bad (omega arith))
loop_reaches (loop_brace {i = i} {n = b} {bad = bad}) = loop_first _ (length bad) (for_loop_brace i (length bad) b bad (omega arith))
loop_reaches (loop_block {i = i} {n = b} {bad = bad} f) = loop_first _ (length bad) (for_loop_block i (length bad) b f (omega arith))

-- a token that begins an accumulator begins no loop
no_loop_here : (rest : List TextToken) (n : ℕ) → Passes (loop_at (IsMark mark.Var ∷ rest)) n → suc (length rest) ≤ n
unfolding loop_at following
no_loop_here rest n p = p

-- ---- what stands in the braces

module _ (x : List ℕ) (ps : List Parameter) (t : Option Ty) (body : List TextToken) (n : ℕ) where
  through_vars : Passes (vars_at body) n → PassesEnd (by_tail x ps (t, body)) n
  through_vars p = ends_bind (vars_at body) (by_vars x ps t) n p (vars_end x ps t n)

  module _ (vs : List Accumulator) (next : List TextToken) (v : SpellsVars body vs next) where
    past_vars : following mark.Var next ≡ None → PassesEnd (by_vars x ps t (vs, next)) n → PassesEnd (by_tail x ps (t, body)) n
    past_vars e p = ends_same _ _ n (ap (λ r. r >>= by_vars x ps t) (vars_reads body vs next v e)) p

    by_more : Passes (loop_at next) n → (o : Option (List TextToken)) → following mark.Var next ≡ o → PassesEnd (by_tail x ps (t, body)) n
    by_more p None e = past_vars e (ends_bind (loop_at next) (by_for_loop x ps t vs) n p (for_loop_ends x ps t vs n))
    by_more p (Some rest) e =
        let there = following-is mark.Var next rest e in
        let left = no_loop_here rest n (subst (λ (z : List TextToken). Passes (loop_at z) n) there p) in
        through_vars (passes_more (vars_at body) (length next) n (omega (arith, ap length there, left)) (vars_reach (vars_front v)))

    through_loop : Passes (loop_at next) n → PassesEnd (by_tail x ps (t, body)) n
    through_loop p = by_more p (following mark.Var next) refl

    past_loop : (l : Option PlainLoop) (rest : List TextToken) → SpellsLoop next l rest → following mark.Var rest ≡ None → following mark.For rest ≡ None → PassesEnd (by_for_loop x ps t vs (l, rest)) n → PassesEnd (by_tail x ps (t, body)) n
    past_loop l rest d e f p = past_vars (ends_vars next l rest d e) (ends_same _ _ n (ap (λ r. r >>= by_for_loop x ps t vs) (loop_reads next l rest d f)) p)

module _ (x : List ℕ) (ps : List Parameter) (body : List TextToken) (n : ℕ) (vs : List Accumulator) (next : List TextToken) (v : SpellsVars body vs next) (l : Option PlainLoop) where
  past_close : (bad : List TextToken) → SpellsLoop next l (IsMark mark.CloseBrace ∷ bad) → length bad ≤ n → PassesEnd (by_tail x ps (None, body)) n
  unfolding answer_by past following
  past_close bad d h = past_loop x ps None body n vs next v l (IsMark mark.CloseBrace ∷ bad) d refl refl (answer_ends x ps vs l n (None, bad) h)

  past_return : (t : Ty) (last : List TextToken) → SpellsLoop next l (IsMark mark.Return ∷ last) → Passes (term_at mark.Semicolon last >>= (λ e. past mark.CloseBrace e.1 >>= returned t e.0)) n → PassesEnd (by_tail x ps (Some t, body)) n
  unfolding answer_by past following
  past_return t last d p = past_loop x ps (Some t) body n vs next v l (IsMark mark.Return ∷ last) d refl refl (ends_bind (term_at mark.Semicolon last >>= (λ e. past mark.CloseBrace e.1 >>= returned t e.0)) (by_answer x ps vs l) n p (answer_ends x ps vs l n))

  past_value : (t : Ty) (last : List TextToken) (e : Term) (rest : List TextToken) → SpellsLoop next l (IsMark mark.Return ∷ last) → Spells 10 last e (IsMark mark.Semicolon ∷ rest) → Passes (past mark.CloseBrace rest >>= returned t e) n → PassesEnd (by_tail x ps (Some t, body)) n
  past_value t last e rest d s p = past_return t last d (passes_same _ _ n (ap (λ r. r >>= (λ e. past mark.CloseBrace e.1 >>= returned t e.0)) (semicolon_reads last e rest s)) p)

  past_end : (t : Ty) (last : List TextToken) (e : Term) (rest : List TextToken) → SpellsLoop next l (IsMark mark.Return ∷ last) → Spells 10 last e (IsMark mark.Semicolon ∷ IsMark mark.CloseBrace ∷ rest) → length rest ≤ n → PassesEnd (by_tail x ps (Some t, body)) n
  unfolding past following
  past_end t last e rest d s h = past_value t last e (IsMark mark.CloseBrace ∷ rest) d s h

none_returns : (t : Option Ty) → returns t ≡ false → t ≡ None
none_returns None e = refl
none_returns (Some t) e = absurd cc

some_returns : (t : Option Ty) → returns t ≡ true → (u : Ty) × (t ≡ Some u)
some_returns None e = absurd cc
some_returns (Some t) e = (t, refl)

module _ (x : List ℕ) (ps : List Parameter) (t : Option Ty) where
  to_type : (body : List TextToken) (n : ℕ) (u : Option Ty) → t ≡ u → PassesEnd (by_tail x ps (u, body)) n → PassesEnd (by_tail x ps (t, body)) n
  to_type body n u e p = subst (λ (z : Option Ty). PassesEnd (by_tail x ps (z, body)) n) (sym e) p

  body_reaches : {b : Bool} {body bad : List TextToken} → BodyFronts b body bad → returns t ≡ b → PassesEnd (by_tail x ps (t, body)) (length bad)
  body_reaches (in_vars {from = from} {bad = bad} f) r = through_vars x ps t from (length bad) (vars_reach f)
  body_reaches (in_loop {vs = vs} {from = from} {next = next} {bad = bad} v f) r = through_loop x ps t from (length bad) vs next v (loop_reaches f)
  body_reaches (end_body {vs = vs} {l = l} {from = from} {next = next} {bad = bad} v d) r = to_type from (length bad) None (none_returns t r) (past_close x ps from (length bad) vs next v l bad d (omega arith))
  body_reaches (in_answer {vs = vs} {l = l} {from = from} {next = next} {last = last} {bad = bad} v d f) r =
      let u = some_returns t r in
      to_type from (length bad) (Some u.0) u.1 (past_return x ps from (length bad) vs next v l u.0 last d (return_passes u.0 last (length bad) (term_front f mark.Semicolon)))
  body_reaches (end_answer {vs = vs} {l = l} {e = e} {from = from} {next = next} {last = last} {bad = bad} v d s) r =
      let u = some_returns t r in
      to_type from (length bad) (Some u.0) u.1 (past_return x ps from (length bad) vs next v l u.0 last d (return_passes u.0 last (length bad) (term_spelled s mark.Semicolon)))
  body_reaches (at_brace {vs = vs} {l = l} {e = e} {from = from} {next = next} {last = last} {bad = bad} v d s) r =
      let u = some_returns t r in
      to_type from (length bad) (Some u.0) u.1 (past_value x ps from (length bad) vs next v l u.0 last e bad d s (close_passes u.0 (length bad) (e, bad) (omega arith)))
  body_reaches (end_function {vs = vs} {l = l} {e = e} {from = from} {next = next} {last = last} {bad = bad} v d s) r =
      let u = some_returns t r in
      to_type from (length bad) (Some u.0) u.1 (past_end x ps from (length bad) vs next v l u.0 last e bad d s (omega arith))

-- ---- the kernel

module _ (x : List ℕ) (from : List TextToken) (n : ℕ) where
  header : PassesEnd (by_inside x from) n → PassesEnd (kernel_at (IsMark mark.Kernel ∷ IsName x ∷ IsMark mark.OpenParen ∷ from)) n
  unfolding kernel_at name_at past following
  header p = p

  past_params : (ps : List Parameter) (rest : List TextToken) → SpellsParams from ps rest → PassesEnd (by_params x (ps, rest)) n → PassesEnd (kernel_at (IsMark mark.Kernel ∷ IsName x ∷ IsMark mark.OpenParen ∷ from)) n
  past_params ps rest d p = header (ends_same _ _ n (ap (λ r. r >>= by_params x) (params_reads from ps rest d)) p)

  module _ (ps : List Parameter) where
    at_arrow : (words : List TextToken) → length words ≤ n → PassesEnd (by_params x (ps, IsMark mark.Arrow ∷ words)) n
    unfolding tail_at past following
    at_arrow words h = ends_bind (type_at words >>= (λ t. past mark.OpenBrace t.1 >>= opened t.0)) (by_tail x ps) n (type_opens words n h) (tail_ends x ps n)

    at_type : (t : Ty) (words : List TextToken) → length words ≤ n → PassesEnd (by_params x (ps, IsMark mark.Arrow ∷ IsType t ∷ words)) n
    unfolding tail_at type_at past following
    at_type t words h = ends_bind (past mark.OpenBrace words >>= opened t) (by_tail x ps) n (passes_one (past mark.OpenBrace words) (opened t) n (after_passes mark.OpenBrace words n h) (λ body k. k)) (tail_ends x ps n)

    at_body : (body : List TextToken) → PassesEnd (by_tail x ps (None, body)) n → PassesEnd (by_params x (ps, IsMark mark.OpenBrace ∷ body)) n
    unfolding tail_at following
    at_body body p = p

    at_typed_body : (t : Ty) (body : List TextToken) → PassesEnd (by_tail x ps (Some t, body)) n → PassesEnd (by_params x (ps, IsMark mark.Arrow ∷ IsType t ∷ IsMark mark.OpenBrace ∷ body)) n
    unfolding tail_at type_at past following
    at_typed_body t body p = p

first_word : (words : List TextToken) (n : ℕ) → length words ≤ n → PassesEnd (kernel_at (IsMark mark.Kernel ∷ words)) n
unfolding kernel_at past following
first_word words n h = kernel_ends n words h

second_word : (x : List ℕ) (words : List TextToken) (n : ℕ) → length words ≤ n → PassesEnd (kernel_at (IsMark mark.Kernel ∷ IsName x ∷ words)) n
unfolding kernel_at name_at past following
second_word x words n h = name_ends n (x, words) h

kernel_reaches : {words bad : List TextToken} → KernelFronts words bad → PassesEnd (kernel_at words) (length bad)
kernel_reaches (no_kernel {bad = bad}) = whole_ends bad (length bad) (omega arith)
kernel_reaches (kernel_name {bad = bad}) = first_word bad (length bad) (omega arith)
kernel_reaches (kernel_paren {x = x} {bad = bad}) = second_word x bad (length bad) (omega arith)
kernel_reaches (in_params {x = x} {from = from} {bad = bad} f) = header x from (length bad) (ends_bind (params_at from) (by_params x) (length bad) (params_reach f) (params_end x (length bad)))
kernel_reaches (kernel_tail {x = x} {ps = ps} {from = from} {bad = bad} d) = past_params x from (length bad) ps bad d (params_end x (length bad) (ps, bad) (omega arith))
kernel_reaches (kernel_type {x = x} {ps = ps} {from = from} {bad = bad} d) = past_params x from (length bad) ps (IsMark mark.Arrow ∷ bad) d (at_arrow x from (length bad) ps bad (omega arith))
kernel_reaches (kernel_brace {x = x} {ps = ps} {t = t} {from = from} {bad = bad} d) = past_params x from (length bad) ps (IsMark mark.Arrow ∷ IsType t ∷ bad) d (at_type x from (length bad) ps t bad (omega arith))
kernel_reaches (in_procedure {x = x} {ps = ps} {from = from} {body = body} {bad = bad} d f) = past_params x from (length bad) ps (IsMark mark.OpenBrace ∷ body) d (at_body x from (length bad) ps body (body_reaches x ps None f refl))
kernel_reaches (in_function {x = x} {ps = ps} {t = t} {from = from} {body = body} {bad = bad} d f) = past_params x from (length bad) ps (IsMark mark.Arrow ∷ IsType t ∷ IsMark mark.OpenBrace ∷ body) d (at_typed_body x from (length bad) ps t body (body_reaches x ps (Some t) f refl))

-- no front of a kernel goes on after where reading stops
pub no_further : (words bad : List TextToken) (left : ℕ) → kernel_at words ≡ Err left → KernelFronts words bad → left ≤ length bad
no_further words bad left q f = subst (λ (z : Result Program ℕ). PassesEnd z (length bad)) q (kernel_reaches f)

-- Statements and kernels: what is spelled so is read.
use Rattle.std.proofs.Common.{◌≡◌, ℕ, zero, suc, ◌<◌, ◌≤◌, Bool, true, false, List, [], ◌∷◌, length, Option, None, Ok, Err, refl, sym, ◌∙◌, arith}
use Rattle.kernel_tree.specs.declared.ops.Ty.{Ty}
use Rattle.kernel_tree.specs.declared.mark.Mark.TheVariants as mark
use Rattle.kernel_tree.specs.TextToken.{TextToken, IsType, IsMark}
use Rattle.kernel_tree.specs.Plain.{Term, Action, Block, Parameter, Accumulator, PlainLoop, Program}
use Rattle.kernel_tree.specs.Grammar.{Spells, SpellsType, untyped, typed, SpellsAction, define, put, update, choose, choose_else, leave, SpellsBlock, done, then, SpellsParam, scalar, array, SpellsSome, last, more, SpellsParams, none, some, SpellsVars, no_var, var, SpellsLoop, no_loop, loop, Tree, procedure, function}
use Rattle.kernel_tree.proofs.OneTerm.{shorter}
use Rattle.expression_syntax.specs.Reading.{following, past, name_at, type_at}
use Rattle.kernel_syntax.specs.Statements.{term_at, type_part, define_at, put_at, update_at, target_at, leave_at, choose_by, statement_by, block_by, block_at}
use Rattle.kernel_syntax.specs.Headers.{shape_at, param_at, some_at, params_at, var_at, vars_by, vars_at, zero_at, for_loop_at, loop_at, tail_at, answer_by, kernel_at}
use Rattle.expression_syntax.proofs.Sound.{not_err}
use Rattle.kernel_syntax.proofs.Complete.{spells_before}

pub semicolon_reads : (words : List TextToken) (e : Term) (rest : List TextToken) → Spells 10 words e (IsMark mark.Semicolon ∷ rest) → term_at mark.Semicolon words ≡ Ok (e, rest)
unfolding term_at past following
semicolon_reads words e rest d = spells_before mark.Semicolon words e rest (length words) refl refl refl (omega arith) d

pub bracket_reads : (words : List TextToken) (e : Term) (rest : List TextToken) → Spells 10 words e (IsMark mark.CloseBracket ∷ rest) → term_at mark.CloseBracket words ≡ Ok (e, rest)
unfolding term_at past following
bracket_reads words e rest d = spells_before mark.CloseBracket words e rest (length words) refl refl refl (omega arith) d

pub brace_reads : (words : List TextToken) (e : Term) (rest : List TextToken) → Spells 10 words e (IsMark mark.OpenBrace ∷ rest) → term_at mark.OpenBrace words ≡ Ok (e, rest)
unfolding term_at past following
brace_reads words e rest d = spells_before mark.OpenBrace words e rest (length words) refl refl refl (omega arith) d

before_else : (whole : Bool) (b : Block) (words rest : List TextToken) → SpellsBlock whole words b rest → following mark.Else words ≡ None
unfolding following
before_else whole b words rest done = refl
before_else whole b words rest (then (define t e) d) = refl
before_else whole b words rest other = refl

pub action_closes : (whole : Bool) (s : Action) (words rest : List TextToken) → SpellsAction whole words s rest → following mark.CloseBrace words ≡ None
unfolding following
action_closes whole s words rest (define t e) = refl
action_closes whole s words rest other = refl

pub type_reads : (words : List TextToken) (t : Option Ty) (rest : List TextToken) → SpellsType words t rest → following mark.Colon rest ≡ None → type_part words ≡ Ok (t, rest)
unfolding type_part following type_at
type_reads words t rest untyped n = rw n refl
type_reads words t rest typed n = refl

pub type_shorter : (words : List TextToken) (t : Option Ty) (rest : List TextToken) → SpellsType words t rest → length rest ≤ length words
type_shorter words t rest untyped = omega arith
type_shorter words t rest typed = omega arith

mutual
  pub action_shorter : {whole : Bool} {words : List TextToken} {s : Action} {rest : List TextToken} → SpellsAction whole words s rest → length rest < length words
  action_shorter (define t e) = omega (arith, type_shorter _ _ _ t, shorter e)
  action_shorter (put i e) = omega (arith, shorter i, shorter e)
  action_shorter (update e) = omega (arith, shorter e)
  action_shorter (choose c b) = omega (arith, shorter c, block_shorter b)
  action_shorter (choose_else c b d) = omega (arith, shorter c, block_shorter b, block_shorter d)
  action_shorter (leave c) = omega (arith, shorter c)

  pub block_shorter : {whole : Bool} {words : List TextToken} {b : Block} {rest : List TextToken} → SpellsBlock whole words b rest → length rest < length words
  block_shorter done = omega arith
  block_shorter (then s b) = omega (arith, action_shorter s, block_shorter b)

pub block_from : (whole : Bool) (words : List TextToken) (b : Block) (rest : List TextToken) → length rest < length words → ((r : ℕ) → length words ≤ suc r → (k : ℕ) → length words < k → block_by (statement_by whole (block_at false r)) k words ≡ Ok (b, rest)) → (room : ℕ) → length words ≤ room → block_at whole room words ≡ Ok (b, rest)
unfolding block_at
block_from whole words b rest lt goes zero h = absurd (omega arith)
block_from whole words b rest lt goes (suc room) h = goes room h (suc (length words)) (omega arith)

mutual
  unfolding statement_by define_at name_at target_at put_at update_at leave_at choose_by block_by past following

  pub action_reads : {whole : Bool} {words : List TextToken} {s : Action} {rest : List TextToken} → SpellsAction whole words s rest → (room : ℕ) → length words ≤ suc room → following mark.Else rest ≡ None → statement_by whole (block_at false room) words ≡ Ok (s, rest)
  action_reads (define {x = x} {t = t} {e = e} {from = from} {next = next} {rest = rest} p d) room h n = rw (type_reads from t (IsMark mark.Equals ∷ next) p refl, semicolon_reads next e rest d) refl
  action_reads (put {x = x} {i = i} {e = e} {from = from} {next = next} {rest = rest} d1 d2) room h n = rw (bracket_reads from i (IsMark mark.Equals ∷ next) d1, semicolon_reads next e rest d2) refl
  action_reads (update {x = x} {op = op} {e = e} {from = from} {rest = rest} d) room h n = rw (semicolon_reads from e rest d) refl
  action_reads (choose {c = c} {b = b} {from = from} {next = next} {rest = rest} d1 d2) room h n =
      rw (brace_reads from c next d1, block_from false next b rest (block_shorter d2) (block_goes d2) room (omega (arith, shorter d1)), n) refl
  action_reads (choose_else {c = c} {b = b} {d = d} {from = from} {next = next} {more = further} {rest = rest} d1 d2 d3) room h n =
      rw (brace_reads from c next d1, block_from false next b (IsMark mark.Else ∷ IsMark mark.OpenBrace ∷ further) (block_shorter d2) (block_goes d2) room (omega (arith, shorter d1)), block_from false further d rest (block_shorter d3) (block_goes d3) room (omega (arith, shorter d1, block_shorter d2))) refl
  action_reads (leave {c = c} {from = from} {rest = rest} d) room h n = rw (semicolon_reads from c rest d) refl

  pub block_goes : {whole : Bool} {words : List TextToken} {b : Block} {rest : List TextToken} → SpellsBlock whole words b rest → (room : ℕ) → length words ≤ suc room → (k : ℕ) → length words < k → block_by (statement_by whole (block_at false room)) k words ≡ Ok (b, rest)
  block_goes done room h zero l = absurd (omega arith)
  block_goes done room h (suc k) l = refl
  block_goes (then d1 d2) room h zero l = absurd (omega arith)
  block_goes (then {whole = whole} {s = s} {b = b} {from = from} {next = next} {rest = rest} d1 d2) room h (suc k) l =
      rw (action_closes whole s from next d1, action_reads d1 room h (before_else whole b next rest d2), block_goes d2 room (omega (arith, action_shorter d1)) k (omega (arith, action_shorter d1))) refl

-- ---- kernels

pub param_reads : (words : List TextToken) (p : Parameter) (rest : List TextToken) → SpellsParam words p rest → param_at words ≡ Ok (p, rest)
unfolding param_at name_at past following shape_at type_at
param_reads words p rest scalar = refl
param_reads words p rest array = refl

some_reads : {others : ℕ} {words : List TextToken} {ps : List Parameter} {rest : List TextToken} → SpellsSome others words ps rest → some_at others words ≡ Ok (ps, rest)
unfolding some_at following past
some_reads (last {others = zero} {p = p} {from = from} {rest = rest} d) = rw (param_reads from p (IsMark mark.CloseParen ∷ rest) d) refl
some_reads (last {others = suc n} {p = p} {from = from} {rest = rest} d) = rw (param_reads from p (IsMark mark.CloseParen ∷ rest) d) refl
some_reads (more {p = p} {from = from} {next = next} d ds) = rw (param_reads from p (IsMark mark.Comma ∷ next) d, some_reads ds) refl

some_opens : {others : ℕ} {words : List TextToken} {ps : List Parameter} {rest : List TextToken} → SpellsSome others words ps rest → following mark.CloseParen words ≡ None
unfolding following
some_opens (last scalar) = refl
some_opens (more scalar ds) = refl
some_opens other = refl

pub params_reads : (words : List TextToken) (ps : List Parameter) (rest : List TextToken) → SpellsParams words ps rest → params_at words ≡ Ok (ps, rest)
unfolding params_at following
params_reads words ps rest none = refl
params_reads words ps rest (some d) = rw (some_opens d) (some_reads d)

vars_goes : {words : List TextToken} {vs : List Accumulator} {rest : List TextToken} → SpellsVars words vs rest → following mark.Var rest ≡ None → (k : ℕ) → length words < k → vars_by k words ≡ Ok (vs, rest)
unfolding vars_by var_at name_at type_at past following
vars_goes no_var n zero l = absurd (omega arith)
vars_goes no_var n (suc k) l = rw n refl
vars_goes (var e ds) n zero l = absurd (omega arith)
vars_goes (var {e = e} {from = from} {next = next} d ds) n (suc k) l = rw (semicolon_reads from e next d, vars_goes ds n k (omega (arith, shorter d))) refl

pub vars_reads : (words : List TextToken) (vs : List Accumulator) (rest : List TextToken) → SpellsVars words vs rest → following mark.Var rest ≡ None → vars_at words ≡ Ok (vs, rest)
unfolding vars_at
vars_reads words vs rest d n = vars_goes d n (suc (length words)) (omega arith)

pub loop_reads : (words : List TextToken) (l : Option PlainLoop) (rest : List TextToken) → SpellsLoop words l rest → following mark.For rest ≡ None → loop_at words ≡ Ok (l, rest)
unfolding loop_at for_loop_at name_at zero_at past following
loop_reads words l rest no_loop n = rw n refl
loop_reads words l end (loop {b = b} {from = from} {rest = rest} d) n = rw (block_from true from b rest (block_shorter d) (block_goes d) (length from) (omega arith)) refl

-- no accumulator begins a loop or what follows it
pub ends_vars : (words : List TextToken) (l : Option PlainLoop) (rest : List TextToken) → SpellsLoop words l rest → following mark.Var rest ≡ None → following mark.Var words ≡ None
unfolding following
ends_vars words l rest no_loop n = n
ends_vars words l rest (loop d) n = refl

pub tree_reads : (words : List TextToken) (k : Program) → Tree words k → kernel_at words ≡ Ok k
unfolding kernel_at name_at type_at tail_at answer_by past following
tree_reads words k (procedure {ps = ps} {vs = vs} {l = l} {from = from} {body = body} {next = next} p v s) =
    rw (params_reads from ps (IsMark mark.OpenBrace ∷ body) p, vars_reads body vs next v (ends_vars next l (IsMark mark.CloseBrace ∷ []) s refl), loop_reads next l (IsMark mark.CloseBrace ∷ []) s refl) refl
tree_reads words k (function {ps = ps} {t = t} {vs = vs} {l = l} {e = e} {from = from} {body = body} {next = next} {last = end} p v s d) =
    rw (params_reads from ps (IsMark mark.Arrow ∷ IsType t ∷ IsMark mark.OpenBrace ∷ body) p, vars_reads body vs next v (ends_vars next l (IsMark mark.Return ∷ end) s refl), loop_reads next l (IsMark mark.Return ∷ end) s refl, semicolon_reads end e (IsMark mark.CloseBrace ∷ []) d) refl

pub no_tree : (words : List TextToken) (left : ℕ) → kernel_at words ≡ Err left → (k : Program) → Tree words k → ⊥
no_tree words left h k t = not_err left k (sym h ∙ tree_reads words k t)

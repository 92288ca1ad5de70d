-- Reading statements and kernels goes on from where it stands.
use Rattle.std.proofs.Common.{◌≡◌, ℕ, zero, suc, ◌≤◌, Bool, true, false, List, [], ◌∷◌, length, Option, Some, None, Result, Ok, Err, refl, ap, arith}
use Rattle.kernel_tree.specs.declared.ops.Ty.{Ty}
use Rattle.kernel_tree.specs.declared.ops.UpdateOp.{UpdateOp}
use Rattle.kernel_tree.specs.declared.ast.Shape.{Shape}
use Rattle.kernel_tree.specs.declared.ast.Shape.TheVariants as shape
use Rattle.kernel_tree.specs.declared.mark.Mark.{Mark}
use Rattle.kernel_tree.specs.declared.mark.Mark.TheVariants as mark
use Rattle.kernel_tree.specs.declared.mark.Beginning.{Beginning}
use Rattle.kernel_tree.specs.declared.mark.Beginning.TheVariants as beginning
use Rattle.kernel_tree.specs.TextToken.{TextToken, IsName, IsNumber, IsType, IsCompare, IsUpdate, IsMark}
use Rattle.kernel_tree.specs.Plain.{Term, Define, Put, Update, Choose, Leave, Block, Done, Then, Nothing, Else, Parameter, Accumulator, PlainLoop, Returned, Program}
use Rattle.kernel_tree.specs.Grammar.{beginning_of_mark}
use Rattle.expression_syntax.specs.Reading.{◌>>=◌, given, following, past, name_at, type_at, update_front, unary_at, chain_at}
use Rattle.kernel_syntax.specs.Statements.{Statement, Statements, term_at, type_part, define_at, put_at, update_at, target_at, leave_at, choose_by, begun_by, statement_by, block_by, block_at}
use Rattle.kernel_syntax.specs.Headers.{Read, shape_at, param_at, some_at, params_at, var_at, vars_by, vars_at, zero_at, for_loop_at, loop_at, tail_at, answer_by, alone, kernel_at}
use Rattle.expression_syntax.proofs.Sound.{update-is}
use Rattle.kernel_syntax.proofs.KernelSound.{zero-is}
use Rattle.kernel_syntax.proofs.StuckKernel.{zero-stops}
use Rattle.expression_syntax.proofs.Within.{Passes, PassesOne, passes_bind, passes_one, passes_given, after_passes, name_passes, type_passes, Going, term_passes, reads_go}

-- ---- statements

pub term_goes : (m : Mark) → Going (term_at m)
unfolding term_at
term_goes m words n h = term_passes (chain_at (unary_at (length words)) 10) m words n (reads_go (length words) 10 words n h)

pub type_part_goes : Going type_part
unfolding type_part
type_part_goes words n h = passes_given mark.Colon words (λ rest. type_at rest >>= (λ t. Ok (Some t.0, t.1))) (Ok (None, words)) n h
    (λ rest l. passes_bind (type_at rest) (λ t. Ok (Some t.0, t.1)) n (type_passes rest n l) (λ t k. k)) h

-- after the type that a definition gives
pub define_passes : (x : List ℕ) (n : ℕ) (t : Option Ty × List TextToken) → length t.1 ≤ n → Passes (past mark.Equals t.1 >>= (λ from. term_at mark.Semicolon from >>= (λ e. Ok (Define x t.0 e.0, e.1)))) n
define_passes x n t h = passes_one (past mark.Equals t.1) (λ from. term_at mark.Semicolon from >>= (λ e. Ok (Define x t.0 e.0, e.1))) n (after_passes mark.Equals t.1 n h)
    (λ from l. passes_bind (term_at mark.Semicolon from) (λ e. Ok (Define x t.0 e.0, e.1)) n (term_goes mark.Semicolon from n l) (λ e k. k))

pub define_goes : Going define_at
unfolding define_at
define_goes words n h = passes_bind (name_at words) (λ x. type_part x.1 >>= (λ t. past mark.Equals t.1 >>= (λ from. term_at mark.Semicolon from >>= (λ e. Ok (Define x.0 t.0 e.0, e.1))))) n (name_passes words n h)
    (λ x l. passes_bind (type_part x.1) (λ t. past mark.Equals t.1 >>= (λ from. term_at mark.Semicolon from >>= (λ e. Ok (Define x.0 t.0 e.0, e.1)))) n (type_part_goes x.1 n l) (define_passes x.0 n))

-- after the index of the element that a store writes
pub put_passes : (x : List ℕ) (n : ℕ) (i : Term × List TextToken) → length i.1 ≤ n → Passes (past mark.Equals i.1 >>= (λ next. term_at mark.Semicolon next >>= (λ e. Ok (Put x i.0 e.0, e.1)))) n
put_passes x n i h = passes_one (past mark.Equals i.1) (λ next. term_at mark.Semicolon next >>= (λ e. Ok (Put x i.0 e.0, e.1))) n (after_passes mark.Equals i.1 n h)
    (λ next l. passes_bind (term_at mark.Semicolon next) (λ e. Ok (Put x i.0 e.0, e.1)) n (term_goes mark.Semicolon next n l) (λ e k. k))

pub put_goes : (x : List ℕ) → Going (put_at x)
unfolding put_at
put_goes x words n h = passes_bind (term_at mark.CloseBracket words) (λ i. past mark.Equals i.1 >>= (λ next. term_at mark.Semicolon next >>= (λ e. Ok (Put x i.0 e.0, e.1)))) n (term_goes mark.CloseBracket words n h) (put_passes x n)

pub update_goes : (x : List ℕ) (op : UpdateOp) → Going (update_at x op)
unfolding update_at
update_goes x op words n h = passes_bind (term_at mark.Semicolon words) (λ e. Ok (Update x op e.0, e.1)) n (term_goes mark.Semicolon words n h) (λ e k. k)

by_update : (x : List ℕ) (words : List TextToken) (n : ℕ) → length words ≤ n → (o : Option (UpdateOp × List TextToken)) → update_front words ≡ o → Passes (given {B = Statement} o (λ u. update_at x u.0 u.1) (Err (length words))) n
by_update x words n h None e = h
by_update x words n h (Some u) e = update_goes x u.0 u.1 n (omega (arith, ap length (update-is words u e), h))

pub target_goes : (x : List ℕ) → Going (target_at x)
unfolding target_at
target_goes x words n h = passes_given mark.OpenBracket words (λ from. put_at x from) (given (update_front words) (λ u. update_at x u.0 u.1) (Err (length words))) n h (λ from l. put_goes x from n l) (by_update x words n h (update_front words) refl)

pub leave_goes : (whole : Bool) (words : List TextToken) (n : ℕ) → suc (length words) ≤ n → Passes (leave_at whole words) n
unfolding leave_at
leave_goes false words n h = h
leave_goes true words n h = passes_one (past mark.If words) (λ from. term_at mark.Semicolon from >>= (λ c. Ok (Leave c.0, c.1))) n (after_passes mark.If words n (omega (arith, h)))
    (λ from l. passes_bind (term_at mark.Semicolon from) (λ c. Ok (Leave c.0, c.1)) n (term_goes mark.Semicolon from n l) (λ c k. k))

module _ (block : List TextToken → Statements) (goes : Going block) where
  pub else_passes : (c : Term) (n : ℕ) (b : Block × List TextToken) → length b.1 ≤ n → Passes (given {B = Statement} (following mark.Else b.1) (λ rest. past mark.OpenBrace rest >>= (λ from. block from >>= (λ d. Ok (Choose c b.0 (Else d.0), d.1)))) (Ok (Choose c b.0 Nothing, b.1))) n
  else_passes c n b h = passes_given mark.Else b.1 (λ rest. past mark.OpenBrace rest >>= (λ from. block from >>= (λ d. Ok (Choose c b.0 (Else d.0), d.1)))) (Ok (Choose c b.0 Nothing, b.1)) n h
      (λ rest l. passes_one (past mark.OpenBrace rest) (λ from. block from >>= (λ d. Ok (Choose c b.0 (Else d.0), d.1))) n (after_passes mark.OpenBrace rest n l)
      (λ from k. passes_bind (block from) (λ d. Ok (Choose c b.0 (Else d.0), d.1)) n (goes from n k) (λ d i. i))) h

  pub block_passes : (n : ℕ) (c : Term) (words : List TextToken) → Passes (block words) n → Passes (block words >>= (λ b. given {B = Statement} (following mark.Else b.1) (λ rest. past mark.OpenBrace rest >>= (λ from. block from >>= (λ d. Ok (Choose c b.0 (Else d.0), d.1)))) (Ok (Choose c b.0 Nothing, b.1)))) n
  block_passes n c words p = passes_bind (block words) (λ b. given {B = Statement} (following mark.Else b.1) (λ rest. past mark.OpenBrace rest >>= (λ from. block from >>= (λ d. Ok (Choose c b.0 (Else d.0), d.1)))) (Ok (Choose c b.0 Nothing, b.1))) n p (else_passes c n)

  pub choose_passes : (words : List TextToken) (n : ℕ) → Passes (term_at mark.OpenBrace words) n → Passes (choose_by block words) n
  unfolding choose_by
  choose_passes words n p = passes_bind (term_at mark.OpenBrace words) (λ c. block c.1 >>= (λ b. given {B = Statement} (following mark.Else b.1) (λ rest. past mark.OpenBrace rest >>= (λ from. block from >>= (λ d. Ok (Choose c.0 b.0 (Else d.0), d.1)))) (Ok (Choose c.0 b.0 Nothing, b.1)))) n p
      (λ c l. block_passes n c.0 c.1 (goes c.1 n l))

  pub begun_goes : (whole : Bool) (o : Option Beginning) (words : List TextToken) (n : ℕ) → suc (length words) ≤ n → Passes (begun_by whole block o words) n
  begun_goes whole None words n h = h
  begun_goes whole (Some beginning.Definition) words n h = define_goes words n (omega (arith, h))
  begun_goes whole (Some beginning.Choice) words n h = choose_passes words n (term_goes mark.OpenBrace words n (omega (arith, h)))
  begun_goes whole (Some beginning.Leaving) words n h = leave_goes whole words n h

  pub statement_goes : (whole : Bool) → Going (statement_by whole block)
  unfolding statement_by
  statement_goes whole [] n h = omega arith
  statement_goes whole (IsName x ∷ words) n h = target_goes x words n (omega (arith, h))
  statement_goes whole (IsMark m ∷ words) n h = begun_goes whole (beginning_of_mark m) words n h
  statement_goes whole (IsNumber k ∷ words) n h = h
  statement_goes whole (IsType t ∷ words) n h = h
  statement_goes whole (IsCompare op ∷ words) n h = h
  statement_goes whole (IsUpdate op ∷ words) n h = h

pub block_by_goes : (statement : List TextToken → Statement) → Going statement → (k : ℕ) → Going (block_by statement k)
unfolding block_by
block_by_goes statement goes zero words n h = h
block_by_goes statement goes (suc k) words n h = passes_given mark.CloseBrace words (λ rest. Ok (Done, rest)) (statement words >>= (λ s. block_by statement k s.1 >>= (λ b. Ok (Then s.0 b.0, b.1)))) n h (λ rest l. l)
    (passes_bind (statement words) (λ s. block_by statement k s.1 >>= (λ b. Ok (Then s.0 b.0, b.1))) n (goes words n h)
    (λ s l. passes_bind (block_by statement k s.1) (λ b. Ok (Then s.0 b.0, b.1)) n (block_by_goes statement goes k s.1 n l) (λ b i. i)))

pub block_at_goes : (whole : Bool) (room : ℕ) → Going (block_at whole room)
unfolding block_at
block_at_goes whole zero words n h = h
block_at_goes whole (suc room) words n h = block_by_goes (statement_by whole (block_at false room)) (statement_goes (block_at false room) (block_at_goes false room) whole) (suc (length words)) words n h

-- ---- parameters

pub array_passes : (n : ℕ) (t : Ty × List TextToken) → length t.1 ≤ n → Passes (past mark.CloseBracket t.1 >>= (λ rest. Ok (shape.Array t.0, rest))) n
array_passes n t h = passes_one (past mark.CloseBracket t.1) (λ rest. Ok (shape.Array t.0, rest)) n (after_passes mark.CloseBracket t.1 n h) (λ rest k. k)

pub shape_goes : Going shape_at
unfolding shape_at
shape_goes words n h = passes_given mark.OpenBracket words (λ from. type_at from >>= (λ t. past mark.CloseBracket t.1 >>= (λ rest. Ok (shape.Array t.0, rest)))) (type_at words >>= (λ t. Ok (shape.Scalar t.0, t.1))) n h
    (λ from l. passes_bind (type_at from) (λ t. past mark.CloseBracket t.1 >>= (λ rest. Ok (shape.Array t.0, rest))) n (type_passes from n l) (array_passes n))
    (passes_bind (type_at words) (λ t. Ok (shape.Scalar t.0, t.1)) n (type_passes words n h) (λ t k. k))

abbrev pub shaped : List ℕ → Shape × List TextToken → Read Parameter
shaped x s = Ok (record { name = x; shape = s.0 }, s.1)

pub shape_passes : (x : List ℕ) (words : List TextToken) (n : ℕ) → Passes (shape_at words) n → Passes (shape_at words >>= shaped x) n
shape_passes x words n p = passes_bind (shape_at words) (shaped x) n p (λ s k. k)

pub colon_passes : (x : List ℕ) (words : List TextToken) (n : ℕ) → length words ≤ n → Passes (past mark.Colon words >>= (λ from. shape_at from >>= shaped x)) n
colon_passes x words n h = passes_one (past mark.Colon words) (λ from. shape_at from >>= shaped x) n (after_passes mark.Colon words n h) (λ from l. shape_passes x from n (shape_goes from n l))

pub param_goes : Going param_at
unfolding param_at
param_goes words n h = passes_bind (name_at words) (λ x. past mark.Colon x.1 >>= (λ from. shape_at from >>= shaped x.0)) n (name_passes words n h) (λ x l. colon_passes x.0 x.1 n l)

pub some_passes : (others : ℕ) (words : List TextToken) (n : ℕ) → Passes (param_at words) n → Passes (some_at others words) n
unfolding some_at
some_passes zero words n q = passes_bind (param_at words) (λ p. given {B = Read (List Parameter)} (following mark.CloseParen p.1) (λ rest. Ok (p.0 ∷ [], rest)) (Err (length p.1))) n q
    (λ p l. passes_given mark.CloseParen p.1 (λ rest. Ok (p.0 ∷ [], rest)) (Err (length p.1)) n l (λ rest k. k) l)
some_passes (suc others) words n q = passes_bind (param_at words) (λ p. given {B = Read (List Parameter)} (following mark.CloseParen p.1) (λ rest. Ok (p.0 ∷ [], rest)) (past mark.Comma p.1 >>= (λ next. some_at others next >>= (λ ps. Ok (p.0 ∷ ps.0, ps.1))))) n q
    (λ p l. passes_given mark.CloseParen p.1 (λ rest. Ok (p.0 ∷ [], rest)) (past mark.Comma p.1 >>= (λ next. some_at others next >>= (λ ps. Ok (p.0 ∷ ps.0, ps.1)))) n l (λ rest k. k)
    (passes_one (past mark.Comma p.1) (λ next. some_at others next >>= (λ ps. Ok (p.0 ∷ ps.0, ps.1))) n (after_passes mark.Comma p.1 n l)
    (λ next k. passes_bind (some_at others next) (λ ps. Ok (p.0 ∷ ps.0, ps.1)) n (some_passes others next n (param_goes next n k)) (λ ps i. i))))

pub some_goes : (others : ℕ) → Going (some_at others)
some_goes others words n h = some_passes others words n (param_goes words n h)

pub params_go : Going params_at
unfolding params_at
params_go words n h = passes_given mark.CloseParen words (λ rest. Ok ([], rest)) (some_at 7 words) n h (λ rest k. k) (some_goes 7 words n h)

-- ---- accumulators

abbrev pub initial : List ℕ → Ty → Term × List TextToken → Read Accumulator
initial x t e = Ok (record { name = x; type = t; init = e.0 }, e.1)

pub value_passes : (x : List ℕ) (t : Ty) (words : List TextToken) (n : ℕ) → Passes (term_at mark.Semicolon words) n → Passes (term_at mark.Semicolon words >>= initial x t) n
value_passes x t words n p = passes_bind (term_at mark.Semicolon words) (initial x t) n p (λ e k. k)

pub equals_passes : (x : List ℕ) (t : Ty) (words : List TextToken) (n : ℕ) → length words ≤ n → Passes (past mark.Equals words >>= (λ next. term_at mark.Semicolon next >>= initial x t)) n
equals_passes x t words n h = passes_one (past mark.Equals words) (λ next. term_at mark.Semicolon next >>= initial x t) n (after_passes mark.Equals words n h) (λ next l. value_passes x t next n (term_goes mark.Semicolon next n l))

pub type_passes_on : (x : List ℕ) (words : List TextToken) (n : ℕ) → length words ≤ n → Passes (type_at words >>= (λ t. past mark.Equals t.1 >>= (λ next. term_at mark.Semicolon next >>= initial x t.0))) n
type_passes_on x words n h = passes_bind (type_at words) (λ t. past mark.Equals t.1 >>= (λ next. term_at mark.Semicolon next >>= initial x t.0)) n (type_passes words n h) (λ t l. equals_passes x t.0 t.1 n l)

pub named_passes : (x : List ℕ) (words : List TextToken) (n : ℕ) → length words ≤ n → Passes (past mark.Colon words >>= (λ from. type_at from >>= (λ t. past mark.Equals t.1 >>= (λ next. term_at mark.Semicolon next >>= initial x t.0)))) n
named_passes x words n h = passes_one (past mark.Colon words) (λ from. type_at from >>= (λ t. past mark.Equals t.1 >>= (λ next. term_at mark.Semicolon next >>= initial x t.0))) n (after_passes mark.Colon words n h) (λ from l. type_passes_on x from n l)

pub var_goes : Going var_at
unfolding var_at
var_goes words n h = passes_bind (name_at words) (λ x. past mark.Colon x.1 >>= (λ from. type_at from >>= (λ t. past mark.Equals t.1 >>= (λ next. term_at mark.Semicolon next >>= initial x.0 t.0)))) n (name_passes words n h) (λ x l. named_passes x.0 x.1 n l)

pub vars_by_go : (k : ℕ) → Going (vars_by k)
unfolding vars_by
vars_by_go zero words n h = h
vars_by_go (suc k) words n h = passes_given mark.Var words (λ rest. var_at rest >>= (λ v. vars_by k v.1 >>= (λ vs. Ok (v.0 ∷ vs.0, vs.1)))) (Ok ([], words)) n h
    (λ rest l. passes_bind (var_at rest) (λ v. vars_by k v.1 >>= (λ vs. Ok (v.0 ∷ vs.0, vs.1))) n (var_goes rest n l)
    (λ v i. passes_bind (vars_by k v.1) (λ vs. Ok (v.0 ∷ vs.0, vs.1)) n (vars_by_go k v.1 n i) (λ vs j. j))) h

pub var_passes : (k : ℕ) (words : List TextToken) (n : ℕ) → Passes (var_at words) n → Passes (var_at words >>= (λ v. vars_by k v.1 >>= (λ vs. Ok (v.0 ∷ vs.0, vs.1)))) n
var_passes k words n p = passes_bind (var_at words) (λ v. vars_by k v.1 >>= (λ vs. Ok (v.0 ∷ vs.0, vs.1))) n p
    (λ v i. passes_bind (vars_by k v.1) (λ vs. Ok (v.0 ∷ vs.0, vs.1)) n (vars_by_go k v.1 n i) (λ vs j. j))

-- ---- the loop

pub zero_passes : (words : List TextToken) (n : ℕ) → length words ≤ n → PassesOne (zero_at words) n
zero_passes words n h = go (zero_at words) refl
  where
    go : (r : Result (List TextToken) ℕ) → zero_at words ≡ r → PassesOne r n
    go (Ok rest) e = omega (arith, ap length (zero-is words rest e), h)
    go (Err left) e = omega (arith, zero-stops words left e, h)

abbrev pub for_loop_made : List ℕ → List ℕ → Block × List TextToken → Read PlainLoop
for_loop_made i n b = Ok (record { index = i; bound = n; body = b.0 }, b.1)

-- what follows the parts of a loop's first line
abbrev pub inside_of : List ℕ → List ℕ → List TextToken → Read PlainLoop
inside_of i n inside = block_at true (length inside) inside >>= for_loop_made i n

abbrev pub bound_of : List ℕ → List ℕ × List TextToken → Read PlainLoop
bound_of i n = past mark.OpenBrace n.1 >>= inside_of i n.0

abbrev pub end_of : List ℕ → List TextToken → Read PlainLoop
end_of i end = name_at end >>= bound_of i

abbrev pub range_of : List ℕ → List TextToken → Read PlainLoop
range_of i range = past mark.Range range >>= end_of i

abbrev pub zero_of : List ℕ → List TextToken → Read PlainLoop
zero_of i from = zero_at from >>= range_of i

abbrev pub index_of : List ℕ × List TextToken → Read PlainLoop
index_of i = past mark.In i.1 >>= zero_of i.0

pub inside_passes : (i b : List ℕ) (words : List TextToken) (n : ℕ) → Passes (block_at true (length words) words) n → Passes (inside_of i b words) n
inside_passes i b words n p = passes_bind (block_at true (length words) words) (for_loop_made i b) n p (λ c k. k)

pub bound_passes : (i : List ℕ) (n : ℕ) (b : List ℕ × List TextToken) → length b.1 ≤ n → Passes (bound_of i b) n
bound_passes i n b h = passes_one (past mark.OpenBrace b.1) (inside_of i b.0) n (after_passes mark.OpenBrace b.1 n h) (λ inside l. inside_passes i b.0 inside n (block_at_goes true (length inside) inside n l))

pub end_passes : (i : List ℕ) (n : ℕ) (words : List TextToken) → length words ≤ n → Passes (end_of i words) n
end_passes i n words h = passes_bind (name_at words) (bound_of i) n (name_passes words n h) (bound_passes i n)

pub range_passes : (i : List ℕ) (n : ℕ) (words : List TextToken) → length words ≤ n → Passes (range_of i words) n
range_passes i n words h = passes_one (past mark.Range words) (end_of i) n (after_passes mark.Range words n h) (end_passes i n)

pub zero_of_passes : (i : List ℕ) (n : ℕ) (words : List TextToken) → length words ≤ n → Passes (zero_of i words) n
zero_of_passes i n words h = passes_one (zero_at words) (range_of i) n (zero_passes words n h) (range_passes i n)

pub index_passes : (n : ℕ) (i : List ℕ × List TextToken) → length i.1 ≤ n → Passes (index_of i) n
index_passes n i h = passes_one (past mark.In i.1) (zero_of i.0) n (after_passes mark.In i.1 n h) (zero_of_passes i.0 n)

pub for_loop_goes : Going for_loop_at
unfolding for_loop_at
for_loop_goes words n h = passes_bind (name_at words) index_of n (name_passes words n h) (index_passes n)

pub loop_goes : Going loop_at
unfolding loop_at
loop_goes words n h = passes_given mark.For words (λ rest. for_loop_at rest >>= (λ l. Ok (Some l.0, l.1))) (Ok (None, words)) n h
    (λ rest l. passes_bind (for_loop_at rest) (λ l. Ok (Some l.0, l.1)) n (for_loop_goes rest n l) (λ l k. k)) h

-- ---- the parts of a kernel

abbrev pub opened : Ty → List TextToken → Read (Option Ty)
opened t body = Ok (Some t, body)

pub type_opens : (words : List TextToken) (n : ℕ) → length words ≤ n → Passes (type_at words >>= (λ t. past mark.OpenBrace t.1 >>= opened t.0)) n
type_opens words n h = passes_bind (type_at words) (λ t. past mark.OpenBrace t.1 >>= opened t.0) n (type_passes words n h)
    (λ t l. passes_one (past mark.OpenBrace t.1) (opened t.0) n (after_passes mark.OpenBrace t.1 n l) (λ body k. k))

pub tail_goes : Going tail_at
unfolding tail_at
tail_goes words n h = passes_given mark.OpenBrace words (λ body. Ok (None, body)) (past mark.Arrow words >>= (λ from. type_at from >>= (λ t. past mark.OpenBrace t.1 >>= opened t.0))) n h (λ body k. k)
    (passes_one (past mark.Arrow words) (λ from. type_at from >>= (λ t. past mark.OpenBrace t.1 >>= opened t.0)) n (after_passes mark.Arrow words n h) (λ from l. type_opens from n l))

abbrev pub returned : Ty → Term → List TextToken → Read (Option Returned)
returned t e rest = Ok (Some (record { type = t; value = e }), rest)

pub close_passes : (t : Ty) (n : ℕ) (e : Term × List TextToken) → length e.1 ≤ n → Passes (past mark.CloseBrace e.1 >>= returned t e.0) n
close_passes t n e h = passes_one (past mark.CloseBrace e.1) (returned t e.0) n (after_passes mark.CloseBrace e.1 n h) (λ rest k. k)

pub return_passes : (t : Ty) (words : List TextToken) (n : ℕ) → Passes (term_at mark.Semicolon words) n → Passes (term_at mark.Semicolon words >>= (λ e. past mark.CloseBrace e.1 >>= returned t e.0)) n
return_passes t words n p = passes_bind (term_at mark.Semicolon words) (λ e. past mark.CloseBrace e.1 >>= returned t e.0) n p (close_passes t n)

pub answer_goes : (t : Option Ty) → Going (answer_by t)
unfolding answer_by
answer_goes None words n h = passes_one (past mark.CloseBrace words) (λ rest. Ok (None, rest)) n (after_passes mark.CloseBrace words n h) (λ rest k. k)
answer_goes (Some t) words n h = passes_one (past mark.Return words) (λ from. term_at mark.Semicolon from >>= (λ e. past mark.CloseBrace e.1 >>= returned t e.0)) n (after_passes mark.Return words n h) (λ from l. return_passes t from n (term_goes mark.Semicolon from n l))

-- ---- the kernel

-- reading to the end stops, if it does, with no more tokens left
abbrev pub PassesEnd : {A : Type 0} → Result A ℕ → ℕ → Type 0
PassesEnd (Ok x) n = Unit {0}
PassesEnd (Err left) n = left ≤ n

pub ends_bind : {A B : Type 0} (r : Result (A × List TextToken) ℕ) (f : A × List TextToken → Result B ℕ) (n : ℕ) → Passes r n → ((x : A × List TextToken) → length x.1 ≤ n → PassesEnd (f x) n) → PassesEnd (r >>= f) n
ends_bind (Ok x) f n p g = g x p
ends_bind (Err left) f n p g = p

pub ends_one : {B : Type 0} (r : Result (List TextToken) ℕ) (f : List TextToken → Result B ℕ) (n : ℕ) → PassesOne r n → ((x : List TextToken) → length x ≤ n → PassesEnd (f x) n) → PassesEnd (r >>= f) n
ends_one (Ok x) f n p g = g x p
ends_one (Err left) f n p g = p

alone_ends : {A : Type 0} (k : A) (words : List TextToken) (n : ℕ) → length words ≤ n → PassesEnd (alone k words) n
alone_ends k [] n h = tt
alone_ends k (w ∷ words) n h = h

-- what follows the parts of a kernel
abbrev pub by_answer : List ℕ → List Parameter → List Accumulator → Option PlainLoop → Option Returned × List TextToken → Result Program ℕ
by_answer x ps vs l a = alone (record { name = x; params = ps; vars = vs; for_loop = l; answer = a.0 }) a.1

abbrev pub by_for_loop : List ℕ → List Parameter → Option Ty → List Accumulator → Option PlainLoop × List TextToken → Result Program ℕ
by_for_loop x ps t vs l = answer_by t l.1 >>= by_answer x ps vs l.0

abbrev pub by_vars : List ℕ → List Parameter → Option Ty → List Accumulator × List TextToken → Result Program ℕ
by_vars x ps t vs = loop_at vs.1 >>= by_for_loop x ps t vs.0

abbrev pub by_tail : List ℕ → List Parameter → Option Ty × List TextToken → Result Program ℕ
by_tail x ps t = vars_at t.1 >>= by_vars x ps t.0

abbrev pub by_params : List ℕ → List Parameter × List TextToken → Result Program ℕ
by_params x ps = tail_at ps.1 >>= by_tail x ps.0

abbrev pub by_inside : List ℕ → List TextToken → Result Program ℕ
by_inside x inside = params_at inside >>= by_params x

abbrev pub by_name : List ℕ × List TextToken → Result Program ℕ
by_name x = past mark.OpenParen x.1 >>= by_inside x.0

abbrev pub by_kernel : List TextToken → Result Program ℕ
by_kernel from = name_at from >>= by_name

pub answer_ends : (x : List ℕ) (ps : List Parameter) (vs : List Accumulator) (l : Option PlainLoop) (n : ℕ) (a : Option Returned × List TextToken) → length a.1 ≤ n → PassesEnd (by_answer x ps vs l a) n
answer_ends x ps vs l n a h = alone_ends (record { name = x; params = ps; vars = vs; for_loop = l; answer = a.0 }) a.1 n h

pub for_loop_ends : (x : List ℕ) (ps : List Parameter) (t : Option Ty) (vs : List Accumulator) (n : ℕ) (l : Option PlainLoop × List TextToken) → length l.1 ≤ n → PassesEnd (by_for_loop x ps t vs l) n
for_loop_ends x ps t vs n l h = ends_bind (answer_by t l.1) (by_answer x ps vs l.0) n (answer_goes t l.1 n h) (answer_ends x ps vs l.0 n)

pub vars_end : (x : List ℕ) (ps : List Parameter) (t : Option Ty) (n : ℕ) (vs : List Accumulator × List TextToken) → length vs.1 ≤ n → PassesEnd (by_vars x ps t vs) n
vars_end x ps t n vs h = ends_bind (loop_at vs.1) (by_for_loop x ps t vs.0) n (loop_goes vs.1 n h) (for_loop_ends x ps t vs.0 n)

pub vars_go : Going vars_at
unfolding vars_at
vars_go words n h = vars_by_go (suc (length words)) words n h

pub tail_ends : (x : List ℕ) (ps : List Parameter) (n : ℕ) (t : Option Ty × List TextToken) → length t.1 ≤ n → PassesEnd (by_tail x ps t) n
tail_ends x ps n t h = ends_bind (vars_at t.1) (by_vars x ps t.0) n (vars_go t.1 n h) (vars_end x ps t.0 n)

pub params_end : (x : List ℕ) (n : ℕ) (ps : List Parameter × List TextToken) → length ps.1 ≤ n → PassesEnd (by_params x ps) n
params_end x n ps h = ends_bind (tail_at ps.1) (by_tail x ps.0) n (tail_goes ps.1 n h) (tail_ends x ps.0 n)

pub inside_ends : (x : List ℕ) (n : ℕ) (inside : List TextToken) → length inside ≤ n → PassesEnd (by_inside x inside) n
inside_ends x n inside h = ends_bind (params_at inside) (by_params x) n (params_go inside n h) (params_end x n)

pub name_ends : (n : ℕ) (x : List ℕ × List TextToken) → length x.1 ≤ n → PassesEnd (by_name x) n
name_ends n x h = ends_one (past mark.OpenParen x.1) (by_inside x.0) n (after_passes mark.OpenParen x.1 n h) (inside_ends x.0 n)

pub kernel_ends : (n : ℕ) (from : List TextToken) → length from ≤ n → PassesEnd (by_kernel from) n
kernel_ends n from h = ends_bind (name_at from) by_name n (name_passes from n h) (name_ends n)

pub whole_ends : (words : List TextToken) (n : ℕ) → length words ≤ n → PassesEnd (kernel_at words) n
unfolding kernel_at
whole_ends words n h = ends_one (past mark.Kernel words) by_kernel n (after_passes mark.Kernel words n h) (kernel_ends n)

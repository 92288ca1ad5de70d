-- What is printed of a kernel has that kernel as its tree, and its text can be read back.
use Rattle.std.proofs.Common.{ℕ, zero, suc, ◌≤◌, List, [], ◌∷◌, length, Bool, true, false, Option, Some, None, arith}
use Rattle.kernel_tree.specs.declared.ops.Ty.{Ty}
use Rattle.kernel_tree.specs.declared.ast.Shape.{Shape}
use Rattle.kernel_tree.specs.declared.ast.Shape.TheVariants as shape
use Rattle.kernel_tree.specs.declared.place.Place.TheVariants as site
use Rattle.kernel_tree.specs.declared.mark.Mark.TheVariants as mark
use Rattle.kernel_tree.specs.TextToken.{TextToken, IsName, IsMark}
use Rattle.kernel_tree.specs.Plain.{Term, Action, Define, Put, Update, Choose, Leave, Block, Done, Then, Nothing, Else, Parameter, Accumulator, PlainLoop, Returned, Program}
use Rattle.kernel_tree.specs.Grammar.{Spells, SpellsType, untyped, typed, SpellsAction, define, put, update, choose, choose_else, leave, SpellsBlock, done, then, SpellsParam, scalar, array, SpellsSome, last, more, SpellsParams, none, some, SpellsVars, no_var, var, SpellsLoop, no_loop, loop, Tree, procedure, function, IsTree}
use Rattle.kernel_tree.specs.Printing.{print_term, print_type, print_action, print_block, print_shape, print_param, print_others, print_params, print_vars, print_for_loop, canonical_words, canonical_text}
use Rattle.kernel_tree.specs.Text.{IsTextOf}
use Rattle.kernel_tree.proofs.Well.{Well, WellAction, WellBlock, WellVars, WellForLoop, WellProgram, tokens_from, well_tree}
use Rattle.kernel_print.proofs.Printed.{printed}
use Rattle.kernel_print.proofs.PrintedTokens.{canonical_tokens}
use Rattle.kernel_tree.proofs.Lexed.{tokens_of-joined_text}

spells_printed_term : (e : Term) → Well e → (rest : List TextToken) → Spells 10 (print_term e site.Alone rest) e rest
spells_printed_term e h rest = printed e h site.Alone rest

type_spells : (t : Option Ty) (rest : List TextToken) → SpellsType (print_type t rest) t rest
type_spells None rest = untyped
type_spells (Some t) rest = typed

mutual
  action_spells : (whole : Bool) (s : Action) → WellAction whole s → (rest : List TextToken) → SpellsAction whole (print_action s rest) s rest
  action_spells whole (Define x t e) h rest = define (type_spells t _) (spells_printed_term e h.1 _)
  action_spells whole (Put a i e) h rest = put (spells_printed_term i h.1.0 _) (spells_printed_term e h.1.1 _)
  action_spells whole (Update x op e) h rest = update (spells_printed_term e h.1 _)
  action_spells whole (Choose c b Nothing) h rest = choose (spells_printed_term c h.0 _) (block_spells false b h.1.0 rest)
  action_spells whole (Choose c b (Else d)) h rest = choose_else (spells_printed_term c h.0 _) (block_spells false b h.1.0 _) (block_spells false d h.1.1 rest)
  action_spells true (Leave c) h rest = leave (spells_printed_term c h.1 _)
  action_spells false (Leave c) h rest = let e = h.0 in absurd cc

  block_spells : (whole : Bool) (b : Block) → WellBlock whole b → (rest : List TextToken) → SpellsBlock whole (print_block b rest) b rest
  block_spells whole Done h rest = done
  block_spells whole (Then s b) h rest = then (action_spells whole s h.0 _) (block_spells whole b h.1 rest)

shape_spells : (x : List ℕ) (s : Shape) (rest : List TextToken) → SpellsParam (IsName x ∷ IsMark mark.Colon ∷ print_shape s rest) (record { name = x; shape = s }) rest
shape_spells x (shape.Scalar t) rest = scalar
shape_spells x (shape.Array t) rest = array

param_spells : (p : Parameter) (rest : List TextToken) → SpellsParam (print_param p rest) p rest
param_spells p rest = shape_spells p.name p.shape rest

some_spells : (others : ℕ) (p : Parameter) (ps : List Parameter) (rest : List TextToken) → length ps ≤ others → SpellsSome others (print_param p (print_others ps (IsMark mark.CloseParen ∷ rest))) (p ∷ ps) rest
some_spells others p [] rest h = last (param_spells p _)
some_spells zero p (q ∷ ps) rest h = absurd (omega arith)
some_spells (suc others) p (q ∷ ps) rest h = more (param_spells p _) (some_spells others q ps rest (omega arith))

params_spells : (ps : List Parameter) (rest : List TextToken) → length ps ≤ 8 → SpellsParams (print_params ps (IsMark mark.CloseParen ∷ rest)) ps rest
params_spells [] rest h = none
params_spells (p ∷ ps) rest h = some (some_spells 7 p ps rest (omega arith))

vars_spells : (vs : List Accumulator) → WellVars vs → (rest : List TextToken) → SpellsVars (print_vars vs rest) vs rest
vars_spells [] h rest = no_var
vars_spells (v ∷ vs) h rest = var (spells_printed_term v.init h.1.0 _) (vars_spells vs h.1.1 rest)

loop_spells : (l : Option PlainLoop) → WellForLoop l → (rest : List TextToken) → SpellsLoop (print_for_loop l rest) l rest
loop_spells None h rest = no_loop
loop_spells (Some l) h rest = loop (block_spells true l.body h.1.1 rest)

tree_at : (x : List ℕ) (ps : List Parameter) (vs : List Accumulator) (l : Option PlainLoop) (a : Option Returned) → let k : Program = record { name = x; params = ps; vars = vs; for_loop = l; answer = a } in WellProgram k → Tree (canonical_words k) k
tree_at x ps vs l None h = procedure (params_spells ps _ h.few) (vars_spells vs h.vars _) (loop_spells l h.for_loop _)
tree_at x ps vs l (Some a) h = function (params_spells ps _ h.few) (vars_spells vs h.vars _) (loop_spells l h.for_loop _) (spells_printed_term a.value h.answer _)

pub canonical_tree : (k : Program) → WellProgram k → Tree (canonical_words k) k
canonical_tree k h = tree_at k.name k.params k.vars k.for_loop k.answer h

pub read_back : (k : Program) → IsTree k → IsTextOf k (canonical_text k)
read_back k t =
    let h = well_tree t.tree (tokens_from t.words t.tokens) in
    record { words = canonical_words k; tokens = tokens_of-joined_text (canonical_words k) (canonical_tokens k h); tree = canonical_tree k h }

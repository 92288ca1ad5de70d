-- A kernel has no more than two items for each of its tokens, and is no deeper than it has tokens.
use Rattle.std.proofs.Common.{◌≡◌, ℕ, ◌+◌, ◌*◌, ◌<◌, ◌≤◌, ◌^◌, List, length, Bool, Option, Some, None, refl, arith}
use Rattle.std.specs.Prelude.{ℤ, max}
use Rattle.kernel_tree.specs.declared.mark.Joint.{Joint}
use Rattle.kernel_tree.specs.declared.mark.Joint.TheVariants as joint
use Rattle.kernel_tree.specs.declared.mark.Sign.{Sign}
use Rattle.kernel_tree.specs.declared.mark.Sign.TheVariants as sign
use Rattle.kernel_tree.specs.TextToken.{TextToken}
use Rattle.kernel_tree.specs.Plain.{Term, Action, Block, Parameter, Accumulator, PlainLoop, Program}
use Rattle.kernel_tree.specs.Items.{stream_offset, index_size, term_size, action_size, block_size, vars_size, for_loop_size, loop_index, size_of}
use Rattle.kernel_tree.specs.Limits.{term_depth, action_depth, block_depth, vars_depth, for_loop_depth, depth_of}
use Rattle.kernel_tree.specs.Grammar.{Spells, number, name, element, group, pair, absolute, choice, negative, prefix, up, conversion, shift, operation, comparison, joined, signed, SpellsType, untyped, typed, SpellsAction, define, put, update, choose, choose_else, leave, SpellsBlock, done, then, SpellsParam, scalar, array, SpellsSome, last, more, SpellsParams, none, some, SpellsVars, no_var, var, SpellsLoop, no_loop, loop, Tree, procedure, function}
use Rattle.kernel_types.specs.Short.{IsShort}

index_at_most : (o : Option ℤ) (n : ℕ) → index_size o n ≤ n
index_at_most None n = omega arith
index_at_most (Some c) n = omega arith

joined_size : (i : Option (List ℕ)) (j : Joint) (a b : Term) → term_size i (joined j a b) ≤ term_size i a + term_size i b + 2
joined_size i (joint.Dual op) a b = omega arith
joined_size i other a b = omega arith

signed_size : (i : Option (List ℕ)) (s : Sign) (e : Term) → term_size i (signed s e) ≡ term_size i e + 1
signed_size i sign.Minus e = refl
signed_size i other e = refl

joined_depth : (j : Joint) (a b : Term) → term_depth (joined j a b) ≡ max (term_depth a) (term_depth b) + 1
joined_depth (joint.Dual op) a b = refl
joined_depth other a b = refl

signed_depth : (s : Sign) (e : Term) → term_depth (signed s e) ≡ term_depth e + 1
signed_depth sign.Minus e = refl
signed_depth other e = refl

-- ---- sizes

term_items : {level : ℕ} {from : List TextToken} {e : Term} {rest : List TextToken} (i : Option (List ℕ)) → Spells level from e rest → term_size i e + 1 + 2 * length rest ≤ 2 * length from
term_items i number = omega arith
term_items i name = omega arith
term_items i (element {i = e} d) = omega (arith, term_items i d, index_at_most (stream_offset i e) (term_size i e))
term_items i (group d) = omega (arith, term_items i d)
term_items i (pair o a b) = omega (arith, term_items i a, term_items i b)
term_items i (absolute d) = omega (arith, term_items i d)
term_items i (choice c a b) = omega (arith, term_items i c, term_items i a, term_items i b)
term_items i negative = omega arith
term_items i (prefix {s = s} {e = e} o n d) = omega (arith, term_items i d, signed_size i s e)
term_items i (up d) = term_items i d
term_items i (conversion d o l) = omega (arith, term_items i d)
term_items i (shift d o l) = omega (arith, term_items i d)
term_items i (operation {j = j} {a = a} {b = b} d o l f) = omega (arith, term_items i d, term_items i f, joined_size i j a b)
term_items i (comparison d o l f) = omega (arith, term_items i d, term_items i f)

type_tokens : {from : List TextToken} {t : Option _} {rest : List TextToken} → SpellsType from t rest → length rest ≤ length from
type_tokens untyped = omega arith
type_tokens typed = omega arith

mutual
  action_items : {whole : Bool} {from : List TextToken} {a : Action} {rest : List TextToken} (i : Option (List ℕ)) → SpellsAction whole from a rest → action_size i a + 2 * length rest ≤ 2 * length from
  action_items i (define t d) = omega (arith, type_tokens t, term_items i d)
  action_items i (put o d) = omega (arith, term_items i o, term_items i d)
  action_items i (update d) = omega (arith, term_items i d)
  action_items i (choose c b) = omega (arith, term_items i c, block_items i b)
  action_items i (choose_else c b d) = omega (arith, term_items i c, block_items i b, block_items i d)
  action_items i (leave c) = omega (arith, term_items i c)

  block_items : {whole : Bool} {from : List TextToken} {b : Block} {rest : List TextToken} (i : Option (List ℕ)) → SpellsBlock whole from b rest → block_size i b + 2 * length rest ≤ 2 * length from
  block_items i done = omega arith
  block_items i (then a b) = omega (arith, action_items i a, block_items i b)

param_tokens : {from : List TextToken} {p : Parameter} {rest : List TextToken} → SpellsParam from p rest → 1 + length rest ≤ length from
param_tokens scalar = omega arith
param_tokens array = omega arith

some_items : {others : ℕ} {from : List TextToken} {ps : List Parameter} {rest : List TextToken} → SpellsSome others from ps rest → length ps + 2 * length rest ≤ 2 * length from
some_items (last p) = omega (arith, param_tokens p)
some_items (more p ps) = omega (arith, param_tokens p, some_items ps)

params_items : {from : List TextToken} {ps : List Parameter} {rest : List TextToken} → SpellsParams from ps rest → length ps + 2 * length rest ≤ 2 * length from
params_items none = omega arith
params_items (some d) = some_items d

vars_items : {from : List TextToken} {vs : List Accumulator} {rest : List TextToken} (i : Option (List ℕ)) → SpellsVars from vs rest → vars_size i vs + 2 * length rest ≤ 2 * length from
vars_items i no_var = omega arith
vars_items i (var d v) = omega (arith, term_items i d, vars_items i v)

for_loop_items : {from : List TextToken} {l : Option PlainLoop} {rest : List TextToken} → SpellsLoop from l rest → for_loop_size l + 2 * length rest ≤ 2 * length from
for_loop_items no_loop = omega arith
for_loop_items (loop {i = i} b) = omega (arith, block_items (Some i) b)

kernel_items : {words : List TextToken} (k : Program) → Tree words k → size_of k ≤ 2 * length words
kernel_items k (procedure p v l) = omega (arith, params_items p, vars_items (loop_index k) v, for_loop_items l)
kernel_items k (function p v l e) = omega (arith, params_items p, vars_items (loop_index k) v, for_loop_items l, term_items (loop_index k) e)

-- ---- depths

term_levels : {level : ℕ} {from : List TextToken} {e : Term} {rest : List TextToken} → Spells level from e rest → term_depth e + length rest ≤ length from
term_levels number = omega arith
term_levels name = omega arith
term_levels (element d) = omega (arith, term_levels d)
term_levels (group d) = omega (arith, term_levels d)
term_levels (pair o a b) = omega (arith, term_levels a, term_levels b)
term_levels (absolute d) = omega (arith, term_levels d)
term_levels (choice c a b) = omega (arith, term_levels c, term_levels a, term_levels b)
term_levels negative = omega arith
term_levels (prefix {s = s} {e = e} o n d) = omega (arith, term_levels d, signed_depth s e)
term_levels (up d) = term_levels d
term_levels (conversion d o l) = omega (arith, term_levels d)
term_levels (shift d o l) = omega (arith, term_levels d)
term_levels (operation {j = j} {a = a} {b = b} d o l f) = omega (arith, term_levels d, term_levels f, joined_depth j a b)
term_levels (comparison d o l f) = omega (arith, term_levels d, term_levels f)

mutual
  action_levels : {whole : Bool} {from : List TextToken} {a : Action} {rest : List TextToken} → SpellsAction whole from a rest → action_depth a + length rest ≤ length from
  action_levels (define t d) = omega (arith, type_tokens t, term_levels d)
  action_levels (put o d) = omega (arith, term_levels o, term_levels d)
  action_levels (update d) = omega (arith, term_levels d)
  action_levels (choose c b) = omega (arith, term_levels c, block_levels b)
  action_levels (choose_else c b d) = omega (arith, term_levels c, block_levels b, block_levels d)
  action_levels (leave c) = omega (arith, term_levels c)

  block_levels : {whole : Bool} {from : List TextToken} {b : Block} {rest : List TextToken} → SpellsBlock whole from b rest → block_depth b + length rest ≤ length from
  block_levels done = omega arith
  block_levels (then a b) = omega (arith, action_levels a, block_levels b)

vars_levels : {from : List TextToken} {vs : List Accumulator} {rest : List TextToken} → SpellsVars from vs rest → vars_depth vs + length rest ≤ length from
vars_levels no_var = omega arith
vars_levels (var d v) = omega (arith, term_levels d, vars_levels v)

for_loop_levels : {from : List TextToken} {l : Option PlainLoop} {rest : List TextToken} → SpellsLoop from l rest → for_loop_depth l + length rest ≤ length from
for_loop_levels no_loop = omega arith
for_loop_levels (loop b) = omega (arith, block_levels b)

kernel_levels : {words : List TextToken} (k : Program) → Tree words k → depth_of k ≤ length words
kernel_levels k (procedure p v l) = omega (arith, params_items p, vars_levels v, for_loop_levels l)
kernel_levels k (function p v l e) = omega (arith, params_items p, vars_levels v, for_loop_levels l, term_levels e)

-- ---- kernels

pub few_items : (k : Program) → IsShort k → size_of k < 2 ^ 32
few_items k s = omega (arith, kernel_items k s.tree, s.few)

pub few_levels : (k : Program) → IsShort k → depth_of k < 2 ^ 32
few_levels k s = omega (arith, kernel_levels k s.tree, s.few)

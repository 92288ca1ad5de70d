-- In a kernel that some text spells, each break stands in the loop's own block.
use Rattle.std.proofs.Common.{◌≡◌, ℕ, ◌+◌, Bool, true, false, List, [], ◌∷◌, Option, Some, None, refl, ap, ◌∙◌}
use Rattle.std.specs.List.{list_any}
use Rattle.std.proofs.lemmas.Bool.{and_parts}
use Rattle.kernel_tree.specs.Plain.{Term, Either, Action, Define, Put, Update, Choose, Leave, Block, Done, Then, Otherwise, Nothing, Else, PlainLoop, Program}
use Rattle.kernel_tree.specs.Items.{stream_offset, term_size, action_size, block_size, loop_start}
use Rattle.kernel_tree.specs.Typing.{Scope, own, first, after_action, after_block, left, in_loop, var_scope, array_type}
use Rattle.kernel_tree.specs.Loops.{is_whole, is_whole_block, is_whole_otherwise, is_outer, has_outer_breaks}
use Rattle.kernel_tree.proofs.Spelled.{few_params, outer_breaks}
use Rattle.loop_form.specs.LoopItems.{Bound, accumulator_of, Item, item, truth_home, after_env, break_items, leave_items, action_items, block_items, otherwise_items, loop_env, loop_items}
use Rattle.loop_form.specs.LoopItems as ops
use Rattle.first_fault.specs.KernelFits.{is_inner_break, TreeIsSpelled}
use Rattle.first_fault.proofs.TopBreaks.{breaks_of, outer_of, store_breaks, term_breaks}

-- ---- blocks without a break

mutual
  free_action : (a : Action) (s : Scope) (mask : Option ℕ) (b : ℕ) (env : List Bound) (rest : List Item) → is_whole a ≡ true → breaks_of (action_items s mask b env a rest) ≡ breaks_of rest
  free_action (Define x t e) s mask b env rest w = (term_breaks e).as_value s (first t (own s e)) mask b env _
  free_action (Put a j e) s mask b env rest w = (term_breaks e).as_value s (array_type s a) mask b env _ ∙ store_breaks s mask _ env a (stream_offset s.index j) _ rest
  free_action (Update x op e) s mask b env rest w = (term_breaks e).as_value s (accumulator_of s x) mask b env _
  free_action (Choose c t d) s mask b env rest w =
      let parts = and_parts (is_whole_block t) (is_whole_otherwise d) w in
      (term_breaks c).as_cond s mask b env _ ∙ free_block t s (Some (truth_home s.index b c)) (b + term_size s.index c + 1) env _ parts.0
      ∙ free_otherwise d (left s (after_block s t)) mask (b + term_size s.index c + 1 + block_size s.index t) (truth_home s.index b c) env rest parts.1
  free_action (Leave c) s mask b env rest w = absurd cc

  free_block : (t : Block) (s : Scope) (mask : Option ℕ) (b : ℕ) (env : List Bound) (rest : List Item) → is_whole_block t ≡ true → breaks_of (block_items s mask b env t rest) ≡ breaks_of rest
  free_block Done s mask b env rest w = refl
  free_block (Then a t) s mask b env rest w =
      let parts = and_parts (is_whole a) (is_whole_block t) w in
      free_action a s mask b env _ parts.0 ∙ free_block t (after_action s a) mask (b + action_size s.index a) (after_env s b env a) rest parts.1

  free_otherwise : (d : Otherwise) (s : Scope) (mask : Option ℕ) (b c : ℕ) (env : List Bound) (rest : List Item) → is_whole_otherwise d ≡ true → breaks_of (otherwise_items s mask b c env d rest) ≡ breaks_of rest
  free_otherwise Nothing s mask b c env rest w = refl
  free_otherwise (Else t) s mask b c env rest w = free_block t s (Some b) (b + 1) env rest w

-- ---- the loop's own block

some_inner : List Item → Bool
some_inner items = list_any is_inner_break items

outer_break : (c : Term) (s : Scope) (b : ℕ) (env : List Bound) (rest : List Item) → some_inner (breaks_of (break_items s None b env c rest)) ≡ some_inner (breaks_of rest)
unfolding some_inner
outer_break c s b env rest = ap some_inner ((term_breaks c).as_cond s None b env (item (b + term_size s.index c) None (ops.Break (truth_home s.index b c)) ∷ rest))

outer_leave : (c : Term) (s : Scope) (b : ℕ) (env : List Bound) (rest : List Item) → some_inner (breaks_of (leave_items s None b env c rest)) ≡ some_inner (breaks_of rest)
outer_leave (Either x y) s b env rest = outer_leave x s b env _ ∙ outer_break y s (b + term_size s.index x + 1) env rest
outer_leave c s b env rest = outer_break c s b env rest

outer_action : (a : Action) (s : Scope) (b : ℕ) (env : List Bound) (rest : List Item) → is_outer a ≡ true → some_inner (breaks_of (action_items s None b env a rest)) ≡ some_inner (breaks_of rest)
unfolding some_inner
outer_action (Define x t e) s b env rest w = ap some_inner ((term_breaks e).as_value s (first t (own s e)) None b env _)
outer_action (Put a j e) s b env rest w = ap some_inner ((term_breaks e).as_value s (array_type s a) None b env _ ∙ store_breaks s None _ env a (stream_offset s.index j) _ rest)
outer_action (Update x op e) s b env rest w = ap some_inner ((term_breaks e).as_value s (accumulator_of s x) None b env _)
outer_action (Choose c t d) s b env rest w =
    let parts = and_parts (is_whole_block t) (is_whole_otherwise d) w in
    ap some_inner (
    (term_breaks c).as_cond s None b env _ ∙ free_block t s (Some (truth_home s.index b c)) (b + term_size s.index c + 1) env _ parts.0
    ∙ free_otherwise d (left s (after_block s t)) None (b + term_size s.index c + 1 + block_size s.index t) (truth_home s.index b c) env rest parts.1)
outer_action (Leave c) s b env rest w = outer_leave c s b env rest

outer_block : (t : Block) (s : Scope) (b : ℕ) (env : List Bound) → has_outer_breaks t ≡ true → some_inner (breaks_of (block_items s None b env t [])) ≡ false
unfolding some_inner
outer_block Done s b env w = refl
outer_block (Then a t) s b env w =
    let parts = and_parts (is_outer a) (has_outer_breaks t) w in
    outer_action a s b env _ parts.0 ∙ outer_block t (after_action s a) (b + action_size s.index a) (after_env s b env a) parts.1

-- ---- kernels

outer_loop : (k : Program) (l : PlainLoop) → has_outer_breaks l.body ≡ true → list_any is_inner_break (loop_items k l) ≡ false
unfolding some_inner
outer_loop k l w = outer_of (loop_items k l) ∙ outer_block l.body (in_loop (var_scope k) l) (loop_start k + 1) (loop_env (var_scope k) l.index) w

pub as_spelled : TreeIsSpelled
as_spelled k l tree for_loop = record { few = few_params k tree; outer = outer_loop k l (outer_breaks k l tree for_loop) }

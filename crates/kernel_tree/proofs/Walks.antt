-- A walk over the parts of a kernel, one after another: the next one, the end, and the scope that is left.
use Rattle.std.proofs.Common.{◌≡◌, ℕ, ◌+◌, ◌-◌, ◌<◌, ◌≤◌, ◌^◌, List, [], ◌∷◌, ◌++◌, Option, None, Some, length, drop, get_or, refl, take, sym, ap, ap₂, ◌∙◌, arith, add-one, drop-cons, append_assoc}
use Rattle.std.specs.Prelude.{MatchOption, option_and_then}
use Rattle.std.proofs.lemmas.List.{drop_all}
use Rattle.std.proofs.lemmas.Slice.{first_rest}
use Rattle.kernel_tree.specs.declared.ops.Ty.{Ty}
use Rattle.kernel_tree.specs.declared.ast.Param.{Param}
use Rattle.kernel_tree.specs.declared.ast.Stmt.{Stmt}
use Rattle.kernel_tree.specs.declared.ast.Var.{Var}
use Rattle.kernel_tree.specs.declared.fault.Binding.{Binding}
use Rattle.kernel_tree.specs.Plain.{Term, Action, Choose, Block, Done, Then, Else, Program, action_of, block_of, parameters_of, accumulators_of}
use Rattle.kernel_tree.specs.Items.{loop_index, action_size, block_size}
use Rattle.kernel_tree.specs.Typing.{Scope, left, after_action, after_block, accumulator_type, var_scope}
use Rattle.kernel_tree.proofs.Scopes.{scope_index}

-- ---- the next part

pub next_item : {A : Type 0} (xs : List A) (i : ℕ) (x : A) → i < length xs → x ≡ get_or xs i x → drop i xs ≡ x ∷ drop (i + 1) xs
next_item xs i x h g = drop-cons xs i x h ∙ ap₂ (λ y n. y ∷ drop n xs) (sym g) (sym (add-one i))

pub next_statement : (xs : List Stmt) (i : ℕ) (x : Stmt) → i < length xs → x ≡ get_or xs i x → block_of (drop i xs) ≡ Then (action_of x) (block_of (drop (i + 1) xs))
next_statement xs i x h g = ap block_of (next_item xs i x h g)

pub statement_room : (i j : Option (List ℕ)) (whole x more : Block) (a : Action) (from at : ℕ) → x ≡ Then a more → at + block_size i x ≡ from + block_size j whole → from + block_size j whole < 2 ^ 32 → at + action_size i a < 2 ^ 32
statement_room i j whole x more a from at e f h = omega (arith, ap (block_size i) e, f, h)

pub smaller_room : (n a : ℕ) → n + (a + 1) < 2 ^ 32 → n + a < 2 ^ 32
smaller_room n a h = omega arith

-- what was listed and what is left are the whole, also one place on
pub listed_one_on : {A : Type 0} (old new whole : List A) (x : A) (rest all : List A) → new ≡ old ++ x ∷ [] → all ≡ x ∷ rest → old ++ all ≡ whole → new ++ rest ≡ whole
listed_one_on old new whole x rest all n a w = ap (λ l. l ++ rest) n ∙ append_assoc old (x ∷ []) rest ∙ ap (λ l. old ++ l) (sym a) ∙ w

-- ---- the first of a list and the others

pub opened : {A : Type 0} (xs : List A) (x : A) → 1 ≤ length xs → x ≡ get_or xs 0 x → xs ≡ x ∷ take (length xs - 1) (drop 1 xs)
opened xs x n is = first_rest xs x n ∙ ap (λ y. y ∷ take (length xs - 1) (drop 1 xs)) (sym is)

pub empty_below_one : {A : Type 0} (xs : List A) → length xs < 1 → xs ≡ []
empty_below_one [] n = refl
empty_below_one (x ∷ xs) n = absurd (omega (arith, n))

-- ---- the end

pub no_statement : (xs : List Stmt) (i : ℕ) → length xs ≤ i → block_of (drop i xs) ≡ Done
no_statement xs i h = ap block_of (drop_all i xs h)

pub no_statement-sym : (xs : List Stmt) (i : ℕ) → length xs ≤ i → Done ≡ block_of (drop i xs)
no_statement-sym xs i h = sym (no_statement xs i h)

pub no_param : (ps : List Param) (i : ℕ) → length ps ≤ i → parameters_of (drop i ps) ≡ []
no_param ps i h = ap parameters_of (drop_all i ps h)

pub no_var : (vs : List Var) (i : ℕ) → length vs ≤ i → accumulators_of (drop i vs) ≡ []
no_var vs i h = ap accumulators_of (drop_all i vs h)

-- ---- the scope

pub after_two_blocks : (s t u : Scope) (c : Term) (b d : Block) → t ≡ left s (after_block s b) → u ≡ left t (after_block t d) → u ≡ after_action s (Choose c b (Else d))
after_two_blocks s t u c b d e f = f ∙ ap (λ (x : Scope). left x (after_block x d)) e

pub var_scope-index : (k : Program) (s : Scope) → s ≡ var_scope k → s.index ≡ loop_index k
var_scope-index k s e = ap (λ (r : Scope). r.index) e ∙ scope_index k

pub update_type : (o : Option Binding) (want : Option Ty) → MatchOption o (want ≡ None) (λ x. want ≡ accumulator_type x) → want ≡ option_and_then accumulator_type o
update_type None want h = h
update_type (Some b) want h = h

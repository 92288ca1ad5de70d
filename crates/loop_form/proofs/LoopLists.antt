-- What the lists of a loop's items want: a statement has an item, and the names at the loop's head.
use Rattle.std.proofs.Common.{◌≡◌, ℕ, suc, ◌+◌, ◌≤◌, List, [], ◌∷◌, ◌++◌, length, map, Option, sym, ap, ap₂, ◌∙◌, subst, arith, true, append_assoc}
use Rattle.std.proofs.lemmas.List.{map_push}
use Rattle.kernel_tree.specs.Plain.{Action, Define, PlainLoop, Program}
use Rattle.kernel_tree.specs.Items.{loop_index, action_size}
use Rattle.kernel_tree.specs.Typing.{Local, local, var_scope, in_loop}
use Rattle.kernel_tree.specs.Scopes.{param_local, var_local}
use Rattle.kernel_tree.proofs.Scopes.{scope_index, var_visible}
use Rattle.loop_form.specs.declared.loop_item.Operand.TheVariants.{Outer, LoopIndex}
use Rattle.loop_form.specs.declared.visible.Visible.{Visible}
use Rattle.loop_form.specs.LoopItems.{Bound, bound, outer_env, loop_env}
use Rattle.loop_form.specs.LoopView.{local_of, bound_of, locals, env_of, scope_of, AddsOuter, IsLoopHead}
use Rattle.kernel_tree.specs.declared.fault.Binding.TheVariants as binding

-- a statement has an item
pub some_item : (i : Option (List ℕ)) (s : Action) → 1 ≤ action_size i s
some_item i (Define x t e) = omega arith
some_item i other = omega arith

-- one more value of a list that is made of another one by one
pub one-more : {A B C : Type 0} (g : A → B) (f : B → C) (xs ys : List A) (x : A) (new old whole : List C) (y : C) → ys ≡ x ∷ xs → new ≡ old ++ y ∷ [] → y ≡ f (g x) → old ++ map f (map g ys) ≡ whole → new ++ map f (map g xs) ≡ whole
one-more g f xs ys x new old whole y e n h w = ap (λ l. l ++ map f (map g xs)) (n ∙ ap (λ z. old ++ z ∷ []) h) ∙ append_assoc old (f (g x) ∷ []) (map f (map g xs)) ∙ sym (ap (λ l. old ++ map f (map g l)) e) ∙ w

-- ---- the names at the head

outer-append : (n : ℕ) (xs ys : List Local) → outer_env n (xs ++ ys) ≡ outer_env n xs ++ outer_env (n + length xs) ys
outer-append n [] ys = ap (λ m. outer_env m ys) (let e : n ≡ n + 0 = omega arith in e)
outer-append n (x ∷ xs) ys = ap (λ l. bound x.name (Outer n) ∷ l) (outer-append (suc n) xs ys ∙ ap (λ m. outer_env (suc n) xs ++ outer_env m ys) (let e : suc n + length xs ≡ n + length (x ∷ xs) = omega arith in e))

pub loop-head : (k : Program) (l : PlainLoop) (ps vs names : List Visible) (v : Visible) → AddsOuter (map param_local k.params) [] ps → AddsOuter (map var_local k.vars) ps vs → names ≡ vs ++ v ∷ [] → local_of v ≡ local l.index binding.Index → bound_of v ≡ bound l.index LoopIndex → IsLoopHead k l names
loop-head k l ps vs names v p q n a b = (scope, env)
  where
    entries_view : locals names ≡ (var_scope k).visible ++ local l.index binding.Index ∷ []
    entries_view = ap locals n ∙ map_push local_of vs v ∙ ap₂ (λ (xs : List Local) (y : Local). xs ++ y ∷ []) (q.0 ∙ ap (λ xs. xs ++ map var_local k.vars) p.0 ∙ sym (var_visible k)) a

    scope : in_loop (var_scope k) l ≡ scope_of (loop_index k) names (in_loop (var_scope k) l).taken
    scope = ap₂ (λ (xs : List Local) (i : Option (List ℕ)). record { visible = xs; taken = (in_loop (var_scope k) l).taken; index = i; inside = true }) (sym entries_view) (scope_index k)

    places : env_of vs ≡ outer_env 0 (var_scope k).visible
    places = q.1 ∙ ap₂ (λ (xs ys : List Bound). xs ++ ys) p.1 (ap (λ m. outer_env m (map var_local k.vars)) p.2) ∙ sym (outer-append 0 (map param_local k.params) (map var_local k.vars)) ∙ ap (outer_env 0) (sym (var_visible k))

    env : loop_env (var_scope k) l.index ≡ env_of names
    env = sym (ap env_of n ∙ map_push bound_of vs v ∙ ap₂ (λ (xs : List Bound) (y : Bound). xs ++ y ∷ []) places b)

-- the same names, said otherwise
pub adds-same : (more more' : List Local) (old old' new : List Visible) → more ≡ more' → old ≡ old' → AddsOuter more old new → AddsOuter more' old' new
adds-same more more' old old' new e f h = subst (λ (l : List Local). AddsOuter l old' new) e (subst (λ (l : List Visible). AddsOuter more l new) f h)

-- The name that a `let` declares, at the end of those that are visible.
use Rattle.std.proofs.Common.{◌≡◌, ℕ, ◌+◌, List, [], ◌∷◌, ◌++◌, ◌∙◌, length, take, Option, Some, Bool, true, false, sym, ap, subst, arith}
use Rattle.std.specs.Prelude.{Result, Ok, Err, if◌then◌else◌}
use Rattle.std.specs.Result.{is_ok, is_err}
use Rattle.std.proofs.lemmas.List.{take_all, take-append-le, map-append}
use Rattle.kernel_tree.specs.declared.ops.Ty.{Ty}
use Rattle.kernel_tree.specs.declared.fault.Binding.TheVariants.{Value}
use Rattle.kernel_tree.specs.Plain.{Term, Action, Define}
use Rattle.kernel_tree.specs.Items.{term_size}
use Rattle.kernel_tree.specs.Typing.{Local, local, own, first, insert_name, defined, after_action}
use Rattle.loop_form.specs.declared.loop_item.Operand.TheVariants.{Made}
use Rattle.loop_form.specs.declared.visible.Visible.{Visible}
use Rattle.loop_form.specs.LoopItems.{Bound, bound, with_bound, after_env}
use Rattle.loop_form.specs.LoopView.{local_of, bound_of, locals, env_of, scope_of, Declares}

module _ {A T E : Type 0} (old new more : List A) (r : Result T E) (b : Bool) (is : b ≡ is_err r) (items : new ≡ (if is_ok r then more else old)) where
  pub not_pushed : b ≡ true → take (length old) new ≡ old
  not_pushed e = go r (sym is ∙ e) items
    where
      go : (r : Result T E) → is_err r ≡ true → new ≡ (if is_ok r then more else old) → take (length old) new ≡ old
      go (Ok x) f n = cc
      go (Err x) f n = ap (take (length old)) n ∙ take_all (length old) old (omega arith)

  pub pushed : b ≡ false → new ≡ more
  pushed e = go r (sym is ∙ e) items
    where
      go : (r : Result T E) → is_err r ≡ false → new ≡ (if is_ok r then more else old) → new ≡ more
      go (Ok x) f n = n
      go (Err x) f n = cc

pub old_kept : {A : Type 0} (old new : List A) (x : A) → new ≡ old ++ x ∷ [] → take (length old) new ≡ old
old_kept old new x n = ap (take (length old)) n ∙ take-append-le (length old) old (x ∷ []) (omega arith) ∙ take_all (length old) old (omega arith)

module _ (i : Option (List ℕ)) (from : ℕ) (names new : List Visible) (v : Visible) (x : List ℕ) (ty : Option Ty) (e : Term) (t : Ty) where
  pub name_declared : (s : Action) → new ≡ names ++ v ∷ [] → local_of v ≡ local x (Value t) → bound_of v ≡ bound x (Made (from + term_size i e)) → s ≡ Define x ty e
      → ((taken : List (List ℕ)) → Some t ≡ first ty (own (scope_of i names taken) e)) → Declares i from s names new
  name_declared s n l b is has taken =
      let S = scope_of i names taken in
      let visible : locals new ≡ locals names ++ local x (Value t) ∷ [] = ap locals n ∙ map-append local_of names (v ∷ []) ∙ ap (λ (y : Local). locals names ++ y ∷ []) l in
      let places : env_of new ≡ env_of names ++ bound x (Made (from + term_size i e)) ∷ [] = ap env_of n ∙ map-append bound_of names (v ∷ []) ∙ ap (λ (y : Bound). env_of names ++ y ∷ []) b in
      let scope : defined S x (Some t) ≡ scope_of i new (defined S x (Some t)).taken = ap (λ (vs : List Local). record { visible = vs; taken = insert_name taken x; index = i; inside = true }) (sym visible) in
      let both = subst (λ (o : Option Ty). (defined S x o ≡ scope_of i new (defined S x o).taken) × (with_bound (env_of names) x o (from + term_size i e) ≡ env_of new)) (has taken) (scope, sym places) in
      subst (λ (a : Action). (after_action S a ≡ scope_of i new (after_action S a).taken) × (after_env S from (env_of names) a ≡ env_of new)) (sym is) both

-- What is known at the head of a checked kernel's loop.
use Rattle.std.proofs.Common.{◌≡◌, ℕ, Bool, true, false, cond, List, [], ◌∷◌, ◌++◌, Some, None, refl, sym, ap, ap₂, ◌∙◌, subst}
use Rattle.std.specs.Prelude.{bytes_eq, find, option_map, option_and_then, ◌||◌}
use Rattle.std.specs.List.{list_any}
use Rattle.kernel_tree.specs.declared.ops.Ty.{Ty}
use Rattle.kernel_tree.specs.declared.ast.Shape.{Shape}
use Rattle.kernel_tree.specs.Plain.{Parameter, Accumulator, PlainLoop, Program}
use Rattle.kernel_tree.specs.Typing.{local, has_name, binding_of, accumulator_type, binding_of_shape, var_scope, in_loop, check_fault}
use Rattle.kernel_tree.specs.Scopes.{locals_of, accs_of}
use Rattle.kernel_tree.proofs.Scopes.{var_visible, scope_index}
use Rattle.kernel_tree.proofs.Names.{NoName, index_alone, array_alone}
use Rattle.kernel_meaning.specs.Eval.{Names, is_named}
use Rattle.kernel_meaning.specs.ScalarRun.{argument_names}
use Rattle.kernel_meaning.proofs.Started.{SameNames}
use Rattle.vector_order.specs.Order.{is_var, is_accumulator, Steady}
use Rattle.vector_order.proofs.VectorKernels.{ScopeOk}
use Rattle.vector_order.proofs.NamesHeld.{AccsIn}
use Rattle.kernel_tree.specs.declared.ast.Shape.TheVariants as shape
use Rattle.kernel_tree.specs.declared.fault.Binding.TheVariants as binding

-- ---- names that are no accumulators

pub no_names : (x : List ℕ) (vs : List Accumulator) → NoName x (accs_of vs) → list_any (is_var x) vs ≡ false
no_names x [] h = refl
no_names x (v ∷ vs) h = ap₂ (λ a b. a || b) h.0 (no_names x vs h.1)

-- ---- the scope of the body

accs_told : (vs : List Accumulator) (index x : List ℕ) (t : Ty) → option_and_then accumulator_type (option_map binding_of (find (has_name x) (accs_of vs ++ local index binding.Index ∷ []))) ≡ Some t → list_any (is_var x) vs ≡ true
accs_told [] index x t e = by_test (bytes_eq index x) e
  where
    by_test : (b : Bool) → option_and_then accumulator_type (option_map binding_of (cond b (Some (local index binding.Index)) None)) ≡ Some t → false ≡ true
    by_test true e = absurd cc
    by_test false e = absurd cc
accs_told (v ∷ vs) index x t e = by_test (bytes_eq v.name x) e (accs_told vs index x t)
  where
    by_test : (b : Bool) → option_and_then accumulator_type (option_map binding_of (cond b (Some (local v.name (binding.Accumulator v.type))) (find (has_name x) (accs_of vs ++ local index binding.Index ∷ [])))) ≡ Some t
        → (option_and_then accumulator_type (option_map binding_of (find (has_name x) (accs_of vs ++ local index binding.Index ∷ []))) ≡ Some t → list_any (is_var x) vs ≡ true) → b || list_any (is_var x) vs ≡ true
    by_test true e h = refl
    by_test false e h = h e

shape_acc : (s : Shape) (t : Ty) → accumulator_type (binding_of_shape s) ≡ Some t → ⊥
shape_acc (shape.Scalar u) t e = cc
shape_acc (shape.Array u) t e = cc

params_told : (ps : List Parameter) (vs : List Accumulator) (index x : List ℕ) (t : Ty) → option_and_then accumulator_type (option_map binding_of (find (has_name x) ((locals_of ps ++ accs_of vs) ++ local index binding.Index ∷ []))) ≡ Some t → list_any (is_var x) vs ≡ true
params_told [] vs index x t e = accs_told vs index x t e
params_told (p ∷ ps) vs index x t e = by_test (bytes_eq p.name x) e (params_told ps vs index x t)
  where
    by_test : (b : Bool) → option_and_then accumulator_type (option_map binding_of (cond b (Some (local p.name (binding_of_shape p.shape))) (find (has_name x) ((locals_of ps ++ accs_of vs) ++ local index binding.Index ∷ [])))) ≡ Some t
        → (option_and_then accumulator_type (option_map binding_of (find (has_name x) ((locals_of ps ++ accs_of vs) ++ local index binding.Index ∷ []))) ≡ Some t → list_any (is_var x) vs ≡ true) → list_any (is_var x) vs ≡ true
    by_test true e h = absurd (shape_acc p.shape t e)
    by_test false e h = h e

pub head_ok : (k : Program) (l : PlainLoop) → check_fault k ≡ None → ScopeOk k (in_loop (var_scope k) l)
head_ok k l checked = record {
  index = scope_index k;
  arrays = λ a t h. no_names a k.vars (array_alone k l a t checked h);
  accs = λ x t h. params_told k.params k.vars l.index x t (ap (λ vs. option_and_then accumulator_type (option_map binding_of (find (has_name x) (vs ++ local l.index binding.Index ∷ [])))) (sym (var_visible k)) ∙ h);
}

-- ---- the loop's variable

pub index_free : (k : Program) (l : PlainLoop) → check_fault k ≡ None → k.for_loop ≡ Some l → is_accumulator k l.index ≡ false
index_free k l checked loop = no_names l.index k.vars (index_alone k l checked loop).vars

-- ---- the names

any_right : (x : List ℕ) (xs ys : Names) → list_any (is_named x) ys ≡ true → list_any (is_named x) (xs ++ ys) ≡ true
any_right x [] ys h = h
any_right x (n ∷ xs) ys h = by_test (bytes_eq n.name x) (any_right x xs ys h)
  where
    by_test : (b : Bool) → list_any (is_named x) (xs ++ ys) ≡ true → b || list_any (is_named x) (xs ++ ys) ≡ true
    by_test true h = refl
    by_test false h = h

vars_in : (x : List ℕ) (vs : List Accumulator) (ns : Names) → SameNames (accs_of vs) ns → list_any (is_var x) vs ≡ true → list_any (is_named x) ns ≡ true
vars_in x [] [] h e = absurd cc
vars_in x [] (n ∷ ns) h e = elim h [ ]
vars_in x (v ∷ vs) [] h e = elim h [ ]
vars_in x (v ∷ vs) (n ∷ ns) h e = subst (λ y. bytes_eq y x || list_any (is_named x) ns ≡ true) h.0 (by_test (bytes_eq v.name x) e (vars_in x vs ns h.1))
  where
    by_test : (b : Bool) → b || list_any (is_var x) vs ≡ true → (list_any (is_var x) vs ≡ true → list_any (is_named x) ns ≡ true) → b || list_any (is_named x) ns ≡ true
    by_test true e h = refl
    by_test false e h = h e

pub started_accs : (k : Program) (args : List ℕ) (names : Names) → (more : Names) × (names ≡ argument_names k.params args ++ more) × SameNames (accs_of k.vars) more → AccsIn (is_accumulator k) names
started_accs k args names r x a = subst (λ ns. list_any (is_named x) ns ≡ true) (sym r.1) (any_right x (argument_names k.params args) r.0 (vars_in x k.vars r.0 r.2 a))

pub steady_accs : (k : Program) (ms ns : Names) → Steady k ms ns → AccsIn (is_accumulator k) ms → AccsIn (is_accumulator k) ns
steady_accs k ms ns st h x a = names_in x ms ns st (h x a)
  where
    names_in : (x : List ℕ) (ms ns : Names) → Steady k ms ns → list_any (is_named x) ms ≡ true → list_any (is_named x) ns ≡ true
    names_in x [] [] st e = e
    names_in x [] (n ∷ ns) st e = elim st [ ]
    names_in x (m ∷ ms) [] st e = elim st [ ]
    names_in x (m ∷ ms) (n ∷ ns) st e = subst (λ y. bytes_eq y x || list_any (is_named x) ns ≡ true) st.0 (by_test (bytes_eq m.name x) e (names_in x ms ns st.2))
      where
        by_test : (b : Bool) → b || list_any (is_named x) ms ≡ true → (list_any (is_named x) ms ≡ true → list_any (is_named x) ns ≡ true) → b || list_any (is_named x) ns ≡ true
        by_test true e h = refl
        by_test false e h = h e

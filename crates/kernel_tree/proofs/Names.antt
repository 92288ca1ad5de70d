-- The names of a checked kernel are free where they are declared: no accumulator has a parameter's name, and the loop
-- variable has the name of neither.
use Rattle.std.proofs.Common.{◌≡◌, ℕ, zero, suc, ◌+◌, Bool, true, false, cond, List, [], ◌∷◌, ◌++◌, Option, Some, None, refl, sym, ap, ◌∙◌, subst, arith}
use Rattle.std.proofs.lemmas.Slice.Eq.{bytes_eq-Decides}
use Rattle.std.specs.Prelude.{bytes_eq, find, option_map, option_and_then, slice_get, ◌||◌}
use Rattle.std.specs.List.{list_any}
use Rattle.kernel_tree.specs.declared.ops.Ty.{Ty}
use Rattle.kernel_tree.specs.declared.ops.Ty.TheVariants.{U64}
use Rattle.kernel_tree.specs.declared.ast.Shape.{Shape}
use Rattle.kernel_tree.specs.declared.ast.Shape.TheVariants as shape
use Rattle.kernel_tree.specs.declared.fault.Binding.TheVariants as binding
use Rattle.kernel_tree.specs.Plain.{Parameter, Accumulator, PlainLoop, Program}
use Rattle.kernel_tree.specs.Items.{loop_index, term_size}
use Rattle.kernel_tree.specs.Typing.{Scope, Local, local, Value, has_name, binding_of, is_taken, declared, insert_name, element_type, binding_of_shape, empty, after_params, after_vars, param_scope, var_scope, in_loop, faults, twice, vars_faults, check_fault}
use Rattle.kernel_tree.specs.Loops.{HasBound}
use Rattle.kernel_tree.specs.Scopes.{param_local, var_local, locals_of, accs_of}
use Rattle.kernel_tree.proofs.Faultless.{nil-left, nil-right, vars_faultless, index_faultless}
use Rattle.kernel_tree.proofs.NoFault.{not_added, bound_scalar}
use Rattle.kernel_tree.proofs.Scopes.{var_visible}
pub use Rattle.number_text.proofs.Bytes.{bytes_eq-told, bytes_eq-refl}

-- ---- names that are the same

pub bytes_swap : (x y : List ℕ) → bytes_eq x y ≡ false → bytes_eq y x ≡ false
bytes_swap x y h = grind (arith, bytes_eq-Decides)

-- ---- names that are declared before

-- none of these has the name
abbrev pub NoName : List ℕ → List Local → Type 0
NoName x [] = Unit {0}
NoName x (v ∷ vs) = (bytes_eq v.name x ≡ false) × NoName x vs

abbrev pub Untaken : List ℕ → List (List ℕ) → Type 0
Untaken x names = list_any (bytes_eq x) names ≡ false

pub no_name-append : (x : List ℕ) (xs ys : List Local) → NoName x xs → NoName x ys → NoName x (xs ++ ys)
no_name-append x [] ys h k = k
no_name-append x (v ∷ xs) ys h k = (h.0, no_name-append x xs ys h.1 k)

any_last : (x y : List ℕ) (names : List (List ℕ)) → Untaken x (names ++ y ∷ []) → Untaken x names × (bytes_eq x y ≡ false)
any_last x y [] e = (refl, by_test (bytes_eq x y) e)
  where
    by_test : (b : Bool) → b || false ≡ false → b ≡ false
    by_test true e = absurd cc
    by_test false e = refl
any_last x y (n ∷ names) e = by_test (bytes_eq x n) e (any_last x y names)
  where
    by_test : (b : Bool) → b || list_any (bytes_eq x) (names ++ y ∷ []) ≡ false → (Untaken x (names ++ y ∷ []) → Untaken x names × (bytes_eq x y ≡ false)) → (b || list_any (bytes_eq x) names ≡ false) × (bytes_eq x y ≡ false)
    by_test true e h = absurd cc
    by_test false e h = h e

pub untaken_before : (x y : List ℕ) (names : List (List ℕ)) → Untaken x (insert_name names y) → Untaken x names × (bytes_eq y x ≡ false)
untaken_before x y names e = by_test (list_any (bytes_eq y) names) refl e
  where
    other : (b : Bool) → bytes_eq y x ≡ b → list_any (bytes_eq y) names ≡ true → Untaken x names → bytes_eq y x ≡ false
    other true f g h = let same : y ≡ x = bytes_eq-told y x f in let there : list_any (bytes_eq x) names ≡ true = ap (λ z. list_any (bytes_eq z) names) (sym same) ∙ g in absurd cc
    other false f g h = f

    by_test : (b : Bool) → list_any (bytes_eq y) names ≡ b → list_any (bytes_eq x) (cond b names (names ++ y ∷ [])) ≡ false → Untaken x names × (bytes_eq y x ≡ false)
    by_test true f e = (e, other (bytes_eq y x) refl f e)
    by_test false f e = let parts = any_last x y names e in (parts.0, bytes_swap x y parts.1)

pub params_untaken : (x : List ℕ) (ps : List Parameter) (s : Scope) → Untaken x (after_params s ps).taken → Untaken x s.taken × NoName x (locals_of ps)
params_untaken x [] s e = (e, tt)
params_untaken x (p ∷ ps) s e =
    let r = params_untaken x ps (declared s p.name (binding_of_shape p.shape)) e in
    let h = untaken_before x p.name s.taken r.0 in
    (h.0, (h.1, r.1))

pub vars_untaken : (x : List ℕ) (vs : List Accumulator) (s : Scope) → Untaken x (after_vars s vs).taken → Untaken x s.taken × NoName x (accs_of vs)
vars_untaken x [] s e = (e, tt)
vars_untaken x (v ∷ vs) s e =
    let r = vars_untaken x vs (declared s v.name (binding.Accumulator v.type)) e in
    let h = untaken_before x v.name s.taken r.0 in
    (h.0, (h.1, r.1))

-- ---- the name of the loop variable is no parameter's and no accumulator's

pub record IndexAlone (k : Program) (x : List ℕ) : Type 0 where
  pub params : NoName x (locals_of k.params)
  pub vars : NoName x (accs_of k.vars)
  pub visible : NoName x (var_scope k).visible

pub index_alone : (k : Program) (l : PlainLoop) → check_fault k ≡ None → k.for_loop ≡ Some l → IndexAlone k l.index
index_alone k l e t =
    let free : Untaken l.index (var_scope k).taken = not_added (is_taken (var_scope k) l.index) _ (index_faultless k l e t) in
    let vars = vars_untaken l.index k.vars (param_scope k) free in
    let params = params_untaken l.index k.params (empty (loop_index k)) vars.0 in
    record {
      params = params.1;
      vars = vars.1;
      visible = subst (NoName l.index) (sym (var_visible k)) (no_name-append l.index (locals_of k.params) (accs_of k.vars) params.1 vars.1);
    }

-- ---- no accumulator's name is a parameter's

-- the names of these accumulators are taken by none
abbrev AreFree : List (List ℕ) → List Accumulator → Type 0
AreFree taken [] = Unit {0}
AreFree taken (v ∷ vs) = Untaken v.name taken × AreFree taken vs

free_before : (y : List ℕ) (taken : List (List ℕ)) (vs : List Accumulator) → AreFree (insert_name taken y) vs → AreFree taken vs
free_before y taken [] h = tt
free_before y taken (v ∷ vs) h = ((untaken_before v.name y taken h.0).0, free_before y taken vs h.1)

vars_free : (vs : List Accumulator) (s : Scope) (from : ℕ) → vars_faults s from vs ≡ [] → AreFree s.taken vs
vars_free [] s from e = tt
vars_free (v ∷ vs) s from e =
    let item : ℕ = from + term_size s.index v.init in
    let r = nil-right (faults s from (Value (Some v.type)) v.init) _ e in
    (not_added _ _ (nil-left (twice item s v.name) _ r), free_before v.name s.taken vs (vars_free vs (declared s v.name (binding.Accumulator v.type)) (item + 1) (nil-right (twice item s v.name) _ r)))

-- no parameter has the name of one of these accumulators
abbrev pub NoneNamed : List Parameter → List Accumulator → Type 0
NoneNamed ps [] = Unit {0}
NoneNamed ps (v ∷ vs) = NoName v.name (locals_of ps) × NoneNamed ps vs

none_named : (ps : List Parameter) (index : Option (List ℕ)) (vs : List Accumulator) → AreFree (after_params (empty index) ps).taken vs → NoneNamed ps vs
none_named ps index [] h = tt
none_named ps index (v ∷ vs) h = ((params_untaken v.name ps (empty index) h.0).1, none_named ps index vs h.1)

pub vars_named : (k : Program) → check_fault k ≡ None → NoneNamed k.params k.vars
vars_named k e = none_named k.params (loop_index k) k.vars (vars_free k.vars (param_scope k) _ (vars_faultless k e))

param_other : (ps : List Parameter) (n : ℕ) (y : List ℕ) (p : Parameter) → slice_get ps n ≡ Some p → NoName y (locals_of ps) → bytes_eq p.name y ≡ false
param_other [] n y p e h = absurd cc
param_other (q ∷ ps) zero y p e h = let same : q ≡ p = cc in subst (λ (q : Parameter). bytes_eq q.name y ≡ false) same h.0
param_other (q ∷ ps) (suc n) y p e h = param_other ps n y p e h.1

pub param_alone : (k : Program) (n : ℕ) (p : Parameter) → check_fault k ≡ None → slice_get k.params n ≡ Some p → NoName p.name (accs_of k.vars)
param_alone k n p e at = by k.vars (vars_named k e)
  where
    by : (vs : List Accumulator) → NoneNamed k.params vs → NoName p.name (accs_of vs)
    by [] h = tt
    by (v ∷ vs) h = (bytes_swap p.name v.name (param_other k.params n v.name p at h.0), by vs h.1)

-- ---- arrays

-- the type of an array among visible names
abbrev pub array_of : List Local → List ℕ → Option Ty
array_of vs a = option_and_then element_type (option_map binding_of (find (has_name a) vs))

-- what stands for an accumulator, or for the loop variable, is no array
pub no_array : (vs : List Accumulator) (index a : List ℕ) → array_of (accs_of vs ++ local index binding.Index ∷ []) a ≡ None
no_array [] index a = by_test (bytes_eq index a)
  where
    by_test : (b : Bool) → option_and_then element_type (option_map binding_of (cond b (Some (local index binding.Index)) None)) ≡ None
    by_test true = refl
    by_test false = refl
no_array (v ∷ vs) index a = by_test (bytes_eq v.name a) (no_array vs index a)
  where
    by_test : (b : Bool) → array_of (accs_of vs ++ local index binding.Index ∷ []) a ≡ None → option_and_then element_type (option_map binding_of (cond b (Some (var_local v)) (find (has_name a) (accs_of vs ++ local index binding.Index ∷ [])))) ≡ None
    by_test true h = refl
    by_test false h = h

array_other : (ps : List Parameter) (vs : List Accumulator) (index a y : List ℕ) (t : Ty) → array_of ((locals_of ps ++ accs_of vs) ++ local index binding.Index ∷ []) a ≡ Some t → NoName y (locals_of ps) → bytes_eq y a ≡ false
array_other [] vs index a y t e h = let none = no_array vs index a in absurd cc
array_other (p ∷ ps) vs index a y t e h = by_test (bytes_eq p.name a) refl e (λ f. array_other ps vs index a y t f h.1)
  where
    by_test : (b : Bool) → bytes_eq p.name a ≡ b → option_and_then element_type (option_map binding_of (cond b (Some (param_local p)) (find (has_name a) ((locals_of ps ++ accs_of vs) ++ local index binding.Index ∷ [])))) ≡ Some t
        → (array_of ((locals_of ps ++ accs_of vs) ++ local index binding.Index ∷ []) a ≡ Some t → bytes_eq y a ≡ false) → bytes_eq y a ≡ false
    by_test true f e more = subst (λ z. bytes_eq y z ≡ false) (bytes_eq-told p.name a f) (bytes_swap p.name y h.0)
    by_test false f e more = more e

-- an array that is visible in the loop has no accumulator's name
pub array_alone : (k : Program) (l : PlainLoop) (a : List ℕ) (t : Ty) → check_fault k ≡ None → array_of (in_loop (var_scope k) l).visible a ≡ Some t → NoName a (accs_of k.vars)
array_alone k l a t e at = by k.vars (vars_named k e)
  where
    seen : array_of ((locals_of k.params ++ accs_of k.vars) ++ local l.index binding.Index ∷ []) a ≡ Some t
    seen = ap (λ vs. array_of (vs ++ local l.index binding.Index ∷ []) a) (sym (var_visible k)) ∙ at

    by : (vs : List Accumulator) → NoneNamed k.params vs → NoName a (accs_of vs)
    by [] h = tt
    by (v ∷ vs) h = (array_other k.params k.vars l.index a v.name t seen h.0, by vs h.1)

-- an array that is visible after a `let` was visible before it
pub array_before : (vs : List Local) (x a : List ℕ) (u t : Ty) → array_of (vs ++ local x (binding.Value u) ∷ []) a ≡ Some t → array_of vs a ≡ Some t
array_before [] x a u t e = by_test (bytes_eq x a) e
  where
    by_test : (b : Bool) → option_and_then element_type (option_map binding_of (cond b (Some (local x (binding.Value u))) None)) ≡ Some t → array_of [] a ≡ Some t
    by_test true e = absurd cc
    by_test false e = e
array_before (v ∷ vs) x a u t e = by_test (bytes_eq v.name a) e (array_before vs x a u t)
  where
    by_test : (b : Bool) → option_and_then element_type (option_map binding_of (cond b (Some v) (find (has_name a) (vs ++ local x (binding.Value u) ∷ [])))) ≡ Some t → (array_of (vs ++ local x (binding.Value u) ∷ []) a ≡ Some t → array_of vs a ≡ Some t) → option_and_then element_type (option_map binding_of (cond b (Some v) (find (has_name a) vs))) ≡ Some t
    by_test true e h = e
    by_test false e h = h e

-- ---- the loop's bound is a parameter

-- what stands for an accumulator is no scalar
pub accumulator_is_no_scalar : (vs : List Accumulator) (x : List ℕ) (t : Ty) → option_map binding_of (find (has_name x) (accs_of vs)) ≡ Some (binding.Scalar t) → ⊥
accumulator_is_no_scalar [] x t e = cc
accumulator_is_no_scalar (v ∷ vs) x t e = by_test (bytes_eq v.name x) e (accumulator_is_no_scalar vs x t)
  where
    by_test : (b : Bool) → option_map binding_of (cond b (Some (var_local v)) (find (has_name x) (accs_of vs))) ≡ Some (binding.Scalar t) → (option_map binding_of (find (has_name x) (accs_of vs)) ≡ Some (binding.Scalar t) → ⊥) → ⊥
    by_test true e h = cc
    by_test false e h = h e

scalar_shape : (s : Shape) (t : Ty) → Some (binding_of_shape s) ≡ Some (binding.Scalar t) → s ≡ shape.Scalar t
scalar_shape (shape.Array u) t e = absurd cc
scalar_shape (shape.Scalar u) t e = let same : u ≡ t = cc in ap shape.Scalar same

scalar_param : (ps : List Parameter) (vs : List Accumulator) (x : List ℕ) (t : Ty) → option_map binding_of (find (has_name x) (locals_of ps ++ accs_of vs)) ≡ Some (binding.Scalar t) → (n : ℕ) × (slice_get ps n ≡ Some (record { name = x; shape = shape.Scalar t }))
scalar_param [] vs x t e = absurd (accumulator_is_no_scalar vs x t e)
scalar_param (p ∷ ps) vs x t e = by_test (bytes_eq p.name x) refl e (scalar_param ps vs x t)
  where
    by_test : (b : Bool) → bytes_eq p.name x ≡ b → option_map binding_of (cond b (Some (param_local p)) (find (has_name x) (locals_of ps ++ accs_of vs))) ≡ Some (binding.Scalar t)
        → (option_map binding_of (find (has_name x) (locals_of ps ++ accs_of vs)) ≡ Some (binding.Scalar t) → (n : ℕ) × (slice_get ps n ≡ Some (record { name = x; shape = shape.Scalar t }))) → (n : ℕ) × (slice_get (p ∷ ps) n ≡ Some (record { name = x; shape = shape.Scalar t }))
    by_test true f e h =
        let kind = scalar_shape p.shape t e in
        let named = bytes_eq-told p.name x f in
        (0, ap (λ (s : Shape). Some (record { name = p.name; shape = s })) kind ∙ ap (λ y. Some (record { name = y; shape = shape.Scalar t })) named)
    by_test false f e h = let r = h e in (suc r.0, r.1)

pub bound_param : (k : Program) (l : PlainLoop) → check_fault k ≡ None → k.for_loop ≡ Some l → HasBound k.params l
bound_param k l e t = scalar_param k.params k.vars l.bound U64 (ap (λ vs. option_map binding_of (find (has_name l.bound) vs)) (sym (var_visible k)) ∙ bound_scalar k l e t)

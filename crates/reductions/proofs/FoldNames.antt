-- The names that are visible at the loop of a checked kernel differ from each other, and each stands for one thing.
use Rattle.std.proofs.Common.{◌≡◌, ℕ, ◌+◌, Bool, true, false, cond, List, [], ◌∷◌, ◌++◌, map, Some, None, refl, sym, ap, ◌∙◌, subst}
use Rattle.std.specs.Prelude.{bytes_eq, filter, ◌||◌}
use Rattle.std.specs.List.{list_any}
use Rattle.kernel_tree.specs.declared.ops.Ty.{Ty}
use Rattle.kernel_tree.specs.declared.fault.Binding.{Binding}
use Rattle.kernel_tree.specs.Plain.{Parameter, Accumulator, Program}
use Rattle.kernel_tree.specs.Items.{term_size, loop_index}
use Rattle.kernel_tree.specs.Typing.{Scope, Local, local, Value, declared, is_taken, binding_of_shape, empty, after_params, after_vars, faults, twice, params_faults, vars_faults, param_scope, var_scope, check_fault}
use Rattle.loop_form.specs.Lanes.{var_type}
use Rattle.kernel_tree.proofs.Faultless.{nil-left, nil-right, params_faultless, vars_faultless}
use Rattle.kernel_tree.specs.Scopes.{locals_of, accs_of}
use Rattle.kernel_tree.proofs.Scopes.{var_visible}
use Rattle.kernel_tree.proofs.Names.{bytes_eq-refl, bytes_swap, Untaken, untaken_before}
use Rattle.kernel_tree.proofs.NoFault.{not_added}
use Rattle.vector_order.specs.Order.{is_var}
use Rattle.kernel_tree.specs.declared.fault.Binding.TheVariants as binding

-- ---- names that differ

-- none of these is the name
abbrev pub Unlike : List ℕ → List (List ℕ) → Type 0
Unlike x [] = Unit {0}
Unlike x (y ∷ ys) = (bytes_eq y x ≡ false) × Unlike x ys

abbrev pub Distinct : List (List ℕ) → Type 0
Distinct [] = Unit {0}
Distinct (x ∷ xs) = Unlike x xs × Distinct xs

unlike_append : (x : List ℕ) (ys zs : List (List ℕ)) → Unlike x ys → Unlike x zs → Unlike x (ys ++ zs)
unlike_append x [] zs h k = k
unlike_append x (y ∷ ys) zs h k = (h.0, unlike_append x ys zs h.1 k)

pub unlike_right : (x : List ℕ) (ys zs : List (List ℕ)) → Unlike x (ys ++ zs) → Unlike x zs
unlike_right x [] zs h = h
unlike_right x (y ∷ ys) zs h = unlike_right x ys zs h.1

pub distinct_right : (ys zs : List (List ℕ)) → Distinct (ys ++ zs) → Distinct zs
distinct_right [] zs h = h
distinct_right (y ∷ ys) zs h = distinct_right ys zs h.1

-- one name more
distinct_more : (xs : List (List ℕ)) (y : List ℕ) → Distinct xs → Unlike y xs → Distinct (xs ++ y ∷ [])
distinct_more [] y d u = (tt, tt)
distinct_more (x ∷ xs) y d u = (unlike_append x xs (y ∷ []) d.0 (bytes_swap x y u.0, tt), distinct_more xs y d.1 u.1)

-- ---- of a scope

abbrev pub local_name : Local → List ℕ
local_name l = l.name

names_more : (ls : List Local) (l : Local) → map local_name (ls ++ l ∷ []) ≡ map local_name ls ++ l.name ∷ []
names_more [] l = refl
names_more (x ∷ ls) l = ap (λ r. x.name ∷ r) (names_more ls l)

-- the visible names differ, and each is taken
record IsClear (s : Scope) : Type 0 where
  differ : Distinct (map local_name s.visible)
  taken : (x : List ℕ) → Untaken x s.taken → Unlike x (map local_name s.visible)

clear_more : (s : Scope) (x : List ℕ) (b : Binding) → IsClear s → Untaken x s.taken → IsClear (declared s x b)
clear_more s x b c free = record {
  differ = subst Distinct (sym (names_more s.visible (local x b))) (distinct_more (map local_name s.visible) x c.differ (c.taken x free));
  taken = λ y h.
      let before = untaken_before y x s.taken h in
      subst (Unlike y) (sym (names_more s.visible (local x b))) (unlike_append y (map local_name s.visible) (x ∷ []) (c.taken y before.0) (before.1, tt));
}

clear_params : (ps : List Parameter) (s : Scope) (from : ℕ) → params_faults s from ps ≡ [] → IsClear s → IsClear (after_params s ps)
clear_params [] s from e c = c
clear_params (p ∷ ps) s from e c =
    clear_params ps (declared s p.name (binding_of_shape p.shape)) (from + 1) (nil-right (twice from s p.name) _ e)
    (clear_more s p.name (binding_of_shape p.shape) c (not_added (is_taken s p.name) _ (nil-left (twice from s p.name) _ e)))

clear_vars : (vs : List Accumulator) (s : Scope) (from : ℕ) → vars_faults s from vs ≡ [] → IsClear s → IsClear (after_vars s vs)
clear_vars [] s from e c = c
clear_vars (v ∷ vs) s from e c =
    let item : ℕ = from + term_size s.index v.init in
    let r = nil-right (faults s from (Value (Some v.type)) v.init) _ e in
    clear_vars vs (declared s v.name (binding.Accumulator v.type)) (item + 1) (nil-right (twice item s v.name) _ r)
    (clear_more s v.name (binding.Accumulator v.type) c (not_added (is_taken s v.name) _ (nil-left (twice item s v.name) _ r)))

pub visible_distinct : (k : Program) → check_fault k ≡ None → Distinct (map local_name (var_scope k).visible)
visible_distinct k e = (clear_vars k.vars (param_scope k) _ (vars_faultless k e) (clear_params k.params (empty (loop_index k)) 0 (params_faultless k e) (record { differ = tt; taken = λ x h. tt }))).differ

-- ---- accumulators

abbrev pub var_name : Accumulator → List ℕ
var_name v = v.name

abbrev pub param_name : Parameter → List ℕ
param_name p = p.name

pub local_names : (ps : List Parameter) (vs : List Accumulator) → map local_name (locals_of ps ++ accs_of vs) ≡ map param_name ps ++ map var_name vs
local_names [] [] = refl
local_names [] (v ∷ vs) = ap (λ r. v.name ∷ r) (local_names [] vs)
local_names (p ∷ ps) vs = ap (λ r. p.name ∷ r) (local_names ps vs)

pub names_distinct : (k : Program) → check_fault k ≡ None → Distinct (map param_name k.params ++ map var_name k.vars)
names_distinct k e = subst Distinct (ap (map local_name) (var_visible k) ∙ local_names k.params k.vars) (visible_distinct k e)

pub vars_distinct : (k : Program) → check_fault k ≡ None → Distinct (map var_name k.vars)
vars_distinct k e = distinct_right (map param_name k.params) (map var_name k.vars) (names_distinct k e)

unlike_kept : (f : Accumulator → Bool) (x : List ℕ) (vs : List Accumulator) → Unlike x (map var_name vs) → Unlike x (map var_name (filter f vs))
unlike_kept f x [] h = tt
unlike_kept f x (v ∷ vs) h = by (f v) (unlike_kept f x vs h.1)
  where
    by : (b : Bool) → Unlike x (map var_name (filter f vs)) → Unlike x (map var_name (cond b (v ∷ filter f vs) (filter f vs)))
    by true r = (h.0, r)
    by false r = r

pub distinct_kept : (f : Accumulator → Bool) (vs : List Accumulator) → Distinct (map var_name vs) → Distinct (map var_name (filter f vs))
distinct_kept f [] h = tt
distinct_kept f (v ∷ vs) h = by (f v) (distinct_kept f vs h.1)
  where
    by : (b : Bool) → Distinct (map var_name (filter f vs)) → Distinct (map var_name (cond b (v ∷ filter f vs) (filter f vs)))
    by true r = (unlike_kept f v.name vs h.0, r)
    by false r = r

-- ---- types of accumulators

pub typed_var : (x : List ℕ) (vs : List Accumulator) → list_any (is_var x) vs ≡ true → (t : Ty) × (var_type x vs ≡ Some t)
typed_var x [] e = absurd cc
typed_var x (v ∷ vs) e = by (bytes_eq v.name x) e (typed_var x vs)
  where
    by : (b : Bool) → b || list_any (is_var x) vs ≡ true → (list_any (is_var x) vs ≡ true → (t : Ty) × (var_type x vs ≡ Some t)) → (t : Ty) × (cond b (Some v.type) (var_type x vs) ≡ Some t)
    by true e more = (v.type, refl)
    by false e more = more e

pub no_var : (x : List ℕ) (vs : List Accumulator) → Unlike x (map var_name vs) → list_any (is_var x) vs ≡ false
no_var x [] h = refl
no_var x (v ∷ vs) h = by (bytes_eq v.name x) h.0 (no_var x vs h.1)
  where
    by : (b : Bool) → b ≡ false → list_any (is_var x) vs ≡ false → b || list_any (is_var x) vs ≡ false
    by true e r = absurd cc
    by false e r = r

-- each accumulator among these has its own type
abbrev pub AreOwn : List Accumulator → List Accumulator → Type 0
AreOwn all [] = Unit {0}
AreOwn all (v ∷ vs) = (var_type v.name all ≡ Some v.type) × AreOwn all vs

own_later : (x : Accumulator) (all vs : List Accumulator) → Unlike x.name (map var_name vs) → AreOwn all vs → AreOwn (x ∷ all) vs
own_later x all [] u h = tt
own_later x all (v ∷ vs) u h = (ap (λ b. cond b (Some x.type) (var_type v.name all)) (bytes_swap v.name x.name u.0) ∙ h.0, own_later x all vs u.1 h.1)

pub own_types : (vs : List Accumulator) → Distinct (map var_name vs) → AreOwn vs vs
own_types [] d = tt
own_types (v ∷ vs) d = (ap (λ b. cond b (Some v.type) (var_type v.name vs)) (bytes_eq-refl v.name), own_later v vs vs d.0 (own_types vs d.1))

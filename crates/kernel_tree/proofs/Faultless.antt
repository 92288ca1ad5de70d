-- No rule of typing fails in a checked kernel: none in its parts.
use Rattle.std.proofs.Common.{◌≡◌, ◌+◌, Bool, true, false, cond, List, [], ◌∷◌, ◌++◌, length, Option, Some, None, refl, subst}
use Rattle.std.specs.Prelude.{nat_lt, option_map}
use Rattle.kernel_tree.specs.declared.fault.Found.{Found}
use Rattle.kernel_tree.specs.Plain.{PlainLoop, Program}
use Rattle.kernel_tree.specs.Items.{loop_end, loop_index, loop_start, size_of}
use Rattle.kernel_tree.specs.Limits.{most_items, most_depth, depth_of}
use Rattle.kernel_tree.specs.Typing.{TooLarge, TooDeep, Fails, sooner, least, lookup, twice, bound_faults, block_faults, params_faults, vars_faults, for_loop_faults, answer_faults, kernel_faults, check_fault, empty, param_scope, var_scope, in_loop, after_for_loop}

-- ---- lists without an element

pub nil-left : {A : Type 0} (xs ys : List A) → xs ++ ys ≡ [] → xs ≡ []
nil-left [] ys e = refl
nil-left (x ∷ xs) ys e = absurd cc

pub nil-right : {A : Type 0} (xs ys : List A) → xs ++ ys ≡ [] → ys ≡ []
nil-right [] ys e = e
nil-right (x ∷ xs) ys e = absurd cc

pub never : {A : Type 0} {x : A} {xs : List A} → x ∷ xs ≡ [] → ⊥
never e = cc

-- ---- no rule fails

no_faults_of_no_least : (fs : List Found) → option_map Fails (least fs) ≡ None → fs ≡ []
no_faults_of_no_least [] e = refl
no_faults_of_no_least (f ∷ fs) e = some-first (least fs) e
  where
    some-first : (o : Option Found) → option_map Fails (sooner (Some f) o) ≡ None → f ∷ fs ≡ []
    some-first None e = absurd cc
    some-first (Some g) e = absurd cc

unrefused : {A : Type 0} (b : Bool) (x : A) (o : Option A) → cond b (Some x) o ≡ None → o ≡ None
unrefused true x o e = absurd cc
unrefused false x o e = e

pub faultless : (k : Program) → check_fault k ≡ None → kernel_faults k ≡ []
faultless k e =
    let inner : _ ≡ None = unrefused (nat_lt most_items (size_of k)) (TooLarge (size_of k)) _ e in
    no_faults_of_no_least (kernel_faults k) (unrefused (nat_lt most_depth (depth_of k)) (TooDeep (depth_of k)) _ inner)

-- ---- in the parts of a kernel

pub params_faultless : (k : Program) → check_fault k ≡ None → params_faults (empty (loop_index k)) 0 k.params ≡ []
params_faultless k e = nil-left (params_faults (empty (loop_index k)) 0 k.params) _ (faultless k e)

pub vars_faultless : (k : Program) → check_fault k ≡ None → vars_faults (param_scope k) (length k.params) k.vars ≡ []
vars_faultless k e = nil-left (vars_faults (param_scope k) (length k.params) k.vars) _ (nil-right (params_faults (empty (loop_index k)) 0 k.params) _ (faultless k e))

rest_faultless : (k : Program) → check_fault k ≡ None → for_loop_faults (var_scope k) (loop_start k) k.for_loop ++ answer_faults (after_for_loop (var_scope k) k.for_loop) (loop_end k) k.answer ≡ []
rest_faultless k e = nil-right (vars_faults (param_scope k) (length k.params) k.vars) _ (nil-right (params_faults (empty (loop_index k)) 0 k.params) _ (faultless k e))

pub loop_faultless : (k : Program) → check_fault k ≡ None → for_loop_faults (var_scope k) (loop_start k) k.for_loop ≡ []
loop_faultless k e = nil-left (for_loop_faults (var_scope k) (loop_start k) k.for_loop) _ (rest_faultless k e)

pub answer_faultless : (k : Program) → check_fault k ≡ None → answer_faults (after_for_loop (var_scope k) k.for_loop) (loop_end k) k.answer ≡ []
answer_faultless k e = nil-right (for_loop_faults (var_scope k) (loop_start k) k.for_loop) _ (rest_faultless k e)

-- ---- in a loop

pub for_loop_faultless : (k : Program) (l : PlainLoop) → check_fault k ≡ None → k.for_loop ≡ Some l → for_loop_faults (var_scope k) (loop_start k) (Some l) ≡ []
for_loop_faultless k l e t = subst (λ o. for_loop_faults (var_scope k) (loop_start k) o ≡ []) t (loop_faultless k e)

pub bound_faultless : (k : Program) (l : PlainLoop) → check_fault k ≡ None → k.for_loop ≡ Some l → bound_faults (loop_start k) (lookup (var_scope k) l.bound) ≡ []
bound_faultless k l e t = nil-left (bound_faults (loop_start k) (lookup (var_scope k) l.bound)) _ (for_loop_faultless k l e t)

index_rest : (k : Program) (l : PlainLoop) → check_fault k ≡ None → k.for_loop ≡ Some l → twice (loop_start k) (var_scope k) l.index ++ block_faults (in_loop (var_scope k) l) (loop_start k + 1) l.body ≡ []
index_rest k l e t = nil-right (bound_faults (loop_start k) (lookup (var_scope k) l.bound)) _ (for_loop_faultless k l e t)

pub index_faultless : (k : Program) (l : PlainLoop) → check_fault k ≡ None → k.for_loop ≡ Some l → twice (loop_start k) (var_scope k) l.index ≡ []
index_faultless k l e t = nil-left (twice (loop_start k) (var_scope k) l.index) _ (index_rest k l e t)

pub body_faultless : (k : Program) (l : PlainLoop) → check_fault k ≡ None → k.for_loop ≡ Some l → block_faults (in_loop (var_scope k) l) (loop_start k + 1) l.body ≡ []
body_faultless k l e t = nil-right (twice (loop_start k) (var_scope k) l.index) _ (index_rest k l e t)

-- The names that are visible at the loop of a checked kernel: held throughout, and left alone by every item.
use Rattle.std.proofs.Common.{◌≡◌, ℕ, suc, ◌+◌, ◌≤◌, Bool, false, List, [], ◌∷◌, ◌++◌, length, Option, Some, None, refl, sym, ap, ◌∙◌, subst, arith}
use Rattle.std.specs.Prelude.{slice_get}
use Rattle.kernel_tree.specs.declared.ast.Shape.{Shape}
use Rattle.kernel_tree.specs.Plain.{Parameter, Accumulator, Program}
use Rattle.kernel_tree.specs.Items.{loop_index}
use Rattle.kernel_tree.specs.Typing.{Scope, Local, binding_of_shape, param_scope, var_scope}
use Rattle.kernel_tree.specs.Scopes.{locals_of, accs_of}
use Rattle.kernel_tree.proofs.Scopes.{param_visible, var_visible, param_index, scope_index, param_outside, scope_outside}
use Rattle.loop_form.specs.Entries.{Entry}
use Rattle.scalar_words.specs.Layout.{Layout, Homes}
use Rattle.scalar_words.specs.Safe.{Others, AreSteady}
use Rattle.scalar_words.specs.KernelRegisters.{param_homes, var_homes, kernel_homes}
use Rattle.scalar_words.proofs.AssignedOf.{counted-low}
use Rattle.scalar_words.proofs.NameHomes.{IsParam, next_number, numbers, HomeIs, AreHomes, homes_on}
use Rattle.kernel_tree.specs.Plain.{PlainLoop}
use Rattle.kernel_tree.specs.Items.{loop_start}
use Rattle.kernel_tree.specs.Typing.{lookup, bound_faults, for_loop_faults, check_fault}
use Rattle.kernel_tree.specs.declared.ops.Ty.TheVariants.{U64}
use Rattle.kernel_tree.proofs.Faultless.{nil-left, for_loop_faultless}
use Rattle.kernel_tree.proofs.NoFault.{bound_known}
use Rattle.loop_form.specs.Entries.{entries_of}
use Rattle.scalar_words.specs.Safe.{AreSafe}
use Rattle.scalar_words.specs.KernelRegisters.{layout_of_kernel, AreChosen, IsBound}
use Rattle.scalar_words.proofs.NameHomes.{is_at, register_is, are_safe}
use Rattle.scalar_words.proofs.AccumulatorRegisters.{accumulator_registers}
use Rattle.kernel_tree.specs.declared.ast.Shape.TheVariants as shape
use Rattle.kernel_tree.specs.declared.fault.Binding.TheVariants as binding

-- ---- scopes

scope_is : (s : Scope) (v : List Local) (i : Option (List ℕ)) (b : Bool) → s.visible ≡ v → s.index ≡ i → s.inside ≡ b → s ≡ record { visible = v; taken = s.taken; index = i; inside = b }
scope_is s v i b e f g =
    ap (λ (x : List Local). record { visible = x; taken = s.taken; index = s.index; inside = s.inside }) e
    ∙ ap (λ (x : Option (List ℕ)). record { visible = v; taken = s.taken; index = x; inside = s.inside }) f
    ∙ ap (λ (x : Bool). record { visible = v; taken = s.taken; index = i; inside = x }) g

abbrev pub scope_at : Program → List Local → List (List ℕ) → Bool → Scope
scope_at k v tk ins = record { visible = v; taken = tk; index = loop_index k; inside = ins }

pub param_scope_is : (k : Program) → param_scope k ≡ scope_at k (locals_of k.params) (param_scope k).taken false
param_scope_is k = scope_is (param_scope k) (locals_of k.params) (loop_index k) false (param_visible k) (param_index k) (param_outside k)

pub var_scope_is : (k : Program) → var_scope k ≡ scope_at k (locals_of k.params ++ accs_of k.vars) (var_scope k).taken false
var_scope_is k =
    scope_is (var_scope k) (locals_of k.params ++ accs_of k.vars) (loop_index k) false (var_visible k) (scope_index k) (scope_outside k)

-- ---- homes that are held throughout

pub steady-append : (hs gs : Homes) → AreSteady hs → AreSteady gs → AreSteady (hs ++ gs)
steady-append [] gs h k = k
steady-append (x ∷ hs) gs h k = (h.0, steady-append hs gs h.1 k)

pub params_steady : (n : ℕ) (ps : List Parameter) → AreSteady (param_homes n ps)
params_steady n [] = tt
params_steady n (p ∷ ps) = (refl, params_steady (n + 1) ps)

pub vars_steady : (R : ℕ → ℕ) (j : ℕ) (vs : List Accumulator) → AreSteady (var_homes R j vs)
vars_steady R j [] = tt
vars_steady R j (v ∷ vs) = (refl, vars_steady R (j + 1) vs)

pub others-append : (hs gs : Homes) (r p : ℕ) → Others hs r p → Others gs r p → Others (hs ++ gs) r p
others-append [] gs r p h k = k
others-append (x ∷ hs) gs r p h k = (h.0, others-append hs gs r p h.1 k)

pub params_nine : (n p : ℕ) (ps : List Parameter) → n + length ps ≤ 8 → Others (param_homes n ps) 9 p
params_nine n p [] h = tt
params_nine n p (q ∷ ps) h = ((λ l e. absurd (omega (arith, h, e))), params_nine (n + 1) p ps (omega (arith, h)))

pub vars_nine : (R : ℕ → ℕ) (j p : ℕ) (vs : List Accumulator) → Others (var_homes R j vs) 9 p
vars_nine R j p [] = tt
vars_nine R j p (v ∷ vs) = ((λ l e. absurd (let c = counted-low (R j) in omega (arith, c, e))), vars_nine R (j + 1) p vs)

-- ---- numbers of accumulators

pub numbers_on : (j : ℕ) (xs ys : List Local) → numbers j (xs ++ ys) ≡ numbers (numbers j xs) ys
numbers_on j [] ys = refl
numbers_on j (x ∷ xs) ys = numbers_on (next_number j x.binding) xs ys

next_shape : (j : ℕ) (s : Shape) → next_number j (binding_of_shape s) ≡ j
next_shape j (shape.Scalar t) = refl
next_shape j (shape.Array t) = refl

pub numbers_params : (j : ℕ) (ps : List Parameter) → numbers j (locals_of ps) ≡ j
numbers_params j [] = refl
numbers_params j (p ∷ ps) = ap (λ n. numbers n (locals_of ps)) (next_shape j p.shape) ∙ numbers_params j ps

module _ (R : ℕ → ℕ) (k : Program) (L : Layout) (all : List Entry) where
  param_is : (b j n : ℕ) (x : List ℕ) (s : Shape) → IsParam k n x s → HomeIs k R L all b j (binding_of_shape s) (record { name = x; register = n; last_use = None })
  param_is b j n x (shape.Scalar t) e = (refl, e)
  param_is b j n x (shape.Array t) e = (refl, e)

  params_are : (b j n : ℕ) (ps : List Parameter) → ((m : ℕ) → slice_get k.params (n + m) ≡ slice_get ps m) → AreHomes k R L all b j (locals_of ps) (param_homes n ps)
  params_are b j n [] f = tt
  params_are b j n (p ∷ ps) f =
      let z : n ≡ n + 0 = omega arith in (
        refl,
        param_is b j n p.name p.shape (ap (slice_get k.params) z ∙ f 0),
        subst (λ q. AreHomes k R L all b q (locals_of ps) (param_homes (n + 1) ps)) (sym (next_shape j p.shape))
            (params_are b j (n + 1) ps (λ m. let y : n + 1 + m ≡ n + suc m = omega arith in ap (slice_get k.params) y ∙ f (suc m))),
      )

  vars_are : (b j : ℕ) (vs : List Accumulator) → j + length vs ≤ length k.vars → AreHomes k R L all b j (accs_of vs) (var_homes R j vs)
  vars_are b j [] le = tt
  vars_are b j (v ∷ vs) le =
      let y : suc j ≡ j + 1 = omega arith in
      (refl, (refl, refl, omega (arith, le)), subst (λ q. AreHomes k R L all b (suc j) (accs_of vs) (var_homes R q vs)) y (vars_are b (suc j) vs (omega (arith, le))))

  pub first_are : (b : ℕ) → AreHomes k R L all b 0 (locals_of k.params) (param_homes 0 k.params)
  first_are b = params_are b 0 0 k.params (λ m. let z : 0 + m ≡ m = omega arith in ap (slice_get k.params) z)

  pub kernel_are : (b : ℕ) → AreHomes k R L all b 0 (locals_of k.params ++ accs_of k.vars) (kernel_homes R k)
  kernel_are b =
      homes_on k R L all b 0 (locals_of k.params) (accs_of k.vars) (param_homes 0 k.params) (var_homes R 0 k.vars) (first_are b)
      (subst (λ n. AreHomes k R L all b n (accs_of k.vars) (var_homes R 0 k.vars)) (sym (numbers_params 0 k.params)) (vars_are b 0 k.vars (omega arith)))

-- ---- the names of a kernel

-- held throughout, left alone by every item, in no register of the loop's; the bound's is that of its parameter
pub record NamesFit (R : ℕ → ℕ) (k : Program) : Type 0 where
  pub steady : AreSteady (kernel_homes R k)
  pub safe : (b : ℕ) → AreSafe (layout_of_kernel R k) b (kernel_homes R k)
  pub nine : (b : ℕ) → Others (kernel_homes R k) 9 b
  pub bound : (l : PlainLoop) → k.for_loop ≡ Some l → IsBound R k l

bound_is : (R : ℕ → ℕ) (k : Program) (l : PlainLoop) (b : ℕ) (tk : List (List ℕ)) → for_loop_faults (scope_at k (locals_of k.params ++ accs_of k.vars) tk false) b (Some l) ≡ [] → IsBound R k l
bound_is R k l b tk f =
    let v = locals_of k.params ++ accs_of k.vars in
    let hs = kernel_homes R k in
    let L = layout_of_kernel R k in
    let all = entries_of k in
    let S = scope_at k v tk false in
    let known = bound_known b (lookup S l.bound) (nil-left (bound_faults b (lookup S l.bound)) _ f) in
    let at = is_at k R L all b 0 v hs l.bound (binding.Scalar U64) (kernel_are R k L all b) known in
    ap (slice_get k.params) (register_is k R L all b hs l.bound (binding.Scalar U64) at) ∙ at.what.1 ∙ ap (λ x. Some (record { name = x; shape = shape.Scalar U64 })) at.named

-- Registers fit the names of a checked kernel with at most eight parameters, whatever numbers register assignment gave.
pub names_fit : (R : ℕ → ℕ) (k : Program) → check_fault k ≡ None → length k.params ≤ 8 → AreChosen R k → NamesFit R k
names_fit R k checked few c = record {
  steady = steady-append (param_homes 0 k.params) (var_homes R 0 k.vars) (params_steady 0 k.params) (vars_steady R 0 k.vars);
  safe = λ b. are_safe k R (layout_of_kernel R k) (entries_of k) few (accumulator_registers R k c) b 0 b (locals_of k.params ++ accs_of k.vars) (kernel_homes R k) (kernel_are R k (layout_of_kernel R k) (entries_of k) b) (omega arith);
  nine = λ b. others-append (param_homes 0 k.params) (var_homes R 0 k.vars) 9 b (params_nine 0 b k.params (omega (arith, few))) (vars_nine R 0 b k.vars);
  bound = λ l e. bound_is R k l (loop_start k) (var_scope k).taken (subst (λ s. for_loop_faults s (loop_start k) (Some l) ≡ []) (var_scope_is k) (for_loop_faultless k l checked e));
}

-- An array that is visible in a loop is a parameter: its name leads to the parameter's place and to the type of its elements.
use Rattle.std.proofs.Common.{◌≡◌, ℕ, suc, ◌+◌, Bool, true, false, cond, List, [], ◌∷◌, ◌++◌, Option, Some, None, sym, ap, ◌∙◌, arith}
use Rattle.std.specs.Prelude.{bytes_eq, find, option_map, option_and_then}
use Rattle.kernel_tree.specs.declared.ops.Ty.{Ty}
use Rattle.kernel_tree.specs.Plain.{Parameter, Accumulator, PlainLoop, Program}
use Rattle.kernel_tree.specs.Typing.{Scope, Local, local, has_name, binding_of, defined, element_type, binding_of_shape, var_scope, in_loop}
use Rattle.loop_form.specs.declared.loop_item.Operand.TheVariants.{Outer, LoopIndex, Made}
use Rattle.loop_form.specs.LoopItems.{Bound, bound, operand_at, with_bound, outer_env, loop_env}
use Rattle.loop_form.specs.Streams.{place_from, place_of, type_of_place}
use Rattle.kernel_tree.proofs.Scopes.{var_visible}
use Rattle.kernel_tree.specs.Scopes.{locals_of, accs_of}
use Rattle.kernel_tree.specs.declared.fault.Binding.TheVariants as binding
pub use Rattle.kernel_tree.proofs.Names.{array_of}
use Rattle.kernel_tree.proofs.Names.{no_array, array_before}

-- each array is a parameter
abbrev pub Fits : List Parameter → List Local → List Bound → Type 0
Fits ps vs env = (a : List ℕ) (t : Ty) → array_of vs a ≡ Some t → (p : ℕ) × (operand_at env a ≡ Outer p) × (place_of a ps ≡ Some p) × (type_of_place ps p ≡ Some t)

-- ---- at the head of the loop

params_fit : (ps : List Parameter) (vs : List Accumulator) (index : List ℕ) (tail : List Bound) (n : ℕ) (a : List ℕ) (t : Ty) → array_of ((locals_of ps ++ accs_of vs) ++ local index binding.Index ∷ []) a ≡ Some t
    → (j : ℕ) × (operand_at (outer_env n (locals_of ps ++ accs_of vs) ++ tail) a ≡ Outer (n + j)) × (place_from a n ps ≡ Some (n + j)) × (type_of_place ps j ≡ Some t)
params_fit [] vs index tail n a t e = let none = no_array vs index a in absurd cc
params_fit (p ∷ ps) vs index tail n a t e = by_test (bytes_eq p.name a) e (params_fit ps vs index tail (suc n) a t)
  where
    by_test : (b : Bool) → option_and_then element_type (option_map binding_of (cond b (Some (local p.name (binding_of_shape p.shape))) (find (has_name a) ((locals_of ps ++ accs_of vs) ++ local index binding.Index ∷ [])))) ≡ Some t
        → (array_of ((locals_of ps ++ accs_of vs) ++ local index binding.Index ∷ []) a ≡ Some t → (j : ℕ) × (operand_at (outer_env (suc n) (locals_of ps ++ accs_of vs) ++ tail) a ≡ Outer (suc n + j)) × (place_from a (suc n) ps ≡ Some (suc n + j)) × (type_of_place ps j ≡ Some t))
        → (j : ℕ) × (cond b (Outer n) (operand_at (outer_env (suc n) (locals_of ps ++ accs_of vs) ++ tail) a) ≡ Outer (n + j)) × (cond b (Some n) (place_from a (n + 1) ps) ≡ Some (n + j)) × (type_of_place (p ∷ ps) j ≡ Some t)
    by_test true e h = (0, ap Outer (omega arith), ap Some (omega arith), e)
    by_test false e h =
        let r = h e in
        let next : suc n + r.0 ≡ n + suc r.0 = omega arith in
        let one : n + 1 ≡ suc n = omega arith in
        (suc r.0, r.1 ∙ ap Outer next, ap (λ m. place_from a m ps) one ∙ r.2 ∙ ap Some next, r.3)

pub head_fits : (k : Program) (l : PlainLoop) → Fits k.params (in_loop (var_scope k) l).visible (loop_env (var_scope k) l.index)
head_fits k l a t e =
    let entries_view : array_of ((locals_of k.params ++ accs_of k.vars) ++ local l.index binding.Index ∷ []) a ≡ Some t = ap (λ vs. array_of (vs ++ local l.index binding.Index ∷ []) a) (sym (var_visible k)) ∙ e in
    let r = params_fit k.params k.vars l.index (bound l.index LoopIndex ∷ []) 0 a t entries_view in
    let zero_first : 0 + r.0 ≡ r.0 = omega arith in
    (r.0, ap (λ vs. operand_at (outer_env 0 vs ++ bound l.index LoopIndex ∷ []) a) (var_visible k) ∙ r.1 ∙ ap Outer zero_first, r.2 ∙ ap Some zero_first, r.3)

-- ---- after a `let`

outer_before : (env more : List Bound) (a : List ℕ) (p : ℕ) → operand_at env a ≡ Outer p → operand_at (env ++ more) a ≡ Outer p
outer_before [] more a p e = cc
outer_before (b ∷ env) more a p e = by_test (bytes_eq b.name a) e (outer_before env more a p)
  where
    by_test : (t : Bool) → cond t b.source (operand_at env a) ≡ Outer p → (operand_at env a ≡ Outer p → operand_at (env ++ more) a ≡ Outer p) → cond t b.source (operand_at (env ++ more) a) ≡ Outer p
    by_test true e h = e
    by_test false e h = h e

pub let_fits : (ps : List Parameter) (scope : Scope) (env : List Bound) (x : List ℕ) (o : Option Ty) (q : ℕ) → Fits ps scope.visible env → Fits ps (defined scope x o).visible (with_bound env x o q)
let_fits ps scope env x None q h a t e = h a t e
let_fits ps scope env x (Some u) q h a t e = let r = h a t (array_before scope.visible x a u t e) in (r.0, outer_before env (bound x (Made q) ∷ []) a r.0 r.1, r.2, r.3)

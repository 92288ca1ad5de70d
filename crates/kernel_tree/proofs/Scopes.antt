-- The scope at the loop of a kernel: its visible names, the name of its loop variable, and that it stands outside the loop.
use Rattle.std.proofs.Common.{◌≡◌, ℕ, false, List, [], ◌∷◌, ◌++◌, Option, Some, None, refl, sym, ap, ◌∙◌, append-nil, append_assoc}
use Rattle.kernel_tree.specs.declared.ops.Ty.{Ty}
use Rattle.kernel_tree.specs.declared.fault.Binding.TheVariants as binding
use Rattle.kernel_tree.specs.Plain.{Action, Define, Parameter, Accumulator, PlainLoop, Program}
use Rattle.kernel_tree.specs.Items.{loop_index}
use Rattle.kernel_tree.specs.Typing.{Scope, own, first, declared, defined, after_action, binding_of_shape, empty, after_params, after_vars, after_for_loop, param_scope, var_scope}
use Rattle.kernel_tree.specs.Scopes.{param_local, var_local, locals_of, accs_of}

-- ---- the visible names

pub params_visible : (ps : List Parameter) (s : Scope) → (after_params s ps).visible ≡ s.visible ++ locals_of ps
params_visible [] s = sym (append-nil s.visible)
params_visible (p ∷ ps) s = params_visible ps (declared s p.name (binding_of_shape p.shape)) ∙ append_assoc s.visible (param_local p ∷ []) (locals_of ps)

pub vars_visible : (vs : List Accumulator) (s : Scope) → (after_vars s vs).visible ≡ s.visible ++ accs_of vs
vars_visible [] s = sym (append-nil s.visible)
vars_visible (v ∷ vs) s = vars_visible vs (declared s v.name (binding.Accumulator v.type)) ∙ append_assoc s.visible (var_local v ∷ []) (accs_of vs)

pub param_visible : (k : Program) → (param_scope k).visible ≡ locals_of k.params
param_visible k = params_visible k.params (empty (loop_index k))

pub var_visible : (k : Program) → (var_scope k).visible ≡ locals_of k.params ++ accs_of k.vars
var_visible k = vars_visible k.vars (param_scope k) ∙ ap (λ xs. xs ++ accs_of k.vars) (param_visible k)

-- ---- the name of the loop variable

params_index : (ps : List Parameter) (s : Scope) → (after_params s ps).index ≡ s.index
params_index [] s = refl
params_index (p ∷ ps) s = params_index ps (declared s p.name (binding_of_shape p.shape))

vars_index : (vs : List Accumulator) (s : Scope) → (after_vars s vs).index ≡ s.index
vars_index [] s = refl
vars_index (v ∷ vs) s = vars_index vs (declared s v.name (binding.Accumulator v.type))

for_loop_index : (o : Option PlainLoop) (s : Scope) → (after_for_loop s o).index ≡ s.index
for_loop_index None s = refl
for_loop_index (Some l) s = refl

pub param_index : (k : Program) → (param_scope k).index ≡ loop_index k
param_index k = params_index k.params (empty (loop_index k))

pub scope_index : (k : Program) → (var_scope k).index ≡ loop_index k
scope_index k = vars_index k.vars (param_scope k) ∙ param_index k

pub last_index : (k : Program) → (after_for_loop (var_scope k) k.for_loop).index ≡ loop_index k
last_index k = for_loop_index k.for_loop (var_scope k) ∙ scope_index k

index_defined : (s : Scope) (x : List ℕ) (o : Option Ty) → (defined s x o).index ≡ s.index
index_defined s x None = refl
index_defined s x (Some t) = refl

pub index_after : (s : Scope) (a : Action) → (after_action s a).index ≡ s.index
index_after s (Define x t e) = index_defined s x (first t (own s e))
index_after s other = refl

-- ---- outside the loop

params_inside : (ps : List Parameter) (s : Scope) → (after_params s ps).inside ≡ s.inside
params_inside [] s = refl
params_inside (p ∷ ps) s = params_inside ps (declared s p.name (binding_of_shape p.shape))

vars_inside : (vs : List Accumulator) (s : Scope) → (after_vars s vs).inside ≡ s.inside
vars_inside [] s = refl
vars_inside (v ∷ vs) s = vars_inside vs (declared s v.name (binding.Accumulator v.type))

pub param_outside : (k : Program) → (param_scope k).inside ≡ false
param_outside k = params_inside k.params (empty (loop_index k))

pub scope_outside : (k : Program) → (var_scope k).inside ≡ false
scope_outside k = vars_inside k.vars (param_scope k) ∙ param_outside k

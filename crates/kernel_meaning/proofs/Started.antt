-- The names at the start of the loop: the parameters with their arguments, and the accumulators.
use Rattle.std.proofs.Common.{◌≡◌, ℕ, Bool, true, false, cond, List, [], ◌∷◌, ◌++◌, Option, Some, None, refl, sym, ap, ◌∙◌, subst, append_assoc}
use Rattle.std.proofs.lemmas.List.{append-nil}
use Rattle.std.specs.Prelude.{ℤ, pos, bytes_eq, find, option_map, option_and_then, slice_index, drop, unwrap_or}
use Rattle.kernel_tree.specs.declared.ops.Ty.{Ty}
use Rattle.kernel_tree.specs.Plain.{Parameter, Accumulator, PlainLoop, Program}
use Rattle.kernel_tree.specs.Typing.{Scope, Local, local, has_name, binding_of, lookup, declared, binding_of_shape, param_scope, var_scope}
use Rattle.kernel_tree.specs.Scopes.{locals_of, accs_of}
use Rattle.kernel_tree.proofs.Scopes.{var_visible}
use Rattle.kernel_tree.proofs.Names.{accumulator_is_no_scalar}
use Rattle.guest_types.specs.Memory.{Memory}
use Rattle.kernel_meaning.specs.Operators.{word}
use Rattle.kernel_meaning.specs.Eval.{Names, is_named, value_of, value_at, value}
use Rattle.kernel_meaning.specs.Iterate.{named, with_name}
use Rattle.kernel_meaning.specs.ScalarRun.{argument_names, initial, argument, started, bound_of}
use Rattle.kernel_tree.specs.declared.fault.Binding.TheVariants as binding

-- ---- the names

-- the names from before the loop are those that are visible there
abbrev pub SameNames : List Local → Names → Type 0
SameNames [] [] = Unit {0}
SameNames [] (n ∷ names) = ⊥
SameNames (x ∷ xs) [] = ⊥
SameNames (x ∷ xs) (n ∷ names) = (x.name ≡ n.name) × SameNames xs names

param_names : (ps : List Parameter) (args : List ℕ) → SameNames (locals_of ps) (argument_names ps args)
param_names [] args = tt
param_names (p ∷ ps) args = (refl, param_names ps (drop 1 args))

both_names : (xs ys : List Local) (ns ms : Names) → SameNames xs ns → SameNames ys ms → SameNames (xs ++ ys) (ns ++ ms)
both_names [] ys [] ms h k = k
both_names [] ys (n ∷ ns) ms h k = elim h [ ]
both_names (x ∷ xs) ys [] ms h k = elim h [ ]
both_names (x ∷ xs) ys (n ∷ ns) ms h k = (h.0, both_names xs ys ns ms h.1 k)

initial_names : (scope : Scope) (vs : List Accumulator) (m : Memory) (names after : Names) → initial scope vs m names ≡ Some after → (more : Names) × (after ≡ names ++ more) × SameNames (accs_of vs) more
initial_names scope [] m names after e = ([], (let same : names ≡ after = cc in sym same) ∙ sym (append-nil names), tt)
initial_names scope (v ∷ vs) m names after e = by_value (value scope (Some v.type) v.init m names) e (initial_names (declared scope v.name (binding.Accumulator v.type)) vs m)
  where
    by_value : (o : Option ℤ) → option_and_then (initial (declared scope v.name (binding.Accumulator v.type)) vs m) (option_map (with_name v.name names) o) ≡ Some after
        → ((names after : Names) → initial (declared scope v.name (binding.Accumulator v.type)) vs m names ≡ Some after → (more : Names) × (after ≡ names ++ more) × SameNames (accs_of vs) more)
        → (more : Names) × (after ≡ names ++ more) × SameNames (accs_of (v ∷ vs)) more
    by_value None e ih = absurd cc
    by_value (Some z) e ih =
        let r = ih (with_name v.name names z) after e in
        (named v.name z ∷ r.0, r.1 ∙ append_assoc names (named v.name z ∷ []) r.0, (refl, r.2))

-- the names at the start of the loop: the parameters with their arguments, and the accumulators
pub started_names : (k : Program) (args : List ℕ) (m : Memory) (names : Names) → started k args m ≡ Some names → (more : Names) × (names ≡ argument_names k.params args ++ more) × SameNames (accs_of k.vars) more
started_names k args m names e = initial_names (param_scope k) k.vars m (argument_names k.params args) names e

pub visible_names : (k : Program) (args : List ℕ) (m : Memory) (names : Names) → started k args m ≡ Some names → SameNames (var_scope k).visible names
visible_names k args m names e =
    let r = started_names k args m names e in
    subst (λ vs. SameNames vs names) (sym (var_visible k)) (subst (λ ns. SameNames (locals_of k.params ++ accs_of k.vars) ns) (sym r.1) (both_names (locals_of k.params) (accs_of k.vars) (argument_names k.params args) r.0 (param_names k.params args) r.2))

-- ---- the bound of the loop is a parameter

front_value : (ps : List Parameter) (vs : List Accumulator) (args : List ℕ) (more : Names) (x : List ℕ) (t : Ty) → option_map binding_of (find (has_name x) (locals_of ps ++ accs_of vs)) ≡ Some (binding.Scalar t) → value_at (argument_names ps args ++ more) x ≡ value_at (argument_names ps args) x
front_value [] vs args more x t e = absurd (accumulator_is_no_scalar vs x t e)
front_value (p ∷ ps) vs args more x t e = by_test (bytes_eq p.name x) e (front_value ps vs (drop 1 args) more x t)
  where
    by_test : (b : Bool) → option_map binding_of (cond b (Some (local p.name (binding_of_shape p.shape))) (find (has_name x) (locals_of ps ++ accs_of vs))) ≡ Some (binding.Scalar t)
        → (option_map binding_of (find (has_name x) (locals_of ps ++ accs_of vs)) ≡ Some (binding.Scalar t) → value_at (argument_names ps (drop 1 args) ++ more) x ≡ value_at (argument_names ps (drop 1 args)) x)
        → unwrap_or (option_map value_of (cond b (Some (named p.name (argument p.shape (slice_index args 0)))) (find (is_named x) (argument_names ps (drop 1 args) ++ more)))) (pos 0) ≡ unwrap_or (option_map value_of (cond b (Some (named p.name (argument p.shape (slice_index args 0)))) (find (is_named x) (argument_names ps (drop 1 args))))) (pos 0)
    by_test true e h = refl
    by_test false e h = h e

pub started_bound : (k : Program) (l : PlainLoop) (args : List ℕ) (m : Memory) (names : Names) (t : Ty) → started k args m ≡ Some names → lookup (var_scope k) l.bound ≡ Some (binding.Scalar t) → bound_of l names ≡ bound_of l (argument_names k.params args)
started_bound k l args m names t e h =
    let r = started_names k args m names e in
    let found : option_map binding_of (find (has_name l.bound) (locals_of k.params ++ accs_of k.vars)) ≡ Some (binding.Scalar t) = ap (λ vs. option_map binding_of (find (has_name l.bound) vs)) (sym (var_visible k)) ∙ h in
    ap (λ ns. word (value_at ns l.bound)) r.1 ∙ ap word (front_value k.params k.vars args r.0 l.bound t found)

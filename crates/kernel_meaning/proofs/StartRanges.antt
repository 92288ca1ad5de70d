-- The names at the start of a loop have values of their types, where no rule fails in the initial values.
use Rattle.std.proofs.Common.{◌≡◌, ℕ, ◌+◌, List, [], ◌∷◌, ◌++◌, Option, Some, None, refl, sym, subst, append-nil, append_assoc}
use Rattle.std.specs.Prelude.{ℤ, pos, drop, slice_index, option_map, option_and_then}
use Rattle.guest_types.specs.Memory.{Memory}
use Rattle.kernel_tree.specs.declared.ast.Shape.{Shape}
use Rattle.kernel_tree.specs.Plain.{Parameter, Accumulator, Program}
use Rattle.kernel_tree.specs.Items.{term_size, loop_index}
use Rattle.kernel_tree.specs.Typing.{Scope, Value, local, value_type, declared, binding_of_shape, empty, after_params, after_vars, param_scope, var_scope, twice, faults, vars_faults}
use Rattle.kernel_meaning.specs.TypeValues.{IsOf}
use Rattle.kernel_meaning.specs.Eval.{Names, value}
use Rattle.kernel_meaning.specs.Iterate.{named, with_name}
use Rattle.kernel_meaning.specs.ScalarRun.{argument, argument_names, initial, started}
use Rattle.kernel_meaning.specs.Ranges.{TypeRange, AreRanged}
use Rattle.kernel_meaning.proofs.TypeRanges.{wrap-is_of}
use Rattle.kernel_meaning.proofs.NameRanges.{ranged_more}
use Rattle.kernel_meaning.proofs.ValueRanges.{typed, value_range}
use Rattle.kernel_tree.proofs.Faultless.{nil-left, nil-right}
use Rattle.kernel_tree.specs.declared.ast.Shape.TheVariants as shape
use Rattle.kernel_tree.specs.declared.fault.Binding.TheVariants as binding

shape_range : (x : Shape) (a : ℕ) → TypeRange (value_type (binding_of_shape x)) (argument x a)
shape_range (shape.Scalar t) a = wrap-is_of t (pos a)
shape_range (shape.Array t) a = tt

pub given_ranged : (ps : List Parameter) (s : Scope) (names : Names) (args : List ℕ) → AreRanged s.visible names → AreRanged (after_params s ps).visible (names ++ argument_names ps args)
given_ranged [] s names args h = subst (AreRanged s.visible) (sym (append-nil names)) h
given_ranged (p ∷ ps) s names args h =
    let v = argument p.shape (slice_index args 0) in
    subst (AreRanged (after_params (declared s p.name (binding_of_shape p.shape)) ps).visible) (append_assoc names (named p.name v ∷ []) (argument_names ps (drop 1 args)))
    (given_ranged ps (declared s p.name (binding_of_shape p.shape)) (names ++ named p.name v ∷ []) (drop 1 args)
    (ranged_more s.visible names (local p.name (binding_of_shape p.shape)) v h (shape_range p.shape (slice_index args 0))))

initial_ranged : (vs : List Accumulator) (s : Scope) (from : ℕ) (m : Memory) (names after : Names) → vars_faults s from vs ≡ [] → AreRanged s.visible names → initial s vs m names ≡ Some after → AreRanged (after_vars s vs).visible after
initial_ranged [] s from m names after none r e = let same : names ≡ after = cc in subst (AreRanged s.visible) same r
initial_ranged (v ∷ vs) s from m names after none r e =
    by (value s (Some v.type) v.init m names) refl e
    (λ z of is. initial_ranged vs (declared s v.name (binding.Accumulator v.type)) (item + 1) m (with_name v.name names z) after (nil-right (twice item s v.name) _ (nil-right (faults s from (Value (Some v.type)) v.init) _ none))
    (ranged_more s.visible names (local v.name (binding.Accumulator v.type)) z r of) is)
  where
    item : ℕ
    item = from + term_size s.index v.init

    by : (o : Option ℤ) → value s (Some v.type) v.init m names ≡ o → option_and_then (initial (declared s v.name (binding.Accumulator v.type)) vs m) (option_map (with_name v.name names) o) ≡ Some after
        → ((z : ℤ) → IsOf v.type z → initial (declared s v.name (binding.Accumulator v.type)) vs m (with_name v.name names z) ≡ Some after → AreRanged (after_vars s (v ∷ vs)).visible after) → AreRanged (after_vars s (v ∷ vs)).visible after
    by None is e more = absurd cc
    by (Some z) is e more = more z (value_range v.init s v.type m names z (typed v.init s from v.type (nil-left (faults s from (Value (Some v.type)) v.init) _ none)) r is) e

pub started_ranged : (k : Program) (args : List ℕ) (from : ℕ) (m : Memory) (names : Names) → vars_faults (param_scope k) from k.vars ≡ [] → started k args m ≡ Some names → AreRanged (var_scope k).visible names
started_ranged k args from m names none e = initial_ranged k.vars (param_scope k) from m (argument_names k.params args) names none (given_ranged k.params (empty (loop_index k)) [] args tt) e

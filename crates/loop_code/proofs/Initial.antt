-- The initial values of a checked kernel: none of them reads memory, so none faults.
use Rattle.std.proofs.Common.{◌≡◌, ℕ, false, List, [], ◌∷◌, length, Option, Some, None, refl}
use Rattle.std.specs.Prelude.{ℤ, option_map, option_and_then}
use Rattle.guest_types.specs.Memory.{Memory}
use Rattle.kernel_tree.specs.Plain.{Accumulator, Program}
use Rattle.kernel_tree.specs.Typing.{Scope, declared, param_scope, vars_faults, check_fault}
use Rattle.kernel_tree.proofs.Faultless.{nil-left, nil-right, vars_faultless}
use Rattle.kernel_tree.proofs.Scopes.{param_outside}
use Rattle.kernel_meaning.specs.Eval.{Names, value}
use Rattle.kernel_meaning.specs.Iterate.{with_name}
use Rattle.kernel_meaning.specs.ScalarRun.{initial, argument_names, started}
use Rattle.scalar_words.proofs.Present.{IsThere, value_there}
use Rattle.kernel_tree.specs.declared.fault.Binding.TheVariants as binding

initial_step : (v : Accumulator) (vs : List Accumulator) (s : Scope) (m : Memory) (names : Names) (o : Option ℤ) → IsThere o → ((names : Names) → IsThere (initial (declared s v.name (binding.Accumulator v.type)) vs m names)) → IsThere (option_and_then (initial (declared s v.name (binding.Accumulator v.type)) vs m) (option_map (with_name v.name names) o))
initial_step v vs s m names None h on = absurd cc
initial_step v vs s m names (Some x) h on = on (with_name v.name names x)

initial_there : (vs : List Accumulator) (s : Scope) (from : ℕ) (m : Memory) (names : Names) → s.inside ≡ false → vars_faults s from vs ≡ [] → IsThere (initial s vs m names)
initial_there [] s from m names out h = (names, refl)
initial_there (v ∷ vs) s from m names out h =
    initial_step v vs s m names (value s (Some v.type) v.init m names) (value_there v.init s from (Some v.type) m names out (nil-left _ _ h))
    (λ more. initial_there vs (declared s v.name (binding.Accumulator v.type)) _ m more out (nil-right _ _ (nil-right _ _ h)))

-- every checked kernel comes to its loop
pub all_start : (k : Program) (args : List ℕ) (m : Memory) → check_fault k ≡ None → (names : Names) × (started k args m ≡ Some names)
all_start k args m e = initial_there k.vars (param_scope k) (length k.params) m (argument_names k.params args) (param_outside k) (vars_faultless k e)

-- A kernel that meets the rules has at most 1,000 items.
use Rattle.std.proofs.Common.{◌≡◌, ℕ, ◌≤◌, Bool, true, false, Option, Some, None, refl, arith, cond}
use Rattle.std.proofs.lemmas.Bool.{ltb-false}
use Rattle.kernel_tree.specs.Plain.{Accumulator, Program}
use Rattle.kernel_tree.specs.Items.{size_of, loop_index, vars_size}
use Rattle.kernel_tree.specs.Limits.{most_items}
use Rattle.kernel_tree.specs.Typing.{TooLarge, check_fault}
use Rattle.std.specs.Prelude.{nat_lt, length, List, [], ◌∷◌}

-- the size of a kernel, and the fault that is answered where its size is not too great
chosen : {A : Type 0} (b : Bool) (x : A) (o : Option A) → cond b (Some x) o ≡ None → b ≡ false
chosen true x o e = absurd cc
chosen false x o e = refl

pub size-small : (k : Program) → check_fault k ≡ None → size_of k ≤ 1000
size-small k e = ltb-false most_items (size_of k) (chosen (nat_lt most_items (size_of k)) (TooLarge (size_of k)) _ e)

pub vars-small : (i : Option (List ℕ)) (vs : List Accumulator) → length vs ≤ vars_size i vs
vars-small i [] = omega arith
vars-small i (v ∷ vs) = omega (arith, vars-small i vs)

pub params-few : (k : Program) → check_fault k ≡ None → length k.params ≤ 1000
params-few k e = omega (arith, size-small k e)

pub vars-few : (k : Program) → check_fault k ≡ None → length k.vars ≤ 1000
vars-few k e = omega (arith, size-small k e, vars-small (loop_index k) k.vars)

-- One step of a walk over iterations and over arguments.
use Rattle.std.proofs.Common.{◌≡◌, ℕ, zero, suc, ◌+◌, ◌-◌, ◌<◌, List, [], ◌∷◌, ◌++◌, map, drop, pos, replicate, refl, sym, ap, ap₂, ◌∙◌, append_assoc, arith}
use Rattle.std.specs.Prelude.{ℤ, slice_index}
use Rattle.kernel_tree.specs.Plain.{Parameter}
use Rattle.guest_types.specs.Memory.{Memory}
use Rattle.kernel_meaning.specs.Ends.{BlockEnd, Going, go_on}
use Rattle.kernel_meaning.specs.Eval.{value_of}
use Rattle.kernel_meaning.specs.ScalarRun.{argument, argument_names}
use Rattle.kernel_eval.specs.Slots.{Slots}
use Rattle.kernel_plan.specs.Plans.{LoopPlan}
use Rattle.kernel_eval.specs.SlotRuns.{slot_iteration, slot_iterations}

pub iterations_step : (l : LoopPlan) (count at : ℕ) (m : Memory) (vs : Slots) (stand : BlockEnd Slots) → at < count → stand ≡ slot_iteration l at m vs → go_on stand at (slot_iterations l (count - (at + 1)) (at + 1)) ≡ slot_iterations l (count - at) at m vs
unfolding slot_iterations
iterations_step l count at m vs stand lt h =
    let e : count - at ≡ suc (count - (at + 1)) = omega arith in
    ap (λ s. go_on s at (slot_iterations l (count - (at + 1)) (at + 1))) h ∙ ap (λ n. slot_iterations l n at m vs) (sym e)

pub iterations_done : (l : LoopPlan) (n at : ℕ) (m : Memory) (vs : Slots) → n ≡ 0 → Going m vs ≡ slot_iterations l n at m vs
unfolding slot_iterations
iterations_done l n at m vs e = ap (λ n. slot_iterations l n at m vs) (sym e)

index_from : (xs : List ℕ) (i : ℕ) → slice_index xs i ≡ slice_index (drop i xs) 0
index_from xs zero = refl
index_from [] (suc i) = refl
index_from (x ∷ xs) (suc i) = index_from xs i

drop_next : (xs : List ℕ) (i : ℕ) → drop (suc i) xs ≡ drop 1 (drop i xs)
drop_next xs zero = refl
drop_next [] (suc i) = refl
drop_next (x ∷ xs) (suc i) = drop_next xs i

pub given_step : (xs ys : Slots) (ps qs : List Parameter) (p : Parameter) (args : List ℕ) (i : ℕ) (z : ℤ) → qs ≡ p ∷ ps → ys ≡ xs ++ z ∷ [] → z ≡ argument p.shape (slice_index args i) → ys ++ map value_of (argument_names ps (drop (i + 1) args)) ≡ xs ++ map value_of (argument_names qs (drop i args))
given_step xs ys ps qs p args i z e f h =
    let n : i + 1 ≡ suc i = omega arith in
    rw (e, f) (append_assoc xs (z ∷ []) (map value_of (argument_names ps (drop (i + 1) args)))
    ∙ ap₂ (λ w rest. xs ++ w ∷ map value_of (argument_names ps rest)) (h ∙ ap (argument p.shape) (index_from args i)) (ap (λ k. drop k args) n ∙ drop_next args i))

replicate_more : (k : ℕ) (z : ℤ) → replicate k z ++ z ∷ [] ≡ replicate (suc k) z
replicate_more zero z = refl
replicate_more (suc k) z = ap (λ xs. z ∷ xs) (replicate_more k z)

-- a zero more
pub pad_step : (xs ys zs : Slots) (n k : ℕ) → ys ≡ xs ++ replicate k (pos 0) → zs ≡ ys ++ pos 0 ∷ [] → n ≡ suc k → zs ≡ xs ++ replicate n (pos 0)
pad_step xs ys zs n k e f h = f ∙ ap (λ ws. ws ++ pos 0 ∷ []) e ∙ append_assoc xs (replicate k (pos 0)) (pos 0 ∷ []) ∙ ap (λ ws. xs ++ ws) (replicate_more k (pos 0)) ∙ ap (λ m. xs ++ replicate m (pos 0)) (sym h)

-- A kernel within the limits is refused for its first fault.
use Rattle.std.proofs.Common.{◌≡◌, ℕ, ◌<◌, ◌≤◌, Bool, false, cond, Option, Some, None, refl, sym, ap, subst, ◌∙◌, arith}
use Rattle.std.specs.Prelude.{option_map}
use Rattle.std.proofs.lemmas.Bool.{le-ltb, lt-ltb}
use Rattle.kernel_tree.specs.declared.fault.Found.{Found}
use Rattle.kernel_tree.specs.Plain.{Program}
use Rattle.kernel_tree.specs.Items.{size_of}
use Rattle.kernel_tree.specs.Limits.{depth_of, most_items, most_depth}
use Rattle.kernel_tree.specs.Typing.{Refusal, TooLarge, TooDeep, Fails, kernel_faults, least, check_fault}
use Rattle.kernel_types.specs.declared.fault.TypeFault.{TypeFault}
use Rattle.kernel_types.specs.Causes.{IsCause}

first_fault_within_limits : (k : Program) (large deep : Bool) → large ≡ false → deep ≡ false → cond large (Some (TooLarge (size_of k))) (cond deep (Some (TooDeep (depth_of k))) (option_map Fails (least (kernel_faults k)))) ≡ option_map Fails (least (kernel_faults k))
first_fault_within_limits k large deep e f = rw (e, f) refl

pub fails_first : (k : Program) (o : Option Found) (f : Found) (answer : TypeFault) → size_of k ≤ most_items → depth_of k ≤ most_depth → o ≡ least (kernel_faults k) → o ≡ Some f → IsCause (Some (Fails f)) answer → IsCause (check_fault k) answer
fails_first k o f answer small flat e g h =
    let first : option_map Fails (least (kernel_faults k)) ≡ Some (Fails f) = ap (option_map Fails) (sym e ∙ g) in
    let is : check_fault k ≡ Some (Fails f) = first_fault_within_limits k _ _ (le-ltb most_items (size_of k) small) (le-ltb most_depth (depth_of k) flat) ∙ first in
    subst (λ (r : Option Refusal). IsCause r answer) (sym is) h

pub too_large : (k : Program) (size : ℕ) → size ≡ size_of k → most_items < size → check_fault k ≡ Some (TooLarge size)
too_large k size e h =
    let large = lt-ltb most_items (size_of k) (omega (arith, e, h)) in
    rw (large, e) refl

pub too_deep : (k : Program) (size depth : ℕ) → size ≡ size_of k → size ≤ most_items → depth ≡ depth_of k → most_depth < depth → check_fault k ≡ Some (TooDeep depth)
too_deep k size depth d g e h =
    let small = le-ltb most_items (size_of k) (omega (arith, d, g)) in
    let deep = lt-ltb most_depth (depth_of k) (omega (arith, e, h)) in
    rw (small, deep, e) refl

pub fails_never : (k : Program) (o : Option Found) → size_of k ≤ most_items → depth_of k ≤ most_depth → o ≡ least (kernel_faults k) → o ≡ None → check_fault k ≡ None
fails_never k o small flat e g = first_fault_within_limits k _ _ (le-ltb most_items (size_of k) small) (le-ltb most_depth (depth_of k) flat) ∙ ap (option_map Fails) (sym e ∙ g)

-- A value that reads no memory is there.
use Rattle.std.proofs.Common.{◌≡◌, ℕ, ◌+◌, Bool, true, false, [], Option, Some, None, refl, ap}
use Rattle.std.specs.Prelude.{ℤ, not, option_map}
use Rattle.guest_types.specs.Memory.{Memory}
use Rattle.kernel_tree.specs.declared.ops.Ty.{Ty}
use Rattle.kernel_tree.specs.Plain.{Term, Literal, Variable, Element, Unary, Operation, Shift, Conversion, Choice, Comparison, Both, Either, Not}
use Rattle.kernel_tree.specs.Items.{index_items}
use Rattle.kernel_tree.specs.Typing.{Scope, Value, Condition, lookup, own, side_type, faults}
use Rattle.kernel_tree.proofs.Faultless.{nil-left, nil-right}
use Rattle.kernel_tree.proofs.NoFault.{outside_read}
use Rattle.kernel_meaning.specs.Eval.{Names, value, holds, on_both, and_then, or_else, chosen}

-- there is one
abbrev pub IsThere : {A : Type 0} → Option A → Type 0
IsThere {A = A} o = (x : A) × (o ≡ Some x)

map_there : {A B : Type 0} (f : A → B) (o : Option A) → IsThere o → IsThere (option_map f o)
map_there f o h = (f h.0, ap (option_map f) h.1)

both_there : {A : Type 0} (f : ℤ → ℤ → A) (a b : Option ℤ) → IsThere a → IsThere b → IsThere (on_both f a b)
both_there f None b h k = absurd cc
both_there f (Some x) None h k = absurd cc
both_there f (Some x) (Some y) h k = (f x y, refl)

chosen_there : (a b : Option ℤ) (c : Option Bool) → IsThere a → IsThere b → IsThere c → IsThere (chosen a b c)
chosen_there a b None h k j = absurd cc
chosen_there None b (Some c) h k j = absurd cc
chosen_there (Some x) None (Some c) h k j = absurd cc
chosen_there (Some x) (Some y) (Some c) h k j = (_, refl)

and_there : (a b : Option Bool) → IsThere a → IsThere b → IsThere (and_then a b)
and_there None b h k = absurd cc
and_there (Some true) b h k = k
and_there (Some false) b h k = (false, refl)

or_there : (a b : Option Bool) → IsThere a → IsThere b → IsThere (or_else a b)
or_there None b h k = absurd cc
or_there (Some true) b h k = (true, refl)
or_there (Some false) b h k = k

mutual
  pub value_there : (e : Term) (s : Scope) (from : ℕ) (want : Option Ty) (m : Memory) (names : Names) → s.inside ≡ false → faults s from (Value want) e ≡ [] → IsThere (value s want e m names)
  value_there (Literal n) s from want m names out h = (_, refl)
  value_there (Variable x) s from want m names out h = (_, refl)
  value_there (Element a i) s from want m names out h = absurd (outside_read (from + index_items s.index i) s.inside want (lookup s a) out (nil-left _ _ (nil-right _ _ h)))
  value_there (Unary op e) s from want m names out h = map_there _ _ (value_there e s _ want m names out (nil-left _ _ h))
  value_there (Operation op a b) s from want m names out h = both_there _ _ _ (value_there a s _ want m names out (nil-left _ _ h)) (value_there b s _ want m names out (nil-left _ _ (nil-right _ _ h)))
  value_there (Shift l e n) s from want m names out h = map_there _ _ (value_there e s _ want m names out (nil-left _ _ h))
  value_there (Conversion e t) s from want m names out h = map_there _ _ (value_there e s _ (own s e) m names out (nil-left _ _ h))
  value_there (Choice c a b) s from want m names out h =
      chosen_there _ _ _ (value_there a s _ want m names out (nil-left _ _ h)) (value_there b s _ want m names out (nil-left _ _ (nil-right _ _ h))) (truth_there c s _ m names out (nil-left _ _ (nil-right _ _ (nil-right _ _ h))))
  value_there (Comparison op a b) s from want m names out h = (_, refl)
  value_there (Both a b) s from want m names out h = (_, refl)
  value_there (Either a b) s from want m names out h = (_, refl)
  value_there (Not e) s from want m names out h = (_, refl)

  truth_there : (e : Term) (s : Scope) (from : ℕ) (m : Memory) (names : Names) → s.inside ≡ false → faults s from Condition e ≡ [] → IsThere (holds s e m names)
  truth_there (Literal n) s from m names out h = (_, refl)
  truth_there (Variable x) s from m names out h = (_, refl)
  truth_there (Element a i) s from m names out h = (_, refl)
  truth_there (Unary op e) s from m names out h = (_, refl)
  truth_there (Operation op a b) s from m names out h = (_, refl)
  truth_there (Shift l e n) s from m names out h = (_, refl)
  truth_there (Conversion e t) s from m names out h = (_, refl)
  truth_there (Choice c a b) s from m names out h = (_, refl)
  truth_there (Comparison op a b) s from m names out h = both_there _ _ _ (value_there a s _ (side_type s a b) m names out (nil-left _ _ h)) (value_there b s _ (side_type s a b) m names out (nil-left _ _ (nil-right _ _ h)))
  truth_there (Both a b) s from m names out h = and_there _ _ (truth_there a s _ m names out (nil-left _ _ h)) (truth_there b s _ m names out (nil-left _ _ (nil-right _ _ h)))
  truth_there (Either a b) s from m names out h = or_there _ _ (truth_there a s _ m names out (nil-left _ _ h)) (truth_there b s _ m names out (nil-left _ _ (nil-right _ _ h)))
  truth_there (Not e) s from m names out h = map_there not _ (truth_there e s _ m names out (nil-left _ _ h))

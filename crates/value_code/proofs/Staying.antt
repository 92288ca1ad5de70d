-- What is known not to leave the extended form of its type has the word of its result wrapped to the type.
use Rattle.std.proofs.Common.{◌≡◌, refl, ap, Bool, true, false, Some}
use Rattle.std.specs.Prelude.{ℤ, not, ◌&&◌}
use Rattle.guest_types.specs.Memory.{Memory}
use Rattle.kernel_tree.specs.declared.ops.Ty.{Ty}
use Rattle.kernel_tree.specs.declared.ops.UnaryOp.{UnaryOp}
use Rattle.kernel_tree.specs.declared.ops.BinaryOp.{BinaryOp}
use Rattle.kernel_tree.specs.Plain.{Term}
use Rattle.kernel_tree.specs.Typing.{Scope}
use Rattle.kernel_tree.specs.Wrap.{wrap}
use Rattle.kernel_meaning.specs.Operators.{word, unary_on, binary_on, shift_on, shift_count}
use Rattle.kernel_meaning.specs.TypeValues.{IsOf, unary_leaves, binary_leaves}
use Rattle.kernel_meaning.specs.Eval.{Names, value}
use Rattle.kernel_meaning.specs.Ranges.{AreRanged}
use Rattle.kernel_meaning.proofs.ExtendedForm.{unary-kept, binary-kept, shift-kept}
use Rattle.value_bounds.specs.ValueBounds.{unary_bounds, binary_bounds, shift_bounds, bounds_of, unary_stays, binary_stays, shift_stays}
use Rattle.value_bounds.proofs.InBounds.{AreTyped, stays_unwrapped, unary_known, binary_known, shift_known, within_bounds}
use Rattle.value_code.specs.Leaving.{unary_may_leave, binary_may_leave, shift_may_leave}

and_not : {A : Type 0} (a b : Bool) → (a && not b) ≡ false → (a ≡ false → A) → (b ≡ true → A) → A
and_not true true e f g = g refl
and_not true false e f g = absurd cc
and_not false b e f g = f refl

module _ (s : Scope) (m : Memory) (names : Names) (ranged : AreRanged s.visible names) (t : Ty) where
  pub unary_keeps : (op : UnaryOp) (e : Term) (x : ℤ) → AreTyped s (Some t) e → value s (Some t) e m names ≡ Some x → IsOf t x → unary_may_leave s (Some t) op e ≡ false → word (wrap t (unary_on op x)) ≡ word (unary_on op x)
  unary_keeps op e x typed is of h =
      let b = bounds_of s (Some t) e in
      and_not (unary_leaves op t) (unary_stays s (Some t) op e) h
      (λ k. unary-kept op t x of k)
      (λ k. ap word (stays_unwrapped t (unary_bounds op b) (unary_on op x) k (unary_known op b x (within_bounds s m names ranged e t x typed is))))

  pub binary_keeps : (op : BinaryOp) (e f : Term) (x y : ℤ) → AreTyped s (Some t) e → AreTyped s (Some t) f → value s (Some t) e m names ≡ Some x → value s (Some t) f m names ≡ Some y → IsOf t x → IsOf t y → binary_may_leave s (Some t) op e f ≡ false
      → word (wrap t (binary_on op x y)) ≡ word (binary_on op x y)
  binary_keeps op e f x y typed types is js of also h =
      let b = bounds_of s (Some t) e in
      let c = bounds_of s (Some t) f in
      and_not (binary_leaves op) (binary_stays s (Some t) op e f) h
      (λ k. binary-kept op t x y of also k)
      (λ k. ap word (stays_unwrapped t (binary_bounds op b c) (binary_on op x y) k (binary_known op b c x y (within_bounds s m names ranged e t x typed is) (within_bounds s m names ranged f t y types js))))

  pub shift_keeps : (left : Bool) (e : Term) (n x : ℤ) → AreTyped s (Some t) e → value s (Some t) e m names ≡ Some x → IsOf t x → shift_may_leave s (Some t) left e n ≡ false → word (wrap t (shift_on left (shift_count n) x)) ≡ word (shift_on left (shift_count n) x)
  shift_keeps left e n x typed is of h =
      let b = bounds_of s (Some t) e in
      let k = shift_count n in
      and_not left (shift_stays s (Some t) left e n) h
      (λ q. shift-kept left k t x of q)
      (λ q. ap word (stays_unwrapped t (Some (shift_bounds left k b)) (shift_on left k x) q (shift_known left k b x (within_bounds s m names ranged e t x typed is))))
